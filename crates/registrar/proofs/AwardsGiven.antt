-- An award that is given is kept: it was let in by the sale as it found it, and says what is left of each right that was live.
use Rattle.std.proofs.Common.{◌≡◌, inl, inr, ℕ, ◌≤◌, nat_lt, Bool, true, false, cond, ◌==◌, List, IsSomeAnd, IsTrue, Some, None, is_some, option_and_then, option_map, refl, sym, ap, subst, ◌∙◌, ⊎_elim, arith}
use Rattle.std.specs.List.{AllByRecursion}
use Rattle.std.proofs.lemmas.Bool.{cases_Bool, false≢true}
use Rattle.std.proofs.lemmas.Bool.Decides.{nat_tests}
use Rattle.gb_base.specs.Keys.{same_key}
use Rattle.gb_base.specs.RightNo.{RightNo}
use Rattle.gb_base.specs.declared.keys.Key.{Key}
use Rattle.gb_base.specs.declared.keys.Key.TheVariants.{Right, Title}
use Rattle.gb_base.proofs.Members.{In, in_append_right, in_flat_map, in_map, of_flat_map}
use Rattle.act_model.proofs.KeyOrder.{itself}
use Rattle.act_model.specs.Receiving.{IsJournal}
use Rattle.act_model.specs.declared.receipts.Receipt.{Receipt}
use Rattle.auction_classes.specs.LowestBid.{remaining}
use Rattle.auction_classes.specs.SaleClaims.{claimed_in}
use Rattle.auction_classes.specs.Sales.{sale_at}
use Rattle.auction_classes.specs.declared.lowest_bids.Lowest.{Lowest}
use Rattle.auction_classes.proofs.KeptSales.{below_twice, created_here}
use Rattle.auction_classes.proofs.PartsRead.{numbered}
use Rattle.folio_line.specs.FolioRights.{is_live_with, live_by_act, right_where, rights_of}
use Rattle.folio_line.specs.declared.folio_rights.CreatedRight.{CreatedRight}
use Rattle.folio_sections.specs.Entries.{at, entry_by, with_entries}
use Rattle.folio_sections.specs.Fronts.{below}
use Rattle.folio_sections.specs.HeldRights.{receipt_numbers, right_numbers, rights_of_filing}
use Rattle.folio_sections.specs.Rights.{created, is_live}
use Rattle.folio_sections.specs.declared.entries.Created.{Created}
use Rattle.folio_sections.specs.declared.entries.Entry.{Entry}
use Rattle.folio_sections.specs.declared.entries.What.{What}
use Rattle.folio_sections.specs.declared.entries.What.TheVariants as what
use Rattle.folio_sections.proofs.FilteredLists.{in_filter, in_filter_map}
use Rattle.kept_registers.specs.Kept.{Kept}
use Rattle.registrar.specs.KeptAwards.{IsAwardKept, StandsBy, makes_owner, says_what_is_left}
use Rattle.registrar.proofs.AwardsAsBefore.{none_below_item}
use Rattle.registrar.proofs.ContainedParts.{any_of}
use Rattle.registrar.proofs.RightReads.{live_is_created}
use Rattle.registrar.proofs.RisingNumbers.{contains_of_in}
use Rattle.registrar.proofs.SaleGroundsFail.{IsAwardLetIn}
use Rattle.sale_rules.specs.SaleEntries.{award_entries, left_of, left_with}
use Rattle.sale_rules.specs.SaleGrounds.{lacks_call, lowest, short_of_cash}
use Rattle.sale_rules.specs.declared.awards.AwardRefusal.TheVariants as refusal

-- ---- a live right is among those of which an award says what is left

live_there : (stands : Key → List Entry) (folio : ℕ) (id : RightNo) (made : Created) → In id right_numbers → is_live (stands (Right folio id)) ≡ true → created (stands (Right folio id)) ≡ Some made
    → In (record { id = id; made = made }) (live_by_act stands folio)
live_there stands folio id made among live is =
    let from = of_flat_map rights_of_filing receipt_numbers id among in
    let here : right_where is_live_with stands folio id ≡ Some (record { id = id; made = made }) = λ j. option_map (λ m. record { id = id; made = m }) (cond (live j) (is j) None) in
    in_flat_map (rights_of is_live_with stands folio) receipt_numbers from.0 (record { id = id; made = made }) from.1
    (in_filter_map (right_where is_live_with stands folio) (rights_of_filing from.0) id (record { id = id; made = made }) from.2 here)

live_of_sale : (journal : List Receipt) (register : Key → List Entry) (folio i : ℕ) (id : RightNo) → Kept journal register → IsJournal journal → is_live (below i (register (Right folio id))) ≡ true
    → (x : CreatedRight) × In x (live_by_act (λ k. below i (register k)) folio) × (x.id ≡ id)
live_of_sale journal register folio i id kept stands live =
    let es = below i (register (Right folio id)) in
    elim (created es) as (λ o. created es ≡ o → is_some o ≡ true → (x : CreatedRight) × In x (live_by_act (λ k. below i (register k)) folio) × (x.id ≡ id)) [
      | None ↦ λ _ none. absurd (false≢true none)
      | Some made ↦ λ is _.
          let twice = ap created (below_twice i i (register (Right folio id)) (omega arith)) in
          let among = numbered journal folio id made stands (created_here journal register folio i i id made kept (twice ∙ is)) in
          (record { id = id; made = made }, live_there (λ k. below i (register k)) folio id made among live is, refl)
    ] refl (live_is_created es live)

-- ---- what is brought stands

-- an entry that is brought at its key, with such a content
pub stands_by : (says : What → Bool) (i : ℕ) (register : Key → List Entry) (es : List Entry) (e : Entry) (k : Key) → In e es → e.key ≡ k → e.receipt ≡ i → says e.what ≡ true
    → StandsBy says i (with_entries register es k)
stands_by says i register es e k there here by_item is =
    let own : same_key e.key k ≡ true = ap (λ j. same_key j k) here ∙ itself k in
    any_of (λ (d : Entry). (d.receipt ≡ i) × IsTrue (says d.what)) (with_entries register es k) e
    (contains_of_in (with_entries register es k) e (in_append_right (register k) (at es k) e (in_filter (λ (d : Entry). same_key d.key k) es e there own))) (by_item, is)

left_says : (cents : ℕ) → says_what_is_left (left_with cents) ≡ true
left_says cents = elim (cents == 0) as (λ b. says_what_is_left (cond b what.Expired (what.Remains cents)) ≡ true) [ true ↦ refl | false ↦ refl ]

enough : (bid : ℕ) (least : Lowest) → short_of_cash bid least ≡ None → least.cash ≤ bid
enough bid least none =
    ⊎_elim (λ less. absurd (false≢true (sym (ap is_some none) ∙ ap (λ b. is_some (cond b (Some (refusal.BidTooLow least.cash)) None)) less))) (λ no. grind (arith, nat_tests, no)) (cases_Bool (nat_lt bid least.cash))

-- ---- the award

pub award_given : (journal : List Receipt) (register : Key → List Entry) (folio i buyer bid : ℕ) (least : Lowest) → Kept journal register → IsJournal journal
    → lowest (sale_at journal register folio i) ≡ Some least → IsAwardLetIn (sale_at journal register folio i) bid
    → AllByRecursion (λ e. e.receipt ≡ i) (award_entries (sale_at journal register folio i) buyer bid least)
    → IsAwardKept journal (with_entries register (award_entries (sale_at journal register folio i) buyer bid least)) folio i bid
award_given journal register folio i buyer bid least kept stands is let_in by_item =
    let s = sale_at journal register folio i in
    let es = award_entries s buyer bid least in
    let same : (k : Key) → below i (with_entries register es k) ≡ below i (register k) = λ k. none_below_item i i (omega arith) register es by_item k in
    let found : sale_at journal (with_entries register es) folio i ≡ s = λ j. record { journal = journal; at = λ k. same k j; folio = folio; item = i } in
    record {
      called = subst (λ sale. lacks_call sale ≡ false) (sym found) let_in.called;
      paid = subst (λ sale. IsSomeAnd (lowest sale) (λ l. l.cash ≤ bid)) (sym found)
          (subst (λ o. IsSomeAnd o (λ l. l.cash ≤ bid)) (sym is) (enough bid least (sym (ap (option_and_then (short_of_cash bid)) is) ∙ let_in.enough)));
      owned = stands_by makes_owner i register es (entry_by journal i (Title folio) (what.AwardOwner buyer)) (Title folio) (inr (inl refl)) refl refl refl;
      left = λ right live.
          let x = live_of_sale journal register folio i right kept stands (sym (ap is_live (same (Right folio right))) ∙ live) in
          let e = left_of s least.cover x.0.id in
          stands_by says_what_is_left i register es e (Right folio right) (inr (inr (in_map (λ (y : CreatedRight). left_of s least.cover y.id) (live_by_act s.at folio) x.0 x.1)))
          (ap (Right folio) x.2) refl (left_says (remaining (claimed_in s) least.cover x.0.id));
    }
