-- What an award leaves of the rights of a folio; it can be entered at each right.
use Rattle.std.proofs.Common.{◌≡◌, ℕ, ◌<◌, ◌≤◌, Bool, true, false, cond, nat_lt, All, List, [], ◌∷◌, ◌++◌, filter_map, flat_map, fold, map, Contains, IsTrue, Option, Some, None, option_map, is_some, refl, sym, ap, subst, ◌∙◌, arith}
use Rattle.std.specs.List.{AllByRecursion, cons_option}
use Rattle.std.proofs.lemmas.Bool.{false≢true}
use Rattle.std.proofs.lemmas.Bool.Decides.{nat_tests}
use Rattle.std.proofs.lemmas.List.Elements.{recursion_from_All}
use Rattle.gb_base.specs.Limits.{most_cents}
use Rattle.gb_base.specs.RightNo.{RightNo}
use Rattle.gb_base.specs.declared.keys.Key.{Key}
use Rattle.gb_base.specs.declared.keys.Key.TheVariants.{Right}
use Rattle.act_model.specs.Receiving.{IsJournal}
use Rattle.act_model.specs.SaleKeys.{earlier_rights, keys_of_sale}
use Rattle.act_model.specs.declared.receipts.Receipt.{Receipt}
use Rattle.folio_sections.specs.Entries.{entry_by}
use Rattle.folio_sections.specs.Fronts.{below}
use Rattle.folio_sections.specs.Rights.{created, created_by, is_live, live_by}
use Rattle.folio_sections.specs.declared.entries.Created.{Created}
use Rattle.folio_sections.specs.declared.entries.Entry.{Entry}
use Rattle.folio_sections.specs.declared.entries.What.{What}
use Rattle.folio_sections.specs.declared.entries.What.TheVariants as what
use Rattle.folio_sections.specs.inner.RightsInKeys.{is_right_number}
use Rattle.folio_sections.proofs.FilteredLists.{all_in, flat_map_alike}
use Rattle.folio_sections.proofs.HeldRights.{has_number, in_right_numbers, of_right_numbers}
use Rattle.folio_sections.proofs.ListLemmas.{filter_all}
use Rattle.folio_sections.proofs.Unchanged.{all_weaker}
use Rattle.kept_registers.specs.Kept.{Kept}
use Rattle.kept_registers.specs.Standing.{StandsFor}
use Rattle.folio_line.specs.AllRights.{AscendByNumber}
use Rattle.folio_line.specs.FolioRights.{is_live_with, live_by_act}
use Rattle.folio_line.specs.inner.RightWalk.{right_found}
use Rattle.folio_line.specs.declared.folio_rights.CreatedRight.{CreatedRight}
use Rattle.folio_line.proofs.AllRights.{filed_are_all}
use Rattle.folio_line.proofs.CreatedRights.{is_in_ranges}
use Rattle.folio_line.proofs.RightWalks.{walk_is}
use Rattle.auction_classes.specs.LowestBid.{remaining}
use Rattle.auction_classes.specs.SaleClaims.{SaleClaims, claimed_in}
use Rattle.auction_classes.specs.Sales.{sale_at}
use Rattle.auction_classes.proofs.KeptSales.{below_twice, created_here}
use Rattle.auction_classes.proofs.RemainsWithin.{remains_within}
use Rattle.sale_rules.specs.SaleEntries.{left_of, left_with}
use Rattle.sale_rules.specs.inner.RightsLeft.{CanBeLeft, left_at}
use Rattle.sale_rules.proofs.FoundAsKept.{right_key}

-- ---- the parts as an award finds them

-- All that stands at the keys of the sale is by earlier items.
pub record FindsSale (journal : List Receipt) (holds : Key → Bool) (at register : Key → List Entry) (folio item : ℕ) : Type 0 where
  pub received : IsJournal journal
  pub stands : StandsFor holds at register
  pub kept : Kept journal register
  pub held : (k : Key) → Contains (keys_of_sale journal item folio) k → IsTrue (holds k)
  pub earlier : (k : Key) → Contains (keys_of_sale journal item folio) k → All (λ e. e.receipt < item) (at k)

all_earlier : (n : ℕ) (es : List Entry) → All (λ e. e.receipt < n) es → below n es ≡ es
all_earlier n es all =
    filter_all (λ e. nat_lt e.receipt n) es
    (all_weaker (λ (e : Entry). e.receipt < n) (λ e. nat_lt e.receipt n ≡ true) es (λ e less. grind (arith, nat_tests, less)) (recursion_from_All (λ (e : Entry). e.receipt < n) es all))

-- the parts have at a key of the sale what the register has there by earlier items
pub as_it_stands : (journal : List Receipt) (holds : Key → Bool) (at register : Key → List Entry) (folio item : ℕ) (k : Key) → FindsSale journal holds at register folio item
    → Contains (keys_of_sale journal item folio) k → below item (register k) ≡ at k
as_it_stands journal holds at register folio item k s there =
    ap (below item) (sym (s.stands k (s.held k there))) ∙ all_earlier item (at k) (s.earlier k there)

-- ---- what is left is an amount

-- what remains of each right can be entered
pub can_be_left : (journal : List Receipt) (holds : Key → Bool) (at register : Key → List Entry) (room : Key → ℕ) (folio item : ℕ) (claimed : SaleClaims) (cover : ℕ)
    → FindsSale journal holds at register folio item → ((k : Key) → Contains (keys_of_sale journal item folio) k → 1 ≤ room k)
    → claimed ≡ claimed_in (sale_at journal register folio item)
    → AllByRecursion (CanBeLeft claimed cover folio holds room) (earlier_rights journal item folio)
can_be_left journal holds at register room folio item claimed cover s roomy is =
    all_in (CanBeLeft claimed cover folio holds room) (earlier_rights journal item folio)
    (λ id there.
    let key = right_key journal item folio id there in
    record {
      held = s.held (Right folio id) key;
      has_room = roomy (Right folio id) key;
      within = subst (λ (c : SaleClaims). remaining c cover id ≤ most_cents) (sym is) (remains_within journal register folio item cover id s.kept s.received);
    })

-- the earlier rights stand in order
pub earlier_ascend : (journal : List Receipt) (register : Key → List Entry) (folio item : ℕ) → Kept journal register → AscendByNumber (earlier_rights journal item folio)
earlier_ascend journal register folio item kept = (filed_are_all (Some item) journal register folio kept).ascend

-- ---- a live right was created, and its number is one that there may be

live_next : (live : Bool) (before : Option Created) (w : What) → (live ≡ true → is_some before ≡ true) → live_by live w ≡ true → is_some (created_by before w) ≡ true
live_next live before (what.Created made) known h = refl
live_next live before (what.Cancelled expired) known h = absurd (false≢true h)
live_next live before what.Expired known h = absurd (false≢true h)
live_next live before other known h = known h

live_from : (live : Bool) (before : Option Created) (es : List Entry) → (live ≡ true → is_some before ≡ true) → fold (λ b e. live_by b e.what) live es ≡ true
    → is_some (fold (λ b e. created_by b e.what) before es) ≡ true
live_from live before [] known h = known h
live_from live before (e ∷ es) known h =
    live_from (live_by live e.what) (created_by before e.what) es (λ now. live_next live before e.what known now) h

live_is_created : (es : List Entry) → is_live es ≡ true → is_some (created es) ≡ true
live_is_created es live = live_from false None es (λ no. absurd (false≢true no)) live

live_numbered : (journal : List Receipt) (register : Key → List Entry) (folio item : ℕ) (id : RightNo) → Kept journal register → IsJournal journal
    → is_live (below item (register (Right folio id))) ≡ true → is_right_number id ≡ true
live_numbered journal register folio item id kept received live =
    let es = below item (register (Right folio id)) in
    elim (created es) as (λ o. created es ≡ o → is_some o ≡ true → is_right_number id ≡ true) [
      | None ↦ λ _ none. absurd (false≢true none)
      | Some made ↦ λ is _.
          let twice = ap created (below_twice item item (register (Right folio id)) (omega arith)) in
          let ranges = is_in_ranges journal folio id made received (created_here journal register folio item item id made kept (twice ∙ is)) in
          has_number id (of_right_numbers id (in_right_numbers id (record {
            receipt_from = ranges.receipt_from;
            receipt_to = omega (arith, ranges.receipt_to, received.few);
            act_from = ranges.act_from;
            act_to = ranges.act_to;
          })))
    ] refl (live_is_created es live)

-- ---- a walk over the numbers finds the live rights in the order of filing and act

neither : {X : Type 0} (b : Bool) (o : Option X) → o ≡ None → cond b o None ≡ None
neither true o none = none
neither false o none = refl

walked : (at : Key → List Entry) (folio : ℕ) (h : RightNo → Entry) (ids : List RightNo) → ((id : RightNo) → is_live (at (Right folio id)) ≡ true → is_right_number id ≡ true)
    → flat_map (λ id. cond (is_live (at (Right folio id))) (h id ∷ []) []) ids ≡ map (λ (x : CreatedRight). h x.id) (filter_map (right_found is_live_with at folio) ids)
walked at folio h [] numbered = refl
walked at folio h (id ∷ ids) numbered =
    let es = at (Right folio id) in
    let found = filter_map (right_found is_live_with at folio) ids in
    let rest = walked at folio h ids numbered in
    let make : Option Created → Option CreatedRight = λ o. option_map (λ made. record { id = id; made = made }) o in
    let all : Option CreatedRight → List Entry = λ o. map (λ (x : CreatedRight). h x.id) (cons_option o found) in
    elim (is_live es) as (λ b. is_live es ≡ b → cond b (h id ∷ []) [] ++ flat_map (λ i. cond (is_live (at (Right folio i))) (h i ∷ []) []) ids
    ≡ all (cond (is_right_number id) (make (cond b (created es) None)) None)) [
      | true ↦ λ live.
          elim (created es) as (λ o. is_some o ≡ true → h id ∷ flat_map (λ i. cond (is_live (at (Right folio i))) (h i ∷ []) []) ids ≡ all (cond (is_right_number id) (make o) None)) [
            | None ↦ λ none. absurd (false≢true none)
            | Some made ↦ λ _. ap (λ ys. h id ∷ ys) rest ∙ sym (ap (λ b. all (cond b (make (Some made)) None)) (numbered id live))
          ] (live_is_created es live)
      | false ↦ λ _. rest ∙ sym (ap all (neither (is_right_number id) (make None) refl))
    ] refl

-- What is left of the earlier rights, as they are read in the parts, is what is left of the live rights of the sale.
pub rights_left_are : (journal : List Receipt) (holds : Key → Bool) (at register : Key → List Entry) (folio item : ℕ) (claimed : SaleClaims) (cover : ℕ)
    → FindsSale journal holds at register folio item → claimed ≡ claimed_in (sale_at journal register folio item)
    → flat_map (left_at journal item folio claimed cover at) (earlier_rights journal item folio)
    ≡ map (λ x. left_of (sale_at journal register folio item) cover x.id) (live_by_act (λ k. below item (register k)) folio)
rights_left_are journal holds at register folio item claimed cover s is =
    let ids = earlier_rights journal item folio in
    let reg : Key → List Entry = λ k. below item (register k) in
    let entry : SaleClaims → RightNo → Entry = λ c id. entry_by journal item (Right folio id) (left_with (remaining c cover id)) in
    flat_map_alike (left_at journal item folio claimed cover at) (left_at journal item folio claimed cover reg) ids
    (all_in (λ id. left_at journal item folio claimed cover at id ≡ left_at journal item folio claimed cover reg id) ids
    (λ id there. ap (λ es. cond (is_live es) (entry claimed id ∷ []) []) (sym (as_it_stands journal holds at register folio item (Right folio id) s (right_key journal item folio id there)))))
    ∙ ap (λ (c : SaleClaims). flat_map (left_at journal item folio c cover reg) ids) is
    ∙ walked reg folio (entry (claimed_in (sale_at journal register folio item))) ids (λ id live. live_numbered journal register folio item id s.kept s.received live)
    ∙ ap (λ xs. map (λ (x : CreatedRight). entry (claimed_in (sale_at journal register folio item)) x.id) xs) (walk_is is_live_with reg folio ids (filed_are_all (Some item) journal register folio s.kept))
