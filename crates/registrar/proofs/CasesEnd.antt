-- What an item adds at a case: one entry at most, and none that seizes, calls or awards after an award.
use Rattle.std.proofs.Common.{◌≡◌, ⊎_elim, ◌⊎◌, inl, inr, ℕ, ◌<◌, nat_lt, Bool, true, false, cond, List, [], ◌∷◌, ◌++◌, All, IsTrue, Some, None, is_some, refl, sym, ap, subst, ◌∙◌}
use Rattle.std.specs.Option.{option_map_or}
use Rattle.std.proofs.lemmas.Bool.{false≢true}
use Rattle.std.proofs.lemmas.List.{append-nil}
use Rattle.std.proofs.lemmas.List.Elements.{All-push}
use Rattle.gb_base.specs.Keys.{same_key}
use Rattle.gb_base.specs.declared.keys.Key.{Key}
use Rattle.gb_base.specs.declared.keys.Key.TheVariants.{Case, Title}
use Rattle.act_model.proofs.KeyOrder.{has}
use Rattle.act_model.specs.Receiving.{IsJournal, item_at}
use Rattle.act_model.specs.Subjects.{subject_of}
use Rattle.act_model.specs.Touches.{keys_of_filing}
use Rattle.act_model.specs.declared.items.Item.{Item}
use Rattle.act_model.specs.declared.items.Item.TheVariants as item
use Rattle.act_model.specs.declared.items.Subject.{Subject}
use Rattle.act_model.specs.declared.items.Subject.TheVariants as about
use Rattle.act_model.specs.declared.receipts.Receipt.{Receipt}
use Rattle.act_model.specs.declared.sales.Basis.{Basis}
use Rattle.act_model.specs.declared.sales.Registration.{Registration}
use Rattle.auction_classes.specs.Sales.{sale_at}
use Rattle.conflict_queue.specs.ItemKeys.{keys_by_item, keys_by_subject, keys_of_named}
use Rattle.folio_line.specs.FolioRights.{live_by_act}
use Rattle.folio_line.specs.declared.folio_rights.CreatedRight.{CreatedRight}
use Rattle.folio_sections.specs.Cases.{award}
use Rattle.folio_sections.specs.Entries.{at, entry_by, with_entries}
use Rattle.folio_sections.specs.declared.entries.Entry.{Entry}
use Rattle.folio_sections.specs.declared.entries.What.{What}
use Rattle.folio_sections.specs.declared.entries.What.TheVariants as what
use Rattle.folio_sections.proofs.Indexes.{is_none_of}
use Rattle.kept_registers.specs.Kept.{Kept}
use Rattle.registrar.specs.Brings.{brought_by_item}
use Rattle.registrar.specs.KeptAwards.{AwardsAsKept, EndWithAward, ends_with_award}
use Rattle.registrar.proofs.AwardsGiven.{award_given}
use Rattle.registrar.proofs.CasesKept.{no_case_key}
use Rattle.registrar.proofs.ContainedParts.{contains_first, each_mapped}
use Rattle.registrar.proofs.CuresKeep.{AreEarlier}
use Rattle.registrar.proofs.Elsewhere.{nothing_elsewhere}
use Rattle.registrar.proofs.FiledItems.{IsFiled, IsOfFiling}
use Rattle.registrar.proofs.SaleBrings.{case_is_key}
use Rattle.registrar.proofs.SaleGroundsFail.{award_let_in, call_let_in, seizure_let_in}
use Rattle.registrar.proofs.SalesKeep.{award_apart, same_case, whole}
use Rattle.sale_rules.specs.SaleEntries.{award_entries, award_brought, call_brought, distribution_brought, left_of, registration_brought, rights_left, seizure_brought, unless_refused}
use Rattle.sale_rules.specs.SaleGrounds.{is_awarded, lowest, refusal_of_award, refusal_of_call, refusal_of_distribution, refusal_of_registration, refusal_of_seizure}

-- ---- a case with one entry more

abbrev is_any : List Entry → Bool
is_any [] = false
is_any (x ∷ xs) = true

abbrev first_or : Entry → List Entry → Entry
first_or other [] = other
first_or other (x ∷ xs) = x

abbrev behind_first : List Entry → List Entry
behind_first [] = []
behind_first (x ∷ xs) = xs

pub none_around : (before after : List Entry) (e : Entry) → [] ≡ before ++ e ∷ after → ⊥
none_around [] after e is = false≢true (ap is_any is)
none_around (x ∷ before) after e is = false≢true (ap is_any is)

-- an entry of a list with one more at its end stands in the list, or is that one
pub in_pushed : (xs before after : List Entry) (last e : Entry) → xs ++ last ∷ [] ≡ before ++ e ∷ after → ((rest : List Entry) × (xs ≡ before ++ e ∷ rest)) ⊎ ((xs ≡ before) × (last ≡ e))
in_pushed [] [] after last e is = inr (refl, ap (first_or last) is)
in_pushed [] (b ∷ before) after last e is = absurd (none_around before after e (ap behind_first is))
in_pushed (x ∷ xs) [] after last e is = inl (xs, ap (λ y. y ∷ xs) (ap (first_or x) is))
in_pushed (x ∷ xs) (b ∷ before) after last e is =
    let same : x ≡ b = ap (first_or x) is in
    ⊎_elim (λ old. inl (old.0, λ j. same j ∷ old.1 j)) (λ new. inr ((λ j. same j ∷ new.0 j), new.1)) (in_pushed xs before after last e (ap behind_first is))

ends_with : (xs : List Entry) (last : Entry) → EndWithAward xs → (IsTrue (ends_with_award last.what) → award xs ≡ None) → EndWithAward (xs ++ last ∷ [])
ends_with xs last ends new = λ before after e is wants.
    ⊎_elim (λ old. ends before old.0 e old.1 wants)
    (λ own. subst (λ ys. award ys ≡ None) own.0 (new (subst (λ (d : Entry). IsTrue (ends_with_award d.what)) (sym own.1) wants))) (in_pushed xs before after last e is)

-- What comes to a case: nothing, or one entry. Where that seizes, calls or awards, the case has no award, and where it awards, the award
-- is kept.
pub data AddsAtCase (journal : List Receipt) (register : Key → List Entry) (es : List Entry) (folio : ℕ) : Type 0 where
  nothing : at es (Case folio) ≡ [] → AddsAtCase journal register es folio
  one_more : (e : Entry) → at es (Case folio) ≡ e ∷ [] → (IsTrue (ends_with_award e.what) → award (register (Case folio)) ≡ None)
      → AwardsAsKept journal (with_entries register es) folio e.receipt e.what → AddsAtCase journal register es folio

pub ends_behind : (journal : List Receipt) (register : Key → List Entry) (es : List Entry) (folio : ℕ) → AddsAtCase journal register es folio → EndWithAward (register (Case folio))
    → EndWithAward (with_entries register es (Case folio))
ends_behind journal register es folio (nothing none) ends = subst EndWithAward (sym (ap (λ ys. register (Case folio) ++ ys) none ∙ append-nil (register (Case folio)))) ends
ends_behind journal register es folio (one_more e is open_yet given) ends = subst (λ ys. EndWithAward (register (Case folio) ++ ys)) (sym is) (ends_with (register (Case folio)) e ends open_yet)

-- where the awards that stood are kept in the register with what is brought, all awards of that register are
pub awards_behind : (journal : List Receipt) (register : Key → List Entry) (es : List Entry) (folio : ℕ) → AddsAtCase journal register es folio
    → All (λ e. AwardsAsKept journal (with_entries register es) folio e.receipt e.what) (register (Case folio))
    → All (λ e. AwardsAsKept journal (with_entries register es) folio e.receipt e.what) (with_entries register es (Case folio))
awards_behind journal register es folio (nothing none) old =
    subst (All (λ e. AwardsAsKept journal (with_entries register es) folio e.receipt e.what)) (sym (ap (λ ys. register (Case folio) ++ ys) none ∙ append-nil (register (Case folio)))) old
awards_behind journal register es folio (one_more e is open_yet given) old =
    subst (λ ys. All (λ d. AwardsAsKept journal (with_entries register es) folio d.receipt d.what) (register (Case folio) ++ ys)) (sym is)
    (All-push (λ d. AwardsAsKept journal (with_entries register es) folio d.receipt d.what) (register (Case folio)) e old given)

-- ---- each kind of item

-- an entry at the case of one folio, with others at no case
one_at_case : (journal : List Receipt) (register : Key → List Entry) (i folio : ℕ) (w : What) (rest : List Entry) (f : ℕ) → at rest (Case f) ≡ []
    → (IsTrue (ends_with_award w) → award (register (Case folio)) ≡ None) → AwardsAsKept journal (with_entries register (entry_by journal i (Case folio) w ∷ rest)) folio i w
    → AddsAtCase journal register (entry_by journal i (Case folio) w ∷ rest) f
one_at_case journal register i folio w rest f apart open_yet given =
    let e = entry_by journal i (Case folio) w in
    elim (same_key (Case folio) (Case f)) as (λ b. same_key (Case folio) (Case f) ≡ b → AddsAtCase journal register (e ∷ rest) f) [
      | true ↦ λ same.
          one_more e (ap (λ b. cond b (e ∷ at rest (Case f)) (at rest (Case f))) same ∙ ap (λ ys. e ∷ ys) apart)
          (λ wants. subst (λ g. award (register (Case g)) ≡ None) (same_case folio f same) (open_yet wants))
          (subst (λ g. AwardsAsKept journal (with_entries register (e ∷ rest)) g i w) (same_case folio f same) given)
      | false ↦ λ other. nothing (ap (λ b. cond b (e ∷ at rest (Case f)) (at rest (Case f))) other ∙ apart)
    ] refl

module _ (journal : List Receipt) (register : Key → List Entry) (folio i : ℕ) (earlier : All (λ e. e.receipt < i) (register (Case folio))) (f : ℕ) where
  not_awarded : is_awarded (sale_at journal register folio i) ≡ false → award (register (Case folio)) ≡ None
  not_awarded fails = is_none_of (award (register (Case folio))) (ap (λ xs. is_some (award xs)) (sym (whole register i (Case folio) earlier)) ∙ fails)

  seizure_adds : (b : Basis) → AddsAtCase journal register (seizure_brought (sale_at journal register folio i) b) f
  seizure_adds b =
      let s = sale_at journal register folio i in
      elim (refusal_of_seizure s b) as (λ o. refusal_of_seizure s b ≡ o → AddsAtCase journal register (unless_refused o (entry_by journal i (Case folio) what.Seized ∷ [])) f) [
        | Some section ↦ λ _. nothing refl
        | None ↦ λ none. one_at_case journal register i folio what.Seized [] f refl (λ _. not_awarded (seizure_let_in s b none).awarded) tt
      ] refl

  registration_adds : (r : Registration) → AddsAtCase journal register (registration_brought (sale_at journal register folio i) r) f
  registration_adds r =
      elim (refusal_of_registration (sale_at journal register folio i) r) as (λ o. AddsAtCase journal register (unless_refused o (entry_by journal i (Case folio) what.Registered ∷ [])) f) [
        | Some section ↦ nothing refl
        | None ↦ one_at_case journal register i folio what.Registered [] f refl (λ wants. absurd (false≢true wants)) tt
      ]

  call_adds : (costs : ℕ) → AddsAtCase journal register (call_brought (sale_at journal register folio i) costs) f
  call_adds costs =
      let s = sale_at journal register folio i in
      elim (refusal_of_call s) as (λ o. refusal_of_call s ≡ o → AddsAtCase journal register (unless_refused o (entry_by journal i (Case folio) (what.Bids costs) ∷ [])) f) [
        | Some section ↦ λ _. nothing refl
        | None ↦ λ none. one_at_case journal register i folio (what.Bids costs) [] f refl (λ _. not_awarded (call_let_in s none).awarded) tt
      ] refl

  award_adds : (buyer bid : ℕ) → IsJournal journal → Kept journal register → AddsAtCase journal register (award_brought (sale_at journal register folio i) buyer bid) f
  award_adds buyer bid stands kept =
      let s = sale_at journal register folio i in
      elim (refusal_of_award s bid) as (λ o. refusal_of_award s bid ≡ o → AddsAtCase journal register (unless_refused o (option_map_or (award_entries s buyer bid) (lowest s) [])) f) [
        | Some refusal ↦ λ _. nothing refl
        | None ↦ λ none.
            let let_in = award_let_in s bid none in
            elim (lowest s) as (λ o. lowest s ≡ o → AddsAtCase journal register (option_map_or (award_entries s buyer bid) o []) f) [
              | None ↦ λ _. nothing refl
              | Some least ↦ λ is.
                  one_at_case journal register i folio (what.Awarded buyer bid) (entry_by journal i (Title folio) (what.AwardOwner buyer) ∷ rights_left s least) f
                  (award_apart journal register folio i stands kept least buyer f) (λ _. not_awarded let_in.awarded)
                  (award_given journal register folio i buyer bid least kept stands is let_in
                  (refl, (refl, each_mapped (λ (e : Entry). e.receipt ≡ i) (λ (x : CreatedRight). left_of s least.cover x.id) (live_by_act s.at folio) (λ x. refl))))
            ] refl
      ] refl

  distribution_adds : AddsAtCase journal register (distribution_brought (sale_at journal register folio i)) f
  distribution_adds =
      elim (refusal_of_distribution (sale_at journal register folio i)) as (λ o. AddsAtCase journal register (unless_refused o (entry_by journal i (Case folio) what.Distributed ∷ [])) f) [
        | Some section ↦ nothing refl
        | None ↦ one_at_case journal register i folio what.Distributed [] f refl (λ wants. absurd (false≢true wants)) tt
      ]

-- the keys of a filing that an item names are of no case
no_case_named : (journal : List Receipt) (i m f : ℕ) → has (Case f) (keys_of_named journal i m) ≡ false
no_case_named journal i m f = elim (nat_lt m i) as (λ b. has (Case f) (cond b (keys_of_filing journal m) []) ≡ false) [ true ↦ no_case_key journal m f | false ↦ refl ]

-- no item about a filing has the key of a case
no_case_filed : (journal : List Receipt) (i : ℕ) (s : Subject) (f : ℕ) → IsOfFiling s → has (Case f) (keys_by_subject journal i s) ≡ false
no_case_filed journal i about.Itself f filed = no_case_key journal i f
no_case_filed journal i (about.Filing m) f filed = no_case_named journal i m f
no_case_filed journal i other f filed = absurd filed

-- so it brings nothing at one
pub none_at_case : (journal : List Receipt) (i : ℕ) (register : Key → List Entry) (w : Item) (f : ℕ) → IsFiled w → IsJournal journal → Kept journal register → item_at journal i ≡ Some w
    → at (brought_by_item journal i register w).entries (Case f) ≡ []
none_at_case journal i register w f filed stands kept is = nothing_elsewhere journal i register w (Case f) stands kept is (no_case_filed journal i (subject_of w) f filed)

-- ---- each item

pub item_adds : (journal : List Receipt) (i : ℕ) (register : Key → List Entry) (w : Item) (f : ℕ) → IsJournal journal → Kept journal register → item_at journal i ≡ Some w
    → AreEarlier i register (keys_by_item journal i w) → AddsAtCase journal register (brought_by_item journal i register w).entries f
item_adds journal i register (item.Seize folio basis served) f stands kept is before = seizure_adds journal register folio i (before (Case folio) (case_is_key journal i folio)) f basis
item_adds journal i register (item.Register folio registered) f stands kept is before = registration_adds journal register folio i (before (Case folio) (contains_first (Case folio) [])) f registered
item_adds journal i register (item.OpenBids folio costs) f stands kept is before = call_adds journal register folio i (before (Case folio) (case_is_key journal i folio)) f costs
item_adds journal i register (item.Award folio buyer bid) f stands kept is before = award_adds journal register folio i (before (Case folio) (case_is_key journal i folio)) f buyer bid stands kept
item_adds journal i register (item.Distribute folio) f stands kept is before = distribution_adds journal register folio i (before (Case folio) (case_is_key journal i folio)) f
item_adds journal i register other f stands kept is before = nothing (none_at_case journal i register other f tt stands kept is)
