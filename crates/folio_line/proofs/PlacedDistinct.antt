-- The rights that are placed in a folio are of different numbers.
use Rattle.std.proofs.Common.{◌≡◌, ℕ, ◌<◌, Bool, true, false, List, filter, flat_map, Some, sym, ap, ◌∙◌, ⊎_elim, arith}
use Rattle.std.specs.List.{IsDistinct}
use Rattle.std.proofs.lemmas.Bool.{cases_Bool}
use Rattle.std.proofs.lemmas.Bool.Decides.{nat_tests}
use Rattle.std.proofs.lemmas.Option.{same_Some}
use Rattle.gb_base.specs.Limits.{most_acts}
use Rattle.gb_base.specs.RightNo.{RightNo, same_right}
use Rattle.gb_base.specs.declared.keys.Key.{Key}
use Rattle.gb_base.specs.declared.keys.Key.TheVariants.{Right}
use Rattle.gb_base.proofs.SameRights.{right_is}
use Rattle.act_model.specs.Limits.{most_groups}
use Rattle.act_model.specs.Touches.{new_right}
use Rattle.folio_sections.specs.HeldRights.{receipt_numbers}
use Rattle.folio_sections.specs.Rights.{created}
use Rattle.folio_sections.specs.declared.entries.Created.{Created}
use Rattle.folio_sections.specs.declared.entries.Entry.{Entry}
use Rattle.folio_sections.proofs.DistinctLists.{distinct_filter, distinct_flat, distinct_row}
use Rattle.folio_sections.proofs.FilteredLists.{of_filter}
use Rattle.folio_sections.proofs.ReceiptNumbers.{distinct_over_numbers}
use Rattle.folio_line.specs.FolioRights.{by_group, has_group, right_where, rights_of, rights_where}
use Rattle.folio_line.specs.declared.folio_rights.CreatedRight.{CreatedRight}
use Rattle.folio_line.proofs.PlacedOrder.{of_filing, of_filing_by_group, placed_at_number}

-- both rights are of one number
abbrev pub has_same_number : CreatedRight → CreatedRight → Bool
has_same_number x y = same_right x.id y.id

-- ---- different acts of a filing

apart_acts : (m k l : ℕ) → k < l → same_right (new_right m k) (new_right m l) ≡ false
apart_acts m k l less = grind (arith, nat_tests, less)

acts_distinct : (holds : RightNo → List Entry → Bool) (at : Key → List Entry) (folio m : ℕ) → IsDistinct has_same_number (rights_of holds at folio m)
acts_distinct holds at folio m =
    distinct_row has_same_number (new_right m) (right_where holds at folio)
    (λ k l x y less here there.
    let first = placed_at_number holds at folio (new_right m k) x here in
    let second = placed_at_number holds at folio (new_right m l) y there in
    (λ i. same_right (first i) (second i)) ∙ apart_acts m k l less)
    1 most_acts

-- ---- different groups of a filing

-- a number has one right
pub one_right : (at : Key → List Entry) (folio : ℕ) (x y : CreatedRight) → created (at (Right folio x.id)) ≡ Some x.made → created (at (Right folio y.id)) ≡ Some y.made → has_same_number x y ≡ true → x.made ≡ y.made
one_right at folio x y first second same =
    same_Some x.made y.made (sym first ∙ ap (λ id. created (at (Right folio id))) (right_is x.id y.id same) ∙ second)

one_group : (x y : CreatedRight) (k l : ℕ) → has_group k x ≡ true → has_group l y ≡ true → k < l → x.made ≡ y.made → ⊥
one_group x y k l first second less same =
    let group = ap (λ (made : Created). made.spec.group) same in
    grind (arith, nat_tests, first, second, less, group)

groups_distinct : (holds : RightNo → List Entry → Bool) (at : Key → List Entry) (folio m : ℕ) → IsDistinct has_same_number (by_group (rights_of holds at folio m))
groups_distinct holds at folio m =
    let rights = rights_of holds at folio m in
    distinct_flat has_same_number (λ group. filter (has_group group) rights)
    (λ k. distinct_filter has_same_number (has_group k) rights (acts_distinct holds at folio m))
    (λ k l x y less here there.
    let first = of_filter (has_group k) rights x here in
    let second = of_filter (has_group l) rights y there in
    ⊎_elim
    (λ same. absurd (one_group x y k l first.1 second.1 less (one_right at folio x y (of_filing holds at folio m x first.0).made (of_filing holds at folio m y second.0).made same)))
    (λ other. other)
    (cases_Bool (has_same_number x y)))
    1 most_groups

-- ---- different filings

apart_filings : (x y : CreatedRight) (m n : ℕ) → x.id.receipt ≡ m → y.id.receipt ≡ n → m < n → has_same_number x y ≡ false
apart_filings x y m n first second less = grind (arith, nat_tests)

pub placed_distinct : (holds : RightNo → List Entry → Bool) (at : Key → List Entry) (folio : ℕ) → IsDistinct has_same_number (rights_where holds at folio)
placed_distinct holds at folio =
    distinct_over_numbers has_same_number (λ m. by_group (rights_of holds at folio m)) (groups_distinct holds at folio)
    (λ m n x y less here there.
    apart_filings x y m n (of_filing_by_group holds at folio m x here).filing (of_filing_by_group holds at folio n y there).filing less)

-- the rights of a folio by filing and act are of different numbers
pub by_act_distinct : (holds : RightNo → List Entry → Bool) (at : Key → List Entry) (folio : ℕ) → IsDistinct has_same_number (flat_map (rights_of holds at folio) receipt_numbers)
by_act_distinct holds at folio =
    distinct_over_numbers has_same_number (rights_of holds at folio) (acts_distinct holds at folio)
    (λ m n x y less here there. apart_filings x y m n (of_filing holds at folio m x here).filing (of_filing holds at folio n y there).filing less)
