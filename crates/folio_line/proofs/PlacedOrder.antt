-- The rights that are placed in a folio: each as it was created, and in order of filing and group.
use Rattle.std.proofs.Common.{◌≡◌, ℕ, ◌<◌, ◌≤◌, Bool, true, false, cond, List, [], ◌∷◌, filter, IfSome, Some, None, option_map, is_some, refl, sym, ap, subst, arith}
use Rattle.std.specs.List.{IsDistinct, range_with_len}
use Rattle.std.specs.Option.{option_map_or}
use Rattle.std.proofs.lemmas.Bool.{false≢true}
use Rattle.std.proofs.lemmas.Bool.Decides.{nat_tests}
use Rattle.gb_base.specs.Limits.{most_acts}
use Rattle.gb_base.specs.RightNo.{RightNo}
use Rattle.gb_base.specs.declared.keys.Key.{Key}
use Rattle.gb_base.specs.declared.keys.Key.TheVariants.{Right}
use Rattle.gb_base.proofs.Members.{In, of_flat_map, of_map}
use Rattle.act_model.specs.Limits.{most_groups}
use Rattle.act_model.specs.Touches.{new_right}
use Rattle.folio_sections.specs.HeldRights.{receipt_numbers, rights_of_filing}
use Rattle.folio_sections.specs.Rights.{created}
use Rattle.folio_sections.specs.declared.entries.Created.{Created}
use Rattle.folio_sections.specs.declared.entries.Entry.{Entry}
use Rattle.folio_sections.proofs.DistinctLists.{distinct_by, distinct_flat}
use Rattle.folio_sections.proofs.FilteredLists.{of_filter, of_filter_map}
use Rattle.folio_sections.proofs.ReceiptNumbers.{distinct_over_numbers}
use Rattle.folio_line.specs.FolioRights.{by_group, has_group, right_where, rights_of, rights_where}
use Rattle.folio_line.specs.inner.RightOrder.{Ascends, is_filed_before}
use Rattle.folio_line.specs.declared.folio_rights.CreatedRight.{CreatedRight}

-- ---- each as it was created

-- the right of this number, as it was created
abbrev pub the_right : RightNo → Created → CreatedRight
the_right id made = record { id = id; made = made }

-- The right is of this filing, it is as it was created, and the test holds of it.
pub record IsPlacedOf (holds : RightNo → List Entry → Bool) (at : Key → List Entry) (folio m : ℕ) (x : CreatedRight) : Type 0 where
  pub filing : x.id.receipt ≡ m
  pub made : created (at (Right folio x.id)) ≡ Some x.made
  pub stands : holds x.id (at (Right folio x.id)) ≡ true

placed_at_is : (holds : RightNo → List Entry → Bool) (at : Key → List Entry) (folio : ℕ) (id : RightNo) (x : CreatedRight) → right_where holds at folio id ≡ Some x → IsPlacedOf holds at folio id.receipt x
placed_at_is holds at folio id x is =
    elim (holds id (at (Right folio id)))
    as (λ b. holds id (at (Right folio id)) ≡ b → option_map (the_right id) (cond b (created (at (Right folio id))) None) ≡ Some x → IsPlacedOf holds at folio id.receipt x) [
      | true ↦ λ stands here.
          elim (created (at (Right folio id))) as (λ o. created (at (Right folio id)) ≡ o → option_map (the_right id) o ≡ Some x → IsPlacedOf holds at folio id.receipt x) [
            | None ↦ λ _ never. absurd (grind arith)
            | Some made ↦ λ is_made there.
                let own : IsPlacedOf holds at folio id.receipt (the_right id made) = record { filing = refl; made = is_made; stands = stands } in
                subst (λ o. IfSome o (IsPlacedOf holds at folio id.receipt)) there own
          ] refl here
      | false ↦ λ _ never. absurd (grind arith)
    ] refl is

-- the right that is placed at a number has this number
pub placed_at_number : (holds : RightNo → List Entry → Bool) (at : Key → List Entry) (folio : ℕ) (id : RightNo) (x : CreatedRight) → right_where holds at folio id ≡ Some x → x.id ≡ id
placed_at_number holds at folio id x is =
    elim (cond (holds id (at (Right folio id))) (created (at (Right folio id))) None) as (λ o. option_map (the_right id) o ≡ Some x → x.id ≡ id) [
      | None ↦ λ never. absurd (false≢true (ap is_some never))
      | Some made ↦ λ here. ap (λ o. option_map_or (λ (y : CreatedRight). y.id) o id) (sym here)
    ] is

pub placed_at_made : (holds : RightNo → List Entry → Bool) (at : Key → List Entry) (folio : ℕ) (id : RightNo) (x : CreatedRight) → right_where holds at folio id ≡ Some x → created (at (Right folio id)) ≡ Some x.made
placed_at_made holds at folio id x is =
    subst (λ r. created (at (Right folio r)) ≡ Some x.made) (placed_at_number holds at folio id x is) (placed_at_is holds at folio id x is).made

pub of_filing : (holds : RightNo → List Entry → Bool) (at : Key → List Entry) (folio m : ℕ) (x : CreatedRight) → In x (rights_of holds at folio m) → IsPlacedOf holds at folio m x
of_filing holds at folio m x there =
    let from = of_filter_map (right_where holds at folio) (rights_of_filing m) x there in
    let act = of_map (new_right m) (range_with_len 1 most_acts) from.0 from.1 in
    subst (λ k. IsPlacedOf holds at folio k x) (sym (ap (λ (id : RightNo). id.receipt) act.2)) (placed_at_is holds at folio from.0 x from.2)

-- the rights of a filing by group are rights of the filing
of_group : (rights : List CreatedRight) (x : CreatedRight) → In x (by_group rights) → In x rights
of_group rights x there =
    let from = of_flat_map (λ group. filter (has_group group) rights) (range_with_len 1 most_groups) x there in
    (of_filter (has_group from.0) rights x from.2).0

pub of_filing_by_group : (holds : RightNo → List Entry → Bool) (at : Key → List Entry) (folio m : ℕ) (x : CreatedRight) → In x (by_group (rights_of holds at folio m)) → IsPlacedOf holds at folio m x
of_filing_by_group holds at folio m x there = of_filing holds at folio m x (of_group (rights_of holds at folio m) x there)

pub of_placed_rights : (holds : RightNo → List Entry → Bool) (at : Key → List Entry) (folio : ℕ) (x : CreatedRight) → In x (rights_where holds at folio)
    → IsPlacedOf holds at folio x.id.receipt x
of_placed_rights holds at folio x there =
    let from = of_flat_map (λ m. by_group (rights_of holds at folio m)) receipt_numbers x there in
    let own = of_filing_by_group holds at folio from.0 x from.2 in
    subst (λ m. IsPlacedOf holds at folio m x) (sym own.filing) own

-- ---- in order

ascends_of : (xs : List CreatedRight) → IsDistinct (λ x y. is_filed_before y x) xs → Ascends xs
unfolding IsDistinct
ascends_of [] up = tt
ascends_of (x ∷ xs) up = (up.0, ascends_of xs up.1)

-- rights of one filing go by group
not_before : (x y : CreatedRight) (m k l : ℕ) → x.id.receipt ≡ m → y.id.receipt ≡ m → has_group k x ≡ true → has_group l y ≡ true → k ≤ l → is_filed_before y x ≡ false
not_before x y m k l first second here there on = grind (arith, nat_tests)

-- rights of a later filing do not stand before
filed_later : (x y : CreatedRight) (m n : ℕ) → x.id.receipt ≡ m → y.id.receipt ≡ n → m < n → is_filed_before y x ≡ false
filed_later x y m n first second less = grind (arith, nat_tests)

groups_ascend : (m : ℕ) (rights : List CreatedRight) → ((x : CreatedRight) → In x rights → x.id.receipt ≡ m) → IsDistinct (λ x y. is_filed_before y x) (by_group rights)
groups_ascend m rights filing =
    let f : ℕ → List CreatedRight = λ group. filter (has_group group) rights in
    let on : (k l : ℕ) (x y : CreatedRight) → k ≤ l → In x (f k) → In y (f l) → is_filed_before y x ≡ false = λ k l x y le here there.
    let first = of_filter (has_group k) rights x here in
    let second = of_filter (has_group l) rights y there in
    not_before x y m k l (filing x first.0) (filing y second.0) first.1 second.1 le in
    distinct_flat (λ x y. is_filed_before y x) f (λ k. distinct_by (λ x y. is_filed_before y x) (f k) (λ x y here there. on k k x y (omega arith) here there))
    (λ k l x y less here there. on k l x y (omega (arith, less)) here there) 1 most_groups

pub placed_rights_ascend : (holds : RightNo → List Entry → Bool) (at : Key → List Entry) (folio : ℕ) → Ascends (rights_where holds at folio)
placed_rights_ascend holds at folio =
    let f : ℕ → List CreatedRight = λ m. by_group (rights_of holds at folio m) in
    let filing : (m : ℕ) (x : CreatedRight) → In x (f m) → x.id.receipt ≡ m = λ m x there. (of_filing_by_group holds at folio m x there).filing in
    ascends_of (rights_where holds at folio)
    (distinct_over_numbers (λ x y. is_filed_before y x) f (λ m. groups_ascend m (rights_of holds at folio m) (λ x there. (of_filing holds at folio m x there).filing))
    (λ m n x y less here there. filed_later x y m n (filing m x here) (filing n y there) less))
