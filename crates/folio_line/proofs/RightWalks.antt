-- A walk over numbers among which are all rights of a folio finds its rights by filing and act.
use Rattle.std.proofs.Common.{◌≡◌, ℕ, Bool, true, false, cond, List, [], ◌∷◌, ◌++◌, IsSome, Option, Some, None, filter_map, flat_map, is_some, refl, sym, ap, subst, ◌∙◌, arith}
use Rattle.std.specs.List.{IsDistinct}
use Rattle.std.proofs.lemmas.Bool.{false≢true}
use Rattle.std.proofs.lemmas.Bool.Decides.{nat_tests}
use Rattle.std.proofs.lemmas.List.Elements.{filter_map-append}
use Rattle.gb_base.specs.RightNo.{RightNo, same_right}
use Rattle.gb_base.specs.declared.keys.Key.{Key}
use Rattle.gb_base.specs.declared.keys.Key.TheVariants.{Right}
use Rattle.gb_base.proofs.Members.{In}
use Rattle.gb_base.proofs.SameRights.{right_is}
use Rattle.folio_sections.specs.HeldRights.{receipt_numbers, right_numbers, rights_of_filing}
use Rattle.folio_sections.specs.Rights.{created}
use Rattle.folio_sections.specs.declared.entries.Entry.{Entry}
use Rattle.folio_sections.specs.inner.RightsInKeys.{is_right_number}
use Rattle.folio_sections.proofs.DistinctLists.{distinct_given, one_distinct}
use Rattle.folio_sections.proofs.FilteredLists.{in_all, in_filter_map, of_any, of_filter_map}
use Rattle.folio_sections.proofs.HeldRights.{has_number, in_right_numbers, is_numbered, is_up_to, numbers_rise, of_right_numbers, one_way}
use Rattle.folio_sections.proofs.Unchanged.{all_weaker}
use Rattle.folio_line.specs.AllRights.{AreAllRights, AscendByNumber, is_among, is_numbered_before}
use Rattle.folio_line.specs.FolioRights.{right_where, rights_of}
use Rattle.folio_line.specs.inner.RightWalk.{right_found}
use Rattle.folio_line.specs.declared.folio_rights.CreatedRight.{CreatedRight}
use Rattle.folio_line.proofs.PlacedOrder.{placed_at_made, placed_at_number}

-- ---- in order

not_up_to : (x y : RightNo) → is_numbered_before x y ≡ true → is_up_to x y ≡ false
not_up_to x y before = grind (arith, nat_tests, before)

pub distinct_numbers : (ids : List RightNo) → AscendByNumber ids → IsDistinct is_up_to ids
unfolding IsDistinct
distinct_numbers [] up = tt
distinct_numbers (x ∷ xs) up =
    (all_weaker (λ y. is_numbered_before x y ≡ true) (λ y. is_up_to x y ≡ false) xs (λ y before. not_up_to x y before) up.0, distinct_numbers xs up.1)

-- the second right is the first one, or stands before it by number
abbrev is_up_to_right : CreatedRight → CreatedRight → Bool
is_up_to_right x y = is_up_to x.id y.id

-- what a walk over numbers in order finds is in order
found_distinct : (find : RightNo → Option CreatedRight) (ids : List RightNo) → ((id : RightNo) (x : CreatedRight) → find id ≡ Some x → x.id ≡ id) → IsDistinct is_up_to ids → IsDistinct is_up_to_right (filter_map find ids)
found_distinct find ids own up =
    distinct_given is_up_to is_up_to_right find ids up
    (λ a b x y here there less first second. (λ i. is_up_to (own a x first i) (own b y second i)) ∙ less)

-- ---- of numbers that there may be

of_found : (holds : RightNo → List Entry → Bool) (at : Key → List Entry) (folio : ℕ) (id : RightNo) (x : CreatedRight) → right_found holds at folio id ≡ Some x → (is_right_number id ≡ true) × (right_where holds at folio id ≡ Some x)
of_found holds at folio id x is =
    elim (is_right_number id) as (λ b. is_right_number id ≡ b → cond b (right_where holds at folio id) None ≡ Some x → (is_right_number id ≡ true) × (right_where holds at folio id ≡ Some x)) [
      | true ↦ λ number here. (number, here)
      | false ↦ λ _ never. absurd (false≢true (ap is_some never))
    ] refl is

pub found_at_number : (holds : RightNo → List Entry → Bool) (at : Key → List Entry) (folio : ℕ) (id : RightNo) (x : CreatedRight) → right_found holds at folio id ≡ Some x → x.id ≡ id
found_at_number holds at folio id x is = placed_at_number holds at folio id x (of_found holds at folio id x is).1

-- ---- all of them

pub given_in_turn : {X Y Z : Type 0} (h : Y → Option Z) (f : X → List Y) (xs : List X) → filter_map h (flat_map f xs) ≡ flat_map (λ x. filter_map h (f x)) xs
given_in_turn h f [] = refl
given_in_turn h f (x ∷ xs) = filter_map-append h (f x) (flat_map f xs) ∙ ap (λ ys. filter_map h (f x) ++ ys) (given_in_turn h f xs)

-- the number of a right that is created is among them
is_there : (ids : List RightNo) (at : Key → List Entry) (folio : ℕ) (id : RightNo) → AreAllRights ids at folio → In id right_numbers → IsSome (created (at (Right folio id))) → In id ids
is_there ids at folio id all number made =
    let among = of_any (same_right id) ids (in_all (λ k. IsSome (created (at (Right folio k))) → is_among ids k ≡ true) right_numbers id all.all number made) in
    subst (λ k. In k ids) (sym (right_is id among.0 among.2)) among.1

pub walk_is : (holds : RightNo → List Entry → Bool) (at : Key → List Entry) (folio : ℕ) (ids : List RightNo) → AreAllRights ids at folio
    → filter_map (right_found holds at folio) ids ≡ flat_map (rights_of holds at folio) receipt_numbers
walk_is holds at folio ids all =
    let found = right_found holds at folio in
    let placed = right_where holds at folio in
    one_distinct is_up_to_right (λ x y first second. one_way x.id y.id first second) (filter_map found ids) (filter_map placed right_numbers)
    (found_distinct found ids (found_at_number holds at folio) (distinct_numbers ids all.ascend))
    (found_distinct placed right_numbers (placed_at_number holds at folio) numbers_rise)
    (λ x here.
    let from = of_filter_map found ids x here in
    let own = of_found holds at folio from.0 x from.2 in
    in_filter_map placed right_numbers from.0 x (in_right_numbers from.0 (is_numbered from.0 own.0)) own.1)
    (λ x here.
    let from = of_filter_map placed right_numbers x here in
    let made = ap is_some (placed_at_made holds at folio from.0 x from.2) in
    in_filter_map found ids from.0 x (is_there ids at folio from.0 all from.1 made)
    (ap (λ b. cond b (placed from.0) None) (has_number from.0 (of_right_numbers from.0 from.1)) ∙ from.2))
    ∙ given_in_turn placed rights_of_filing receipt_numbers
