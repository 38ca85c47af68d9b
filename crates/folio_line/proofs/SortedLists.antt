-- Lists that a sort has left in order.
use Rattle.std.proofs.Common.{◌≡◌, suc, zero, ◌+◌, ◌<◌, ◌≤◌, Bool, false, ◌||◌, List, [], ◌∷◌, get_or, subst, arith, suc-le-suc, zero-le, All}
use Rattle.std.specs.List.{AllByRecursion, IsDistinct}
use Rattle.std.specs.List.Sorted.{IsPermutation, IsSortedBy}
use Rattle.std.proofs.lemmas.List.Elements.{All-from_recursion, recursion_from_All}
use Rattle.std.proofs.lemmas.List.Sorted.{All-permutation}
use Rattle.gb_base.proofs.Members.{In}
use Rattle.folio_sections.proofs.FilteredLists.{all_in, in_all}
use Rattle.folio_sections.proofs.Unchanged.{all_weaker}

-- none of a list that a sort has left is less than one ahead of it
pub sorted_distinct : {X : Type 0} (lt : X → X → Bool) → ((x y z : X) → lt y x ≡ false → lt z y ≡ false → lt z x ≡ false) → (ys : List X) → IsSortedBy lt ys → IsDistinct (λ x y. lt y x) ys
unfolding IsDistinct
sorted_distinct lt on [] sorted = tt
sorted_distinct lt on (y ∷ []) sorted = (tt, tt)
sorted_distinct {X} lt on (y ∷ z ∷ zs) sorted =
    let first : lt z y ≡ false = sorted zero y zero-le (suc-le-suc (suc-le-suc zero-le)) in
    let rest : IsDistinct (λ v w. lt w v) (z ∷ zs) = sorted_distinct lt on (z ∷ zs)
    (λ k d le less.
    let next : suc k + 1 ≡ suc (k + 1) = omega arith in
    subst (λ n. lt (get_or (y ∷ z ∷ zs) n d) (get_or (z ∷ zs) k d) ≡ false) next (sorted (suc k) d zero-le (omega (arith, less)))) in
    ((first, all_weaker (λ w. lt w z ≡ false) (λ w. lt w y ≡ false) zs (λ w second. on y z w first second) rest.0), rest)

-- neither of two tests holds of an element and a later one
pub distinct_both : {X : Type 0} (d e : X → X → Bool) (xs : List X) → IsDistinct d xs → IsDistinct e xs → IsDistinct (λ x y. d x y || e x y) xs
unfolding IsDistinct
distinct_both d e [] first second = tt
distinct_both {X} d e (x ∷ xs) first second = (by xs first.0 second.0, distinct_both d e xs first.1 second.1)
  where
    by : (ys : List X) → AllByRecursion (λ y. d x y ≡ false) ys → AllByRecursion (λ y. e x y ≡ false) ys → AllByRecursion (λ y. (d x y || e x y) ≡ false) ys
    by [] one other = tt
    by (y ∷ ys) one other = ((λ i. one.0 i || other.0 i), by ys one.1 other.1)

-- a sort leaves the elements
pub in_permutation : {X : Type 0} (xs ys : List X) (z : X) → IsPermutation xs ys → In z ys → In z xs
in_permutation xs ys z permutation there =
    in_all (λ y. In y xs) ys z (recursion_from_All (λ y. In y xs) ys (All-permutation (λ y. In y xs) xs ys permutation (All-from_recursion (λ y. In y xs) xs (all_in (λ y. In y xs) xs (λ y here. here))))) there
