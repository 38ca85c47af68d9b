-- There are no more knots than places, since no right is in two and each has a place.
use Rattle.std.proofs.Common.{◌≡◌, ◌*◌, ◌<◌, ◌≤◌, true, false, cond, not, ◌||◌, List, [], ◌∷◌, All, filter, length, refl, sym, ap, arith, ◌∙◌}
use Rattle.std.specs.List.{AllByRecursion, IsDistinct}
use Rattle.std.proofs.lemmas.Bool.{false≢true}
use Rattle.std.proofs.lemmas.List.Elements.{recursion_from_All}
use Rattle.std.proofs.lemmas.List.Sums.{count_by-le-length, length-filter}
use Rattle.std.proofs.lemmas.Map.Keys.{IsDistinct-head, IsDistinct-tail}
use Rattle.gb_base.specs.RightNo.{RightNo, same_right}
use Rattle.gb_base.proofs.SameRights.{right_is}
use Rattle.rank_slots.specs.CanFill.{CanKnot, knotted}
use Rattle.rank_slots.specs.Groups.{is_of}
use Rattle.rank_slots.specs.declared.places.Knot.{Knot}
use Rattle.rank_slots.specs.declared.places.Place.{Place}
use Rattle.rank_slots.specs.declared.places.Swap.{Swap}
use Rattle.rank_slots.proofs.PlaceLines.{is_listed, kept_listed}

-- the places of other rights
abbrev others : RightNo → List Place → List Place
others right places = filter (λ p. not (is_of right p)) places

no_more : (right : RightNo) (places : List Place) → length (others right places) ≤ length places
no_more right places = omega (arith, length-filter (λ p. not (is_of right p)) places, count_by-le-length (λ p. not (is_of right p)) places)

-- without a right's places there are fewer, where it has one
fewer : (right : RightNo) (places : List Place) → is_listed places right ≡ true → length (others right places) < length places
fewer right [] listed = absurd (false≢true listed)
fewer right (p ∷ ps) listed = elim (is_of right p) as (λ b. is_of right p ≡ b → (b || is_listed ps right) ≡ true → length (cond (not b) (p ∷ others right ps) (others right ps)) < length (p ∷ ps)) [
  | true ↦ λ this has. let rest = no_more right ps in omega arith
  | false ↦ λ other has. let rest = fewer right ps has in omega arith
] refl listed

-- another right keeps its place where this one's places are taken out
still_listed : (right other : RightNo) (places : List Place) → same_right right other ≡ false → is_listed places other ≡ true → is_listed (others right places) other ≡ true
still_listed right other [] apart listed = listed
still_listed right other (p ∷ ps) apart listed = elim (is_of right p) as (λ b. is_of right p ≡ b → is_listed (cond (not b) (p ∷ others right ps) (others right ps)) other ≡ true) [
  | true ↦ λ this.
      let not_here : is_of other p ≡ false = ap (λ r. same_right r other) (right_is p.right right this) ∙ apart in
      still_listed right other ps apart (ap (λ b. b || is_listed ps other) (sym not_here) ∙ listed)
  | false ↦ λ elsewhere. elim (is_of other p) as (λ b. is_of other p ≡ b → (b || is_listed (others right ps) other) ≡ true) [
    | true ↦ λ here. refl
    | false ↦ λ not_here. still_listed right other ps apart (ap (λ b. b || is_listed ps other) (sym not_here) ∙ listed)
  ] refl
] refl

all_still_listed : (right : RightNo) (rights : List RightNo) (places : List Place) → AllByRecursion (λ r. same_right right r ≡ false) rights → AllByRecursion (λ r. is_listed places r ≡ true) rights
    → AllByRecursion (λ r. is_listed (others right places) r ≡ true) rights
all_still_listed right [] places apart listed = tt
all_still_listed right (r ∷ rs) places apart listed = (still_listed right r places apart.0 listed.0, all_still_listed right rs places apart.1 listed.1)

-- rights that differ and have places are no more than the places
no_more_rights : (rights : List RightNo) (places : List Place) → IsDistinct same_right rights → AllByRecursion (λ r. is_listed places r ≡ true) rights → length rights ≤ length places
no_more_rights [] places apart listed = omega arith
no_more_rights (r ∷ rs) places apart listed =
    let rest = no_more_rights rs (others r places) (IsDistinct-tail same_right r rs apart) (all_still_listed r rs places (IsDistinct-head same_right r rs apart) listed.1) in
    let one = fewer r places listed.0 in
    omega arith

all_listed : (places : List Place) (swaps : List Swap) (knots : List Knot) → AllByRecursion (CanKnot places swaps) knots → AllByRecursion (λ r. is_listed places r ≡ true) (knotted knots)
all_listed places swaps [] can = tt
all_listed places swaps (k ∷ ks) can =
    (kept_listed k.reserved places can.0.reserved.kept, (kept_listed k.exercised places can.0.exercised.kept, all_listed places swaps ks can.1))

length_knotted : (knots : List Knot) → length (knotted knots) ≡ 2 * length knots
length_knotted [] = refl
length_knotted (k ∷ ks) = let rest = length_knotted ks in omega arith

pub no_more_knots : (places : List Place) (swaps : List Swap) (knots : List Knot) → All (CanKnot places swaps) knots → IsDistinct same_right (knotted knots) → length knots ≤ length places
no_more_knots places swaps knots can once =
    let rights = no_more_rights (knotted knots) places once (all_listed places swaps knots (recursion_from_All (CanKnot places swaps) knots can)) in
    let two = length_knotted knots in
    omega arith
