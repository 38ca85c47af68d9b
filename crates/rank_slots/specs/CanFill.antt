-- Which places, exchanges and knots make a line.
use Rattle.std.specs.Prelude.{◌≡◌, ◌<◌, ◌≤◌, Bool, true, false, List, [], ◌∷◌, All, flat_map, length, sum_by}
use Rattle.std.specs.List.{IsDistinct, list_any}
use Rattle.gb_base.specs.RightNo.{RightNo, same_right}
use Rattle.rank_slots.specs.CentLine.{is_of_either}
use Rattle.rank_slots.specs.Filled.{Filled}
use Rattle.rank_slots.specs.Groups.{group_of, is_listed_ahead, joins, keeps_place}
use Rattle.gb_base.specs.Limits.{most_sum}
use Rattle.rank_slots.specs.Limits.{most_places}
use Rattle.rank_slots.specs.declared.places.Knot.{Knot}
use Rattle.rank_slots.specs.declared.places.Place.{Place}
use Rattle.rank_slots.specs.declared.places.Swap.{Swap}

-- the right has a place here, and is the only one of its group
abbrev pub StandsAlone : List Place → RightNo → Type 0
StandsAlone places right = length (group_of places right) ≡ 1

-- At most 256 places of different rights, the first joining none, each with a claim, in all below 10^18; a dropped one stands alone.
pub record ArePlaces (places : List Place) : Type 0 where
  pub few : length places ≤ most_places
  pub distinct : IsDistinct (λ p q. same_right p.right q.right) places
  pub first : joins places ≡ false
  pub dropped : All (λ p. p.dropped ≡ true → StandsAlone places p.right) places
  pub claims : All (λ p. 1 ≤ p.claim) places
  pub sum : sum_by (λ p. p.claim) places < most_sum

-- both rights of an exchange stand alone
abbrev pub CanSwap : List Place → Swap → Type 0
CanSwap places s = StandsAlone places s.recede × StandsAlone places s.rise

-- the right is one of those that are exchanged
abbrev pub is_swapped : List Swap → RightNo → Bool
is_swapped swaps right = list_any (λ s. is_of_either s right) swaps

-- the right stands alone, is not dropped, and is not exchanged
pub record CanTie (places : List Place) (swaps : List Swap) (right : RightNo) : Type 0 where
  pub alone : StandsAlone places right
  pub kept : keeps_place places right ≡ true
  pub unswapped : is_swapped swaps right ≡ false

-- The two rights of a knot: the reserved one stands ahead of the one that was exercised.
pub record CanKnot (places : List Place) (swaps : List Swap) (k : Knot) : Type 0 where
  pub reserved : CanTie places swaps k.reserved
  pub exercised : CanTie places swaps k.exercised
  pub ahead : is_listed_ahead places k.reserved k.exercised ≡ true

-- the rights of these knots
abbrev pub knotted : List Knot → List RightNo
knotted knots = flat_map (λ k. k.reserved ∷ k.exercised ∷ []) knots

-- What a line can be filled with: places that make a line, exchanges and knots of their rights, and each right in one knot at most.
pub record CanFill (filled : Filled) : Type 0 where
  pub places : ArePlaces filled.places
  pub swaps : All (CanSwap filled.places) filled.swaps
  pub knots : All (CanKnot filled.places filled.swaps) filled.knots
  pub once : IsDistinct same_right (knotted filled.knots)
