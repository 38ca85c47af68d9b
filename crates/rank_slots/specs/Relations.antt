-- Which of two rights stands ahead of the other.
-- Why so: docs/DECISIONS.md, "A right is of one rank with itself".
use Rattle.std.specs.Prelude.{Bool, ◌&&◌, ◌||◌, if◌then◌else◌, List, filter, Option, Some, None}
use Rattle.std.specs.List.{last_or, list_any}
use Rattle.gb_base.specs.RightNo.{RightNo, same_right}
use Rattle.rank_slots.specs.Filled.{Filled}
use Rattle.rank_slots.specs.Groups.{is_listed_ahead, shares_group}
use Rattle.rank_slots.specs.declared.places.Knot.{Knot}
use Rattle.rank_slots.specs.declared.places.Place.{Place}
use Rattle.rank_slots.specs.declared.places.Swap.{Swap}
use Rattle.rank_slots.specs.declared.relations.Relation.{Relation}
use Rattle.rank_slots.specs.declared.relations.Relation.TheVariants.{Ahead, Behind, Equal}

-- right x was exercised in a knot with the reserved right y
abbrev pub is_exercised_over : List Knot → RightNo → RightNo → Bool
is_exercised_over knots x y = list_any (λ k. same_right k.exercised x && same_right k.reserved y) knots

-- the exchange is of just these two
abbrev pub swaps_both : RightNo → RightNo → Swap → Bool
swaps_both x y s = (same_right s.recede x && same_right s.rise y) || (same_right s.recede y && same_right s.rise x)

-- the last of the exchanges of just these two
abbrev pub last_between : RightNo → RightNo → List Swap → Option Swap
last_between x y swaps = last_or None (filter (swaps_both x y) swaps)

-- by an exchange the rising right is ahead; without one those of one group are equal, and else the place decides
abbrev pub relation_by : Option Swap → List Place → RightNo → RightNo → Relation
relation_by (Some s) places x y = if same_right s.rise x then Ahead else Behind
relation_by None places x y =
    if shares_group places x y then Equal
    else (if is_listed_ahead places x y then Ahead else Behind)

-- How right x stands to right y: a right is equal to itself; of two rights a knot puts the exercised one ahead (BGB § 881), else
-- their last exchange decides (BGB § 880), else group and place do (BGB § 879).
abbrev pub relation : Filled → RightNo → RightNo → Relation
relation filled x y =
    if same_right x y then Equal
    else (if is_exercised_over filled.knots x y then Ahead
    else (if is_exercised_over filled.knots y x then Behind
    else relation_by (last_between x y filled.swaps) filled.places x y))
