-- What each right gets of a sum that is paid along the cent line (BGB §§ 879, 881).
use Rattle.std.specs.Prelude.{ℕ, ◌+◌, ◌-◌, Bool, ◌==◌, ◌||◌, not, if◌then◌else◌, List, Option, Some, None, count_by, drop, filter, find, length, map, sum_by, take}
use Rattle.std.specs.List.{list_any, position_or_len, prefix_len, range_with_len}
use Rattle.std.specs.Option.{option_map_or}
use Rattle.gb_base.specs.RightNo.{RightNo, same_right}
use Rattle.gb_base.specs.Shares.{share}
use Rattle.rank_slots.specs.Filled.{Filled, line}
use Rattle.rank_slots.specs.Groups.{group_of, is_of}
use Rattle.rank_slots.specs.declared.places.Knot.{Knot}
use Rattle.rank_slots.specs.declared.places.Place.{Place}

-- the cent is one of this group's
abbrev pub is_of_group : List Place → RightNo → Bool
is_of_group group c = list_any (is_of c) group

-- what a right gets of the cents of its group: all where it stands alone, else its share
abbrev pub share_in_group : List Place → RightNo → ℕ → ℕ
share_in_group group right cents =
    if length group == 1 then cents
    else share cents (map (λ p. p.claim) group) (position_or_len (is_of right) group)

-- what a right gets of the first t cents of the line, knots left aside
abbrev pub line_pay : Filled → RightNo → ℕ → ℕ
line_pay filled right t =
    share_in_group (group_of filled.places right) right (count_by (is_of_group (group_of filled.places right)) (take t (line filled)))

-- the claim of a right
abbrev pub claim_of : List Place → RightNo → ℕ
claim_of places right = option_map_or (λ p. p.claim) (find (is_of right) places) 0

-- the knot that ties the right, if one does
abbrev pub knot_of : List Knot → RightNo → Option Knot
knot_of knots right = find (λ k. same_right k.reserved right || same_right k.exercised right) knots

-- what the reserved right of a knot gets: what it would, knots left aside, of a sum that is smaller by the exercised one's claim
abbrev pub pay_reserved : Filled → Knot → ℕ → ℕ
pay_reserved filled k t = line_pay filled k.reserved (t - claim_of filled.places k.exercised)

-- what the exercised right gets: what both get knots left aside, less what the reserved one gets (BGB § 881(4))
abbrev pub pay_exercised : Filled → Knot → ℕ → ℕ
pay_exercised filled k t = line_pay filled k.reserved t + line_pay filled k.exercised t - pay_reserved filled k t

-- what a right gets by the knot that ties it, if one does
abbrev pub pay_by : Option Knot → Filled → RightNo → ℕ → ℕ
pay_by None filled right t = line_pay filled right t
pay_by (Some k) filled right t = if same_right k.reserved right then pay_reserved filled k t else pay_exercised filled k t

-- what a right gets of the first t cents of the line (BGB §§ 879, 881(4))
abbrev pub pay : Filled → RightNo → ℕ → ℕ
pay filled right t = pay_by (knot_of filled.knots right) filled right t

-- what all rights that are not dropped get together of the first t cents
abbrev pub paid_out : Filled → ℕ → ℕ
paid_out filled t = sum_by (λ p. pay filled p.right t) (filter (λ p. not p.dropped) filled.places)

-- how many cents of the line stand ahead of a group
abbrev pub cents_ahead : List Place → List RightNo → ℕ
cents_ahead group line = position_or_len (is_of_group group) line

-- a sum reaches the last cent of a right on the line
abbrev pub reaches_end : Filled → RightNo → ℕ → Bool
reaches_end filled right t = not (list_any (same_right right) (drop t (line filled)))

-- The greatest sum up to which a right gets nothing. It looks no further than the line's length: of that sum each right that
-- stands alone, and is not dropped, gets something.
abbrev pub empty_up_to : Filled → RightNo → ℕ
empty_up_to filled right = prefix_len (λ t. pay filled right t == 0) (range_with_len 1 (length (line filled)))

-- The threshold of a right: the greatest sum up to which it gets nothing, and for one of a group the cents ahead of the group.
abbrev pub threshold : Filled → RightNo → ℕ
threshold filled right =
    if length (group_of filled.places right) == 1 then empty_up_to filled right
    else cents_ahead (group_of filled.places right) (line filled)
