-- The places of a line, and the groups of equal rank among them (GBO § 45(1), (3)).
-- Why so: docs/DECISIONS.md, "The cent line is defined by rights, not by owners".
use Rattle.std.specs.Prelude.{Bool, false, not, ◌&&◌, if◌then◌else◌, List, [], ◌∷◌, find}
use Rattle.std.specs.List.{before_first, list_any}
use Rattle.std.specs.Option.{option_map_or}
use Rattle.gb_base.specs.RightNo.{RightNo, same_right}
use Rattle.rank_slots.specs.declared.places.Place.{Place}

-- the place is this right's
abbrev pub is_of : RightNo → Place → Bool
is_of right p = same_right p.right right

-- the first of these places joins the one before it
abbrev pub joins : List Place → Bool
joins [] = false
joins (p ∷ ps) = p.with_previous

-- these groups with one more place at the front of the first
abbrev pub with_first : Place → List (List Place) → List (List Place)
with_first p [] = (p ∷ []) ∷ []
with_first p (g ∷ gs) = (p ∷ g) ∷ gs

-- these places by group: a place, and those behind it that join the one before
abbrev pub groups : List Place → List (List Place)
groups [] = []
groups (p ∷ ps) = if joins ps then with_first p (groups ps) else (p ∷ []) ∷ groups ps

-- the group of a right; empty where the right has no place here
abbrev pub group_of : List Place → RightNo → List Place
group_of places right = option_map_or (λ g. g) (find (list_any (is_of right)) (groups places)) []

-- right y is of right x's group
abbrev pub shares_group : List Place → RightNo → RightNo → Bool
shares_group places x y = list_any (is_of y) (group_of places x)

-- the right has a place here that is not dropped
abbrev pub keeps_place : List Place → RightNo → Bool
keeps_place places right = list_any (λ p. is_of right p && not p.dropped) places

-- right x has a place ahead of right y's
abbrev pub is_listed_ahead : List Place → RightNo → RightNo → Bool
is_listed_ahead places x y = list_any (is_of x) (before_first (is_of y) places)
