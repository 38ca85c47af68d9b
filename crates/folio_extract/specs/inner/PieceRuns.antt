-- The pieces at the front of a line that are of one group.
use Rattle.std.specs.Prelude.{ℕ, suc, if◌then◌else◌, List, [], ◌∷◌}
use Rattle.rank_slots.specs.declared.places.Piece.{Piece}
use Rattle.rank_slots.specs.declared.places.Place.{Place}
use Rattle.rank_slots.specs.Groups.{shares_group}

-- how many pieces at the front each share the group of the one before
abbrev pub run_len : List Place → List Piece → ℕ
run_len places [] = 0
run_len places (p ∷ []) = 1
run_len places (p ∷ q ∷ qs) = if shares_group places p.right q.right then suc (run_len places (q ∷ qs)) else 1
