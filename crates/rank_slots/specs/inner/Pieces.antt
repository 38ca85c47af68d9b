-- Pieces of a line.
use Rattle.std.specs.Prelude.{◌≡◌, ◌≤◌, false, List, [], ◌∷◌, flat_map, replicate}
use Rattle.gb_base.specs.RightNo.{RightNo, same_right}
use Rattle.rank_slots.specs.declared.places.Piece.{Piece}

-- the line that pieces stand for
abbrev pub line_of : List Piece → List RightNo
line_of pieces = flat_map (λ p. replicate p.cents p.right) pieces

-- the first of these pieces is not this right's
abbrev pub BeginsElsewhere : RightNo → List Piece → Type 0
BeginsElsewhere right [] = Unit {0}
BeginsElsewhere right (p ∷ ps) = same_right right p.right ≡ false

-- each piece has cents, and no two neighbours are of one right
abbrev pub AreJoined : List Piece → Type 0
AreJoined [] = Unit {0}
AreJoined (p ∷ ps) = (1 ≤ p.cents) × (BeginsElsewhere p.right ps × AreJoined ps)
