-- The cents of a line in words: piece by piece, by the numbers of their first and last cents.
use Rattle.std.specs.Prelude.{ℕ, ◌+◌, ◌-◌, if◌then◌else◌, List, [], ◌∷◌, ◌++◌, codes, flat_map}
use Rattle.std.specs.Fmt.{decimal}
use Rattle.gb_base.specs.Texts.{right_text}
use Rattle.rank_slots.specs.CentLine.{pieces_of}
use Rattle.rank_slots.specs.Filled.{Filled, line}
use Rattle.rank_slots.specs.Groups.{group_of, shares_group}
use Rattle.rank_slots.specs.declared.places.Piece.{Piece}
use Rattle.rank_slots.specs.declared.places.Place.{Place}

-- these pieces with one more at their front, which is joined to the next where that is of its group
abbrev pub with_piece : List Place → Piece → List Piece → List Piece
with_piece places p [] = p ∷ []
with_piece places p (q ∷ qs) =
    if shares_group places p.right q.right then record { right = p.right; cents = p.cents + q.cents } ∷ qs else p ∷ q ∷ qs

-- these pieces, with neighbours of one group joined, each by its first right
abbrev pub joined_groups : List Place → List Piece → List Piece
joined_groups places [] = []
joined_groups places (p ∷ ps) = with_piece places p (joined_groups places ps)

-- a right by its number, and rights of equal rank as a group
abbrev pub group_text : List Place → List ℕ
group_text [] = []
group_text (p ∷ []) = right_text p.right
group_text group = codes "group" ++ flat_map (λ p. codes " " ++ right_text p.right) group

-- the line of a piece that this group takes: so many cents, from this one on
abbrev pub piece_line : ℕ → ℕ → List Place → List ℕ
piece_line from cents group =
    codes "cents " ++ (decimal from ++ (codes "-" ++ (decimal (from + cents - 1) ++ (codes " " ++ (group_text group ++ codes "\n")))))

-- the lines of these pieces, the first of which begins with this cent
abbrev pub piece_lines : List Place → ℕ → List Piece → List ℕ
piece_lines places from [] = []
piece_lines places from (p ∷ ps) = piece_line from p.cents (group_of places p.right) ++ piece_lines places (from + p.cents) ps

-- the cents of a line
abbrev pub line_text : Filled → List ℕ
line_text filled = piece_lines filled.places 1 (joined_groups filled.places (pieces_of (line filled)))
