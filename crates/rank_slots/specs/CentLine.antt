-- The cents of a line of places, each as the right that takes it (BGB §§ 879, 880).
use Rattle.std.specs.Prelude.{ℕ, ◌+◌, ◌-◌, Bool, ◌==◌, ◌&&◌, ◌||◌, not, if◌then◌else◌, List, [], ◌∷◌, count_by, filter, flat_map, fold, replicate}
use Rattle.std.specs.List.{list_any}
use Rattle.gb_base.specs.RightNo.{RightNo, same_right}
use Rattle.rank_slots.specs.Groups.{is_of}
use Rattle.rank_slots.specs.declared.places.Piece.{Piece}
use Rattle.rank_slots.specs.declared.places.Place.{Place}
use Rattle.rank_slots.specs.declared.places.Swap.{Swap}

-- the claims cent by cent, place by place
abbrev pub written : List Place → List RightNo
written places = flat_map (λ p. replicate p.claim p.right) places

-- how many cents are this right's
abbrev pub cents_of : RightNo → List RightNo → ℕ
cents_of right line = count_by (same_right right) line

-- the cent is one of the two rights'
abbrev pub is_of_either : Swap → RightNo → Bool
is_of_either s c = same_right s.recede c || same_right s.rise c

-- each cent of the two rights becomes the rising one's while it has cents left, and then the receding one's
abbrev pub exchanged : Swap → ℕ → List RightNo → List RightNo
exchanged s left [] = []
exchanged s left (c ∷ cs) =
    if is_of_either s c
    then (if left == 0 then s.recede ∷ exchanged s 0 cs else s.rise ∷ exchanged s (left - 1) cs)
    else c ∷ exchanged s left cs

-- the line after an exchange (BGB § 880)
abbrev pub exchange : List RightNo → Swap → List RightNo
exchange line s = exchanged s (cents_of s.rise line) line

-- the line after these exchanges, which are made one after the other
abbrev pub exchange_all : List RightNo → List Swap → List RightNo
exchange_all line swaps = fold exchange line swaps

-- the right's place is dropped
abbrev pub is_dropped : List Place → RightNo → Bool
is_dropped places right = list_any (λ p. is_of right p && p.dropped) places

-- the cent line: the claims after all exchanges, and the cents of dropped places taken out last
unfoldable pub cent_line : List Place → List Swap → List RightNo
cent_line places swaps = filter (λ c. not (is_dropped places c)) (exchange_all (written places) swaps)

-- the pieces with one more cent at their front
abbrev pub one_more_cent : RightNo → List Piece → List Piece
one_more_cent right [] = record { right = right; cents = 1 } ∷ []
one_more_cent right (p ∷ ps) =
    if same_right right p.right then record { right = right; cents = p.cents + 1 } ∷ ps else record { right = right; cents = 1 } ∷ p ∷ ps

-- the pieces of a line: neighbouring cents of one right are joined
abbrev pub pieces_of : List RightNo → List Piece
pieces_of [] = []
pieces_of (right ∷ line) = one_more_cent right (pieces_of line)
