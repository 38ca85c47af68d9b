-- How the slots of a line stand for it.
use Rattle.std.specs.Prelude.{◌≡◌, ℕ, ◌+◌, ◌<◌, ◌≤◌, List, sum_by}
use Rattle.rank_slots.specs.CanFill.{CanFill}
use Rattle.rank_slots.specs.Filled.{Filled, line}
use Rattle.gb_base.specs.Limits.{most_sum}
use Rattle.rank_slots.specs.declared.places.Piece.{Piece}
use Rattle.rank_slots.specs.inner.Pieces.{AreJoined, line_of}

-- The pieces are those of the line that slots were filled with.
pub record IsFilled (filled : Filled) (pieces : List Piece) : Type 0 where
  pub fits : CanFill filled
  pub line : line_of pieces ≡ line filled
  pub joined : AreJoined pieces
  pub sum : sum_by (λ p. p.cents) pieces < most_sum

-- Lists of these capacities have room for so many places and exchanges.
pub record HasRoom (place_room swap_room of_places of_swaps of_knots of_pieces : ℕ) : Type 0 where
  pub places : place_room ≤ of_places
  pub swaps : swap_room ≤ of_swaps
  pub knots : place_room ≤ of_knots
  pub pieces : place_room + swap_room ≤ of_pieces

-- Lists of these capacities have room for a line in spans: each exchange cuts one span at most.
pub record HasSpanRoom (place_room swap_room of_spans of_links of_heads : ℕ) : Type 0 where
  pub spans : place_room + swap_room ≤ of_spans
  pub links : place_room + swap_room ≤ of_links
  pub heads : place_room ≤ of_heads
