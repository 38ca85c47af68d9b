-- What a line was filled with.
use Rattle.std.specs.Prelude.{ℕ, List, [], ◌∷◌, ◌++◌}
use Rattle.gb_base.specs.RightNo.{RightNo}
use Rattle.rank_slots.specs.CentLine.{cent_line}
use Rattle.rank_slots.specs.declared.places.Knot.{Knot}
use Rattle.rank_slots.specs.declared.places.Place.{Place}
use Rattle.rank_slots.specs.declared.places.Swap.{Swap}

-- the places in order, the exchanges in turn, and the knots
pub record Filled : Type 0 where
  pub places : List Place
  pub swaps : List Swap
  pub knots : List Knot

-- the cent line of these places
abbrev pub line : Filled → List RightNo
line filled = cent_line filled.places filled.swaps

-- what a line was filled with, and one more exchange after the others
abbrev pub with_swap : Filled → Swap → Filled
with_swap filled s = record { places = filled.places; swaps = filled.swaps ++ s ∷ []; knots = filled.knots }

-- what a line was filled with, without the knots
abbrev pub without_knots : Filled → Filled
without_knots filled = record { places = filled.places; swaps = filled.swaps; knots = [] }

-- a line without places
abbrev pub empty : Filled
empty = record { places = []; swaps = []; knots = [] }

-- the slots of a line: how many places and exchanges they have room for, what they were filled with, and for how many elements
-- their lists have memory
pub record SlotsState : Type 0 where
  pub place_room : ℕ
  pub swap_room : ℕ
  pub filled : Filled
  pub capacity : ℕ
