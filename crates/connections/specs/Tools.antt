-- What a clerk works with.
use Rattle.std.specs.Prelude.{Option}
use Rattle.settled_book.specs.SettledBookState.{SettledBookState}

-- the disk, the book at hand, and the clock
pub record Tools (D C : Type 0) : Type 0 where
  pub disk : D
  pub at_hand : Option SettledBookState
  pub clock : C

-- these tools
abbrev pub tools : {D C : Type 0} → D → Option SettledBookState → C → Tools D C
tools disk at_hand clock = record { disk = disk; at_hand = at_hand; clock = clock }
