-- The turns of exchanges.
use Rattle.std.specs.Prelude.{ℕ, ◌+◌, Bool, ◌&&◌, List, [], ◌∷◌}
use Rattle.gb_base.specs.Limits.{is_between, most_acts}
use Rattle.folio_sections.specs.HeldRights.{last_number}
use Rattle.folio_line.specs.declared.exchanges.Exchange.{Exchange}
use Rattle.folio_line.specs.declared.exchange_turns.Turn.{Turn}

-- the exchange is by a receipt that there may be, as one of the acts that a filing has
abbrev pub has_turn : Exchange → Bool
has_turn x = is_between 1 last_number x.item && is_between 1 most_acts x.act

-- these exchanges with their numbers, from n on
abbrev pub turns_of : ℕ → List Exchange → List Turn
turns_of n [] = []
turns_of n (x ∷ xs) = record { exchange = x; number = n } ∷ turns_of (n + 1) xs
