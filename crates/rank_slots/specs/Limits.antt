-- The limit of a line of places.
use Rattle.std.specs.Prelude.{ℕ}

-- the most places of a line: as many as may share money
abbrev pub most_places : ℕ
most_places = 256
