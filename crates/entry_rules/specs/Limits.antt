-- How much an entered filing brings.
use Rattle.std.specs.Prelude.{ℕ}

-- The most entries at one key: at a title the filing's place and the owners that it gives, at a right its creation and what one
-- act says of it. A well-formed filing gives a folio owners at most once, and names a right at most once.
abbrev pub most_entered : ℕ
most_entered = 2
