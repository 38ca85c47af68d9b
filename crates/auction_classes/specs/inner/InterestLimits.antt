-- How much interest there may be.
use Rattle.std.specs.Prelude.{ℕ}

-- The interest of one term is at most this, in cents: that on the greatest amount at the greatest rate for the most days, in whole cents
-- (`at_most` of gb_base's `interest`).
abbrev pub most_of_term : ℕ
most_of_term = 461111111111111
