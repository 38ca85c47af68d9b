-- How many defects a filing has at most.
use Rattle.std.specs.Prelude.{ℕ}

-- the most curable defects of a filing: six sections, eight acts
abbrev pub most_defects : ℕ
most_defects = 48
