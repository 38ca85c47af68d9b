-- How much a case of a forced sale holds, and how many entries a key.
use Rattle.std.specs.Prelude.{ℕ}

-- the most seizures in a case
abbrev pub most_seizures : ℕ
most_seizures = 8

-- the most registrations in a case
abbrev pub most_registrations : ℕ
most_registrations = 32

-- the most entries at a key, as many as a vector has at most
abbrev pub most_at_a_key : ℕ
most_at_a_key = 9223372036854775807
