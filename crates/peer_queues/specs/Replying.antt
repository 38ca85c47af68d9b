-- How long a reply may take. Moments are milliseconds.
use Rattle.std.specs.Prelude.{ℕ, ◌-◌, Bool, ◌&&◌, ◌||◌, nat_le, Option, Some, None}

-- how long a reply may take from its first byte to its last
abbrev pub longest_reply : ℕ
longest_reply = 10000

-- how long it may take once another peer is ready, and how long another that is ready waits for it
abbrev pub longest_beside : ℕ
longest_beside = 2000

-- how long it may pause once another has waited so
abbrev pub longest_pause : ℕ
longest_pause = 50

-- A reply that began and was last taken of at these moments is late: it has taken ten seconds, or two where another peer is ready; or another has been ready for two seconds, and nothing of the reply was taken for a twentieth of one.
abbrev pub is_late : ℕ → ℕ → Option ℕ → ℕ → Bool
is_late begun moved None now = nat_le longest_reply (now - begun)
is_late begun moved (Some since) now =
    nat_le longest_beside (now - begun) || (nat_le longest_beside (now - since) && nat_le longest_pause (now - moved))
