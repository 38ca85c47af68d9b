-- Numbers that look drawn: a linear congruential generator over a state of 64 bits.
use Rattle.std.specs.Prelude.{ℕ, ◌+◌, ◌*◌, ◌/◌, ◌%◌, ◌^◌}

-- the state after a draw
abbrev pub state_after : ℕ → ℕ
state_after x = (x * 6364136223846793005 + 1442695040888963407) % 2 ^ 64

-- what is drawn below m in this state: the upper 31 bits of the state after the draw, modulo m
abbrev pub drawn : ℕ → ℕ → ℕ
drawn x m = state_after x / 2 ^ 33 % m
