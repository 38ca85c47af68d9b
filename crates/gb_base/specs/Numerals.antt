-- Numbers written in digits.
use Rattle.std.specs.Prelude.{ℕ, ◌+◌, ◌-◌, ◌*◌, Bool, ◌&&◌, if◌then◌else◌, List, [], ◌∷◌, length, Option, Some, None}
use Rattle.std.specs.List.{list_all}
use Rattle.gb_base.specs.Limits.{is_between}

-- the byte is an ASCII digit
abbrev pub is_digit : ℕ → Bool
is_digit b = is_between 48 57 b

-- 1 to 10 digits
abbrev pub is_numeral : List ℕ → Bool
is_numeral text = is_between 1 10 (length text) && list_all is_digit text

-- the number that these digits write behind those of `before`
abbrev pub value_from : ℕ → List ℕ → ℕ
value_from before [] = before
value_from before (b ∷ bs) = value_from (before * 10 + (b - 48)) bs

-- the number that 1 to 10 digits write, where it is in the range
abbrev pub number_in : ℕ → ℕ → List ℕ → Option ℕ
number_in low high text =
    if is_numeral text && is_between low high (value_from 0 text) then Some (value_from 0 text) else None
