-- How money is shared in proportion among claims of equal rank.
use Rattle.std.specs.Prelude.{ℕ, ◌+◌, ◌-◌, ◌*◌, ◌/◌, List, map, length, sum, nat_le, nat_lt, slice_get, if◌then◌else◌}
use Rattle.std.specs.List.{range_with_len}
use Rattle.std.specs.Option.{option_map_or}

-- claim i of these
abbrev pub claim_at : List ℕ → ℕ → ℕ
claim_at claims i = option_map_or (λ c. c) (slice_get claims i) 0

-- the whole cents of a claim's part of the money
abbrev pub whole_part : ℕ → List ℕ → ℕ → ℕ
whole_part money claims claim = money * claim / sum claims

-- the cents that the whole parts leave over
abbrev pub left_over : ℕ → List ℕ → ℕ
left_over money claims = money - sum (map (whole_part money claims) claims)

-- what claim i gets: the whole claim where the money reaches the sum; else the whole cents of its part, and one cent more where it
-- is among the first while cents are left over (ZVG § 10(1))
abbrev pub share : ℕ → List ℕ → ℕ → ℕ
share money claims i =
    if nat_le (sum claims) money then claim_at claims i
    else whole_part money claims (claim_at claims i) + (if nat_lt i (left_over money claims) then 1 else 0)

-- what each claim gets
abbrev pub shares : ℕ → List ℕ → List ℕ
shares money claims = map (share money claims) (range_with_len 0 (length claims))
