-- Interest as forced sales count it: a year has 360 days, and each month 30. ZVG does not say how days are counted; this is the
-- office's own rule.
use Rattle.std.specs.Prelude.{ℕ, ◌+◌, ◌-◌, ◌*◌, ◌/◌, nat_lt, if◌then◌else◌, min}
use Rattle.gb_base.specs.Calendar.{date_of}

-- the place of day n in such years; the 31st of a month counts as its 30th
abbrev pub commercial_day : ℕ → ℕ
commercial_day n = 360 * (date_of n).year + 30 * (date_of n).month + min (date_of n).day 30

-- the days from day a up to day b, without day b itself; none where b is before a
abbrev pub days360 : ℕ → ℕ → ℕ
days360 a b = if nat_lt b a then 0 else commercial_day b - commercial_day a

-- the interest on a capital in cents for so many days, in whole cents; the rate is in hundredths of a percent a year
abbrev pub interest : ℕ → ℕ → ℕ → ℕ
interest capital rate days = capital * rate * days / 3600000
