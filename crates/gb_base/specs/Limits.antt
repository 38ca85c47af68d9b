-- Limits and ranges, each said once.
use Rattle.std.specs.Prelude.{ℕ, Bool, ◌&&◌, nat_le}

-- n lies between low and high, both included
abbrev pub is_between : ℕ → ℕ → ℕ → Bool
is_between low high n = nat_le low n && nat_le n high

-- the greatest amount, in cents
abbrev pub most_cents : ℕ
most_cents = 10000000000000

-- the greatest rate of interest, in hundredths of a percent a year
abbrev pub most_rate : ℕ
most_rate = 2000

-- the most days for which interest is counted; from the first day to the last there are fewer
abbrev pub most_interest_days : ℕ
most_interest_days = 83000

-- sums of cents stay below this
abbrev pub most_sum : ℕ
most_sum = 1000000000000000000

-- the most claims that share money
abbrev pub most_sharing : ℕ
most_sharing = 256

-- the greatest number of an act in its filing
abbrev pub most_acts : ℕ
most_acts = 8

-- the year of the first day
abbrev pub first_year : ℕ
first_year = 1970

-- the year of the last day
abbrev pub last_year : ℕ
last_year = 2199

-- the number of the last day, 2199-12-31
abbrev pub last_day : ℕ
last_day = 84005

-- the number of the first day on which receipts are stamped, 2000-01-01
abbrev pub first_stamp_day : ℕ
first_stamp_day = 10957

-- the number of the last day on which receipts are stamped, 2149-12-31
abbrev pub last_stamp_day : ℕ
last_stamp_day = 65743

-- how many minutes a day has
abbrev pub minutes_of_day : ℕ
minutes_of_day = 1440
