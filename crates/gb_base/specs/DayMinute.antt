-- What a stamp says.
use Rattle.std.specs.Prelude.{ℕ, ◌≤◌}
use Rattle.gb_base.specs.Limits.{first_stamp_day, last_stamp_day}

-- what a stamp says: the day's number and the minute of the day
pub record DayMinute : Type 0 where
  pub day : ℕ
  pub minute : ℕ

-- the days on which receipts are stamped, 2000-01-01 to 2149-12-31
abbrev pub IsStampDay : ℕ → Type 0
IsStampDay day = (first_stamp_day ≤ day) × (day ≤ last_stamp_day)
