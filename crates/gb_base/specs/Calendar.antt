-- Days as dates of the Gregorian calendar.
-- Why so: docs/DECISIONS.md, "A date out of the range is zeros".
use Rattle.std.specs.Prelude.{◌≡◌, ℕ, ◌+◌, ◌-◌, ◌≤◌, Bool, List, map, flat_map, find, Option, Some, None, pos}
use Rattle.std.specs.List.{range_with_len}
use Rattle.std.specs.Ordering.{int_eq}
use Rattle.jiff_core.specs.Calendar.{IsCivilDate, days_from_civil, days_in_month}
use Rattle.gb_base.specs.Limits.{first_year, last_year}

-- a date of the calendar from 1970-01-01 to 2199-12-31
pub record IsDateOfRange (year month day : ℕ) : Type 0 where
  pub date : IsCivilDate (pos year) month day
  pub from : first_year ≤ year
  pub to : year ≤ last_year

-- the calendar has this date, and it is day n from 1970-01-01, which is day 0
pub record IsCivilDay (year month day n : ℕ) : Type 0 where
  pub date : IsCivilDate (pos year) month day
  pub number : days_from_civil (pos year) month day ≡ pos n

-- a year, a month and a day of the month
pub record CivilDate : Type 0 where
  pub year : ℕ
  pub month : ℕ
  pub day : ℕ

-- the dates of a month
abbrev pub dates_of_month : ℕ → ℕ → List CivilDate
dates_of_month year month =
    map (λ day. record { year = year; month = month; day = day }) (range_with_len 1 (days_in_month (pos year) month))

-- the dates of a year
abbrev pub dates_of_year : ℕ → List CivilDate
dates_of_year year = flat_map (dates_of_month year) (range_with_len 1 12)

-- the dates from the first day to the last
unfoldable pub dates_of_range : List CivilDate
dates_of_range = flat_map dates_of_year (range_with_len first_year (last_year + 1 - first_year))

-- whether the calendar numbers this date n
abbrev pub is_numbered : ℕ → CivilDate → Bool
is_numbered n date = int_eq (days_from_civil (pos date.year) date.month date.day) (pos n)

-- a date, or zeros where there is none
abbrev pub date_or_zeros : Option CivilDate → CivilDate
date_or_zeros (Some date) = date
date_or_zeros None = record { year = 0; month = 0; day = 0 }

-- the date of day n: the date of the range that has this number
unfoldable pub date_of : ℕ → CivilDate
date_of n = date_or_zeros (find (is_numbered n) dates_of_range)
