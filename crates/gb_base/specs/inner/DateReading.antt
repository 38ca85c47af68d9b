-- How the ten bytes of a date are read.
use Rattle.std.specs.Prelude.{ℕ, ◌+◌, ◌*◌, ◌-◌, ◌&&◌, ◌==◌, List, [], ◌∷◌, Option, Some, None, if◌then◌else◌, pos, unsigned_abs}
use Rattle.std.specs.Char.{is_ascii_digit}
use Rattle.jiff_core.specs.Calendar.{days_in_month, days_from_civil}
use Rattle.gb_base.specs.Limits.{is_between, first_year, last_year}
use Rattle.gb_base.specs.Optional.{◌>>=◌}

-- the number of two digits
abbrev pub digits_read : ℕ → ℕ → Option ℕ
digits_read tens ones =
    if is_ascii_digit tens && is_ascii_digit ones then Some (10 * (tens - 48) + (ones - 48)) else None

-- the number of this date of the range
abbrev pub day_numbered : ℕ → ℕ → ℕ → Option ℕ
day_numbered year month day =
    if is_between first_year last_year year && is_between 1 12 month && is_between 1 (days_in_month (pos year) month) day
    then Some (unsigned_abs (days_from_civil (pos year) month day)) else None

-- the day of the date with these digits
unfoldable pub day_of_digits : ℕ × ℕ → ℕ × ℕ → ℕ × ℕ → ℕ × ℕ → Option ℕ
day_of_digits c y m d = do
  century ← digits_read c.0 c.1
  year ← digits_read y.0 y.1
  month ← digits_read m.0 m.1
  day ← digits_read d.0 d.1
  day_numbered (100 * century + year) month day

-- the day of the date that these ten bytes write
abbrev pub day_read : List ℕ → Option ℕ
day_read (y1 ∷ y2 ∷ y3 ∷ y4 ∷ dash1 ∷ m1 ∷ m2 ∷ dash2 ∷ d1 ∷ d2 ∷ []) =
    if dash1 == 45 && dash2 == 45 then day_of_digits (y1, y2) (y3, y4) (m1, m2) (d1, d2) else None
day_read text = None
