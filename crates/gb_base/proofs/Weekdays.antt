-- The weekday that the calendar gives the date of a day is the day's own.
use Rattle.std.proofs.Common.{◌≡◌, ℕ, ◌∙◌, ap, arith, pos}
use Rattle.jiff_core.specs.Calendar.{weekday_number}
use Rattle.jiff_core.specs.declared.civil.date.Date.{Date}
use Rattle.jiff_core.specs.Date.{epoch_day, weekday_of}
use Rattle.jiff_core.proofs.CalendarLemmas.{weekday_number-parts}
use Rattle.jiff_core.proofs.SignedLemmas.{signed_arith}
use Rattle.gb_base.specs.Calendar.{IsCivilDay}
use Rattle.gb_base.specs.Deadlines.{weekday}

-- the weekday of a number that is not negative
weekday_of_number : (n : ℕ) → weekday_number (pos n) ≡ weekday n
weekday_of_number n = omega (arith, signed_arith, weekday_number-parts (pos n))

-- the weekday of a date with the year, month and day of a day
pub weekday_of_date : (d : Date) (year month day n : ℕ) → d.year ≡ pos year → d.month ≡ month → d.day ≡ day
    → IsCivilDay year month day n → weekday_of d ≡ weekday n
weekday_of_date d year month day n same_year same_month same_day civil =
    let here : epoch_day d ≡ pos n = rw (same_year, same_month, same_day) civil.number in
    ap weekday_number here ∙ weekday_of_number n
