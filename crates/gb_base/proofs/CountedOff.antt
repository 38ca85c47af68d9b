-- Counting off years and months, each day of the range comes to a date.
use Rattle.std.proofs.Common.{◌≡◌, ℕ, zero, suc, ◌+◌, ◌-◌, ◌<◌, ◌≤◌, nat_lt, if◌then◌else◌, refl, arith, pos}
use Rattle.jiff_core.specs.Calendar.{day_count, days_in_year, days_in_month, days_of_months}
use Rattle.jiff_core.proofs.CalendarLemmas.{day_count-epoch, day_count-next_year, day_count-day_of_year, days_from_civil-day_count, days_of_months-zero, days_of_months_more, days_of_months_all}
use Rattle.jiff_core.proofs.MarchLemmas.{day_count-early}
use Rattle.jiff_core.proofs.SignedLemmas.{signed_arith}
use Rattle.std.proofs.lemmas.Bool.{cond_both, ltb-true, ltb-false}
use Rattle.gb_base.specs.Calendar.{IsDateOfRange, IsCivilDay}

-- a day in one of the spans that follow one another, as years do: which span, and how many of its days come before
pub record DayInSpan : Type 0 where
  pub span : ℕ
  pub before : ℕ

-- whole spans of these lengths are counted off the days, from span `first` on, up to `most` of them
unfoldable pub counted_off : (ℕ → ℕ) → ℕ → ℕ → ℕ → DayInSpan
counted_off length zero first days = record { span = first; before = days }
counted_off length (suc most) first days =
    if nat_lt days (length first) then record { span = first; before = days }
    else counted_off length most (first + 1) (days - length first)

-- the year of day n, and how many of its days come before
unfoldable pub in_year : ℕ → DayInSpan
in_year n = counted_off (λ year. days_in_year (pos year)) 229 1970 n

unfoldable pub year_of : ℕ → ℕ
year_of n = (in_year n).span

-- the month of day n in its year, and how many of its days come before
unfoldable pub in_month : ℕ → DayInSpan
in_month n = counted_off (λ month. days_in_month (pos (year_of n)) month) 11 1 (in_year n).before

unfoldable pub month_of : ℕ → ℕ
month_of n = (in_month n).span

unfoldable pub day_of : ℕ → ℕ
day_of n = (in_month n).before + 1

-- The place of a day among spans: each span begins at the sum of those before it, and the day's number is the beginning of its span and the days before it there.
pub record IsPlaced (length start : ℕ → ℕ) (most first days : ℕ) (place : DayInSpan) : Type 0 where
  pub number : start place.span + place.before ≡ start first + days
  pub inside : place.before < length place.span
  pub from : first ≤ place.span
  pub to : place.span ≤ first + most

-- counting off places a day that does not lie after the last of the spans
pub counted_off-placed : (length start : ℕ → ℕ) (low : ℕ) → ((k : ℕ) → low ≤ k → start (k + 1) ≡ start k + length k)
    → (most first days : ℕ) → low ≤ first → start first + days < start (first + most + 1)
    → IsPlaced length start most first days (counted_off length most first days)
unfolding counted_off
counted_off-placed length start low step zero first days h below =
    let next : first + 0 + 1 ≡ first + 1 = omega arith in
    let below : start first + days < start (first + 1) = rw next at below in
    record { number = refl; inside = omega (arith, step first h); from = omega arith; to = omega arith }
counted_off-placed length start low step (suc most) first days h below =
    cond_both (nat_lt days (length first)) _ _ (IsPlaced length start (suc most) first days)
    (λ lt. record { number = refl; inside = ltb-true days (length first) lt; from = omega arith; to = omega arith })
    (λ ge.
    let rest = days - length first in
    let here : length first ≤ days = ltb-false days (length first) ge in
    let end : first + suc most + 1 ≡ first + 1 + most + 1 = omega arith in
    let below : start first + days < start (first + 1 + most + 1) = rw end at below in
    let later = counted_off-placed length start low step most (first + 1) rest (omega arith) (omega (arith, step first h)) in
    record { number = omega (arith, step first h, later.number); inside = later.inside; from = omega (arith, later.from); to = omega (arith, later.to) })

-- the days before the first year out of range
pub day_count-2200 : day_count (pos 2200) 1 1 ≡ 4_455_959
day_count-2200 = day_count-early (pos 2200) 12199 1 1 refl (omega arith) (omega arith) (omega arith)

-- a day's year holds it
in_year-placed : (n : ℕ) → n ≤ 84005
    → IsPlaced (λ year. days_in_year (pos year)) (λ year. day_count (pos year) 1 1) 229 1970 n (in_year n)
unfolding in_year
in_year-placed n h =
    counted_off-placed _ (λ year. day_count (pos year) 1 1) 1970
    (λ k low. day_count-next_year (pos k) (pos (k + 1)) (omega (arith, signed_arith)) refl)
    229 1970 n (omega arith) (omega (arith, day_count-epoch, day_count-2200))

-- a day's month in its year holds it
in_month-placed : (n : ℕ) → n ≤ 84005
    → IsPlaced (λ month. days_in_month (pos (year_of n)) month) (λ month. days_of_months (pos (year_of n)) (month - 1)) 11 1 (in_year n).before (in_month n)
unfolding in_month year_of
in_month-placed n h =
    let year = in_year-placed n h in
    counted_off-placed _ (λ month. days_of_months (pos (year_of n)) (month - 1)) 1
    (λ k low. let back : k + 1 - 1 ≡ k = omega arith in rw back (days_of_months_more (pos (year_of n)) k low))
    11 1 (in_year n).before (omega arith)
    (omega (arith, year.inside, days_of_months-zero (pos (year_of n)), days_of_months_all (pos (year_of n))))

-- a day's year, month and day name the date with its number
pub civil_day_of : (n : ℕ) → n ≤ 84005 → IsCivilDay (year_of n) (month_of n) (day_of n) n
unfolding year_of month_of day_of
civil_day_of n h =
    let year = in_year-placed n h in
    let month = in_month-placed n h in
    let y = pos (year_of n) in
    record {
      date = (omega (arith, signed_arith, year.from, year.to), (month.from, omega (arith, month.to)), (omega arith, omega (arith, month.inside)));
      number = omega (arith, signed_arith, days_from_civil-day_count y (month_of n) (day_of n), day_count-day_of_year y (month_of n) (day_of n) (omega arith), year.number, month.number, day_count-epoch, days_of_months-zero y);
    }

-- the date of a day's year, month and day is of the range
pub date_of_number : (n : ℕ) → n ≤ 84005 → IsDateOfRange (year_of n) (month_of n) (day_of n)
unfolding year_of
date_of_number n h =
    let year = in_year-placed n h in
    record { date = (civil_day_of n h).date; from = year.from; to = omega (arith, year.to) }
