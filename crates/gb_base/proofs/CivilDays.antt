-- Each day of the range has one date, and each date of the range one number.
use Rattle.std.proofs.Common.{◌≡◌, ℕ, ◌+◌, ◌-◌, ◌<◌, ◌≤◌, inl, inr, refl, sym, ◌∙◌, subst, arith, pos}
use Rattle.std.specs.List.{range_with_len}
use Rattle.std.proofs.lemmas.Bool.{cases_lt}
use Rattle.std.proofs.lemmas.Bool.Decides.{Decides-int_eq}
use Rattle.jiff_core.specs.Calendar.{days_from_civil, day_count, days_in_year, days_in_month}
use Rattle.jiff_core.proofs.CalendarLemmas.{day_count-epoch, day_count-later_year, day_count-day_of_year, days_from_civil-day_count, day_of_year_bound}
use Rattle.jiff_core.proofs.SignedLemmas.{signed_arith}
use Rattle.jiff_core.specs.declared.civil.date.Date.{Date}
use Rattle.jiff_core.specs.Date.{epoch_day}
use Rattle.jiff_core.proofs.DateLemmas.{epoch_day_injective}
use Rattle.gb_base.specs.Calendar.{IsDateOfRange, IsCivilDay, CivilDate, dates_of_month, dates_of_year, dates_of_range, is_numbered, date_of}
use Rattle.gb_base.proofs.CountedOff.{year_of, month_of, day_of, day_count-2200, civil_day_of, date_of_number}
use Rattle.gb_base.proofs.Members.{In, Found, find_complete, in_range, in_map, in_flat_map, of_range, of_map, of_flat_map}

-- a date of the range has a number of the range
pub number_of_date : (year month day : ℕ) → IsDateOfRange year month day → (n : ℕ) × (n ≤ 84005) × IsCivilDay year month day n
number_of_date year month day h =
    let y = pos year in
    let count = day_count y month day in
    let place = day_count-day_of_year y month day h.date.2.0 in
    let low : 4_371_953 ≤ day_count y 1 1 = elim (cases_lt 1970 year) [
      | inl later ↦ omega (arith, day_count-epoch, day_count-later_year (pos 1970) y (omega (arith, signed_arith)) (omega (arith, signed_arith)))
      | inr first ↦ let same : year ≡ 1970 = omega (arith, h.from) in rw same (omega (arith, day_count-epoch))
    ] in
    let end : day_count y 1 1 + days_in_year y ≤ 4_455_959 =
    omega (arith, day_count-2200, day_count-later_year y (pos 2200) (omega (arith, signed_arith)) (omega (arith, signed_arith, h.to))) in
    let high : count < 4_455_959 = omega (arith, day_of_year_bound y month day h.date) in
    let low : 4_371_953 ≤ count = omega arith in
    (count - 4_371_953, omega arith, record { date = h.date; number = omega (arith, signed_arith, days_from_civil-day_count y month day) })

-- a date of the calendar is known by its number
pub civil_day_unique : (year month day year₂ month₂ day₂ n : ℕ) → IsCivilDay year month day n → IsCivilDay year₂ month₂ day₂ n
    → (year ≡ year₂) × (month ≡ month₂) × (day ≡ day₂)
civil_day_unique year month day year₂ month₂ day₂ n h k =
    let a : Date = record { year = pos year; month = month; day = day; year_in = h.date.0; month_in = h.date.1; day_in = h.date.2 } in
    let b : Date = record { year = pos year₂; month = month₂; day = day₂; year_in = k.date.0; month_in = k.date.1; day_in = k.date.2 } in
    let same = epoch_day_injective a b (h.number ∙ sym k.number) in
    let years : pos year ≡ pos year₂ = same.0 in
    ((cc), same.1, same.2)

-- a date as a record
abbrev dated : ℕ → ℕ → ℕ → CivilDate
dated year month day = record { year = year; month = month; day = day }

-- a date of the range is in the list of its dates
listed : (year month day : ℕ) → IsDateOfRange year month day → In (dated year month day) dates_of_range
unfolding dates_of_range
listed year month day h =
    in_flat_map dates_of_year (range_with_len 1970 230) year (dated year month day) (in_range 1970 230 year h.from (omega (arith, h.to)))
    (in_flat_map (dates_of_month year) (range_with_len 1 12) month (dated year month day) (in_range 1 12 month h.date.1.0 (omega (arith, h.date.1.1)))
    (in_map (dated year month) (range_with_len 1 (days_in_month (pos year) month)) day (in_range 1 (days_in_month (pos year) month) day h.date.2.0 (omega (arith, h.date.2.1)))))

-- each date in the list is one of the range
of_listed : (date : CivilDate) → In date dates_of_range → IsDateOfRange date.year date.month date.day
unfolding dates_of_range
of_listed date there =
    let years = of_flat_map dates_of_year (range_with_len 1970 230) date there in
    let months = of_flat_map (dates_of_month years.0) (range_with_len 1 12) date years.2 in
    let days = of_map (dated years.0 months.0) (range_with_len 1 (days_in_month (pos years.0) months.0)) date months.2 in
    let year = of_range 1970 230 years.0 years.1 in
    let month = of_range 1 12 months.0 months.1 in
    let day = of_range 1 (days_in_month (pos years.0) months.0) days.0 days.1 in
    subst (λ d. IsDateOfRange d.year d.month d.day) days.2
    (record {
      date = (omega (arith, signed_arith, year.0, year.1), (month.0, omega (arith, month.1)), (day.0, omega (arith, day.1)));
      from = year.0;
      to = omega (arith, year.1);
    })

-- what the search for a day's number finds
found : (n : ℕ) → n ≤ 84005 → Found (is_numbered n) dates_of_range
found n h =
    find_complete (is_numbered n) dates_of_range (dated (year_of n) (month_of n) (day_of n))
    (listed (year_of n) (month_of n) (day_of n) (date_of_number n h))
    ((Decides-int_eq _ _).1 (civil_day_of n h).number)

-- a day's date is what is found
date_found : (n : ℕ) (h : n ≤ 84005) → date_of n ≡ (found n h).item
unfolding date_of
date_found n h = rw (found n h).is refl

-- a day's date is of the range
pub date_in_range : (n : ℕ) → n ≤ 84005 → IsDateOfRange (date_of n).year (date_of n).month (date_of n).day
date_in_range n h =
    subst (λ d. IsDateOfRange d.year d.month d.day) (sym (date_found n h)) (of_listed (found n h).item (found n h).there)

-- a day's date has the number of the day
pub date_numbered : (n : ℕ) → n ≤ 84005 → IsCivilDay (date_of n).year (date_of n).month (date_of n).day n
date_numbered n h =
    let f = found n h in
    subst (λ d. IsCivilDay d.year d.month d.day n) (sym (date_found n h))
    (record { date = (of_listed f.item f.there).date; number = (Decides-int_eq _ _).0 f.passes })

-- no other date has this number
pub only_date : (year month day n : ℕ) → IsCivilDay year month day n → n ≤ 84005
    → (year ≡ (date_of n).year) × (month ≡ (date_of n).month) × (day ≡ (date_of n).day)
only_date year month day n h k =
    civil_day_unique year month day (date_of n).year (date_of n).month (date_of n).day n h (date_numbered n k)

-- a date has the year, month and day of a day
pub record IsReadAs (d : Date) (n : ℕ) : Type 0 where
  pub year : d.year ≡ pos (date_of n).year
  pub month : d.month ≡ (date_of n).month
  pub day : d.day ≡ (date_of n).day

-- the date with a day's number has its year, month and day
pub readers_of_date : (d : Date) (n : ℕ) → n ≤ 84005 → epoch_day d ≡ pos n → IsReadAs d n
readers_of_date d n h e =
    let k = date_numbered n h in
    let read : Date = record { year = pos (date_of n).year; month = (date_of n).month; day = (date_of n).day; year_in = k.date.0; month_in = k.date.1; day_in = k.date.2 } in
    let same = epoch_day_injective d read (e ∙ sym k.number) in
    record { year = same.0; month = same.1; day = same.2 }

-- a date with the year, month and day of one in range has a number of the range
pub number_of_parts : (d : Date) (year month day : ℕ) → IsDateOfRange year month day
    → (d.year ≡ pos year) × (d.month ≡ month) × (d.day ≡ day)
    → (n : ℕ) × (n ≤ 84005) × IsCivilDay year month day n × (epoch_day d ≡ pos n)
number_of_parts d year month day h same =
    let (n, in_range, civil) = number_of_date year month day h in
    let here : epoch_day d ≡ days_from_civil (pos year) month day = rw (same.0, same.1, same.2) in
    (n, in_range, civil, here ∙ civil.number)
