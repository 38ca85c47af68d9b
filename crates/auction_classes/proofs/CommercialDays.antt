-- How many days of interest lie between two days: the days may be any numbers, also beyond the range of dates.
use Rattle.std.proofs.Common.{◌≡◌, ◌⊎◌, ℕ, ◌+◌, ◌-◌, ◌*◌, ◌<◌, ◌≤◌, Bool, true, false, cond, nat_lt, max, min, ◌==◌, ◌&&◌, Some, None, find, inl, inr, pos, refl, sym, ap, subst, ◌∙◌, ⊎_elim, arith}
use Rattle.std.specs.List.{range_with_len}
use Rattle.std.specs.Option.{option_map_or}
use Rattle.std.proofs.lemmas.Bool.{and_parts, cases_lt, eqb-true}
use Rattle.std.proofs.lemmas.Bool.Decides.{Decides-int_eq, nat_tests}
use Rattle.jiff_core.specs.Calendar.{days_in_month}
use Rattle.jiff_core.proofs.CalendarLemmas.{day_count-lt_year, days_from_civil-day_count, days_in_month_bounds}
use Rattle.jiff_core.proofs.SignedLemmas.{signed_arith}
use Rattle.gb_base.specs.Calendar.{CivilDate, IsCivilDay, IsDateOfRange, date_of, date_or_zeros, dates_of_month, dates_of_range, dates_of_year, is_numbered}
use Rattle.gb_base.specs.Interest.{commercial_day, days360}
use Rattle.gb_base.specs.Limits.{last_day}
use Rattle.gb_base.proofs.CivilDays.{date_in_range, date_numbered, number_of_date, only_date}
use Rattle.gb_base.proofs.Members.{In, find_sound, of_flat_map, of_map, of_range}
use Rattle.auction_classes.specs.Interest.{new_year}
use Rattle.auction_classes.proofs.NewYears.{new_year_is}

-- ---- a number beyond the range is of no date

abbrev zeros : CivilDate
zeros = record { year = 0; month = 0; day = 0 }

-- what is in the list of dates is a date of the range
of_listed : (date : CivilDate) → In date dates_of_range → IsDateOfRange date.year date.month date.day
unfolding dates_of_range
of_listed date there =
    let years = of_flat_map dates_of_year (range_with_len 1970 230) date there in
    let months = of_flat_map (dates_of_month years.0) (range_with_len 1 12) date years.2 in
    let days = of_map (λ (day : ℕ). record { year = years.0; month = months.0; day = day }) (range_with_len 1 (days_in_month (pos years.0) months.0)) date months.2 in
    let year = of_range 1970 230 years.0 years.1 in
    let month = of_range 1 12 months.0 months.1 in
    let day = of_range 1 (days_in_month (pos years.0) months.0) days.0 days.1 in
    subst (λ (d : CivilDate). IsDateOfRange d.year d.month d.day) days.2
    (record {
      date = (omega (arith, signed_arith, year.0, year.1), (month.0, omega (arith, month.1)), (day.0, omega (arith, day.1)));
      from = year.0;
      to = omega (arith, year.1);
    })

-- a date of the range with this number
within : (n : ℕ) (date : CivilDate) → IsDateOfRange date.year date.month date.day → is_numbered n date ≡ true → n ≤ last_day
within n date is numbered =
    let (m, in_range, civil) = number_of_date date.year date.month date.day is in
    let both : pos n ≡ pos m = sym ((Decides-int_eq _ _).0 numbered) ∙ civil.number in
    let same : n ≡ m = cc in
    subst (λ k. k ≤ last_day) (sym same) in_range

-- a number is one of the range, or its date is zeros
pub date_kind : (n : ℕ) → (date_of n ≡ zeros) ⊎ (n ≤ last_day)
unfolding date_of
date_kind n =
    elim (find (is_numbered n) dates_of_range) as (λ o. find (is_numbered n) dates_of_range ≡ o → (date_or_zeros o ≡ zeros) ⊎ (n ≤ last_day)) [
      | None ↦ λ _. inl refl
      | Some date ↦ λ is. (let has = find_sound (is_numbered n) dates_of_range date is in inr (within n date (of_listed date has.0) has.1))
    ] refl

-- ---- the places of days in such years

-- the days of a year are between these
day_bounds : (year month day : ℕ) → IsDateOfRange year month day → (360 * year + 31 ≤ 360 * year + 30 * month + min day 30) × (360 * year + 30 * month + min day 30 ≤ 360 * year + 390)
day_bounds year month day is =
    let first = is.date.1.0 in
    let last = is.date.1.1 in
    let from = is.date.2.0 in (
      omega (arith, first, from),
      omega (arith, last),
    )

pub place_bounds : (n : ℕ) → n ≤ last_day → (360 * (date_of n).year + 31 ≤ commercial_day n) × (commercial_day n ≤ 360 * (date_of n).year + 390)
place_bounds n in_range = day_bounds (date_of n).year (date_of n).month (date_of n).day (date_in_range n in_range)

-- a later day is of no earlier year
pub years_rise : (a b : ℕ) → a ≤ b → b ≤ last_day → (date_of a).year ≤ (date_of b).year
years_rise a b le in_range =
    let first = date_numbered a (omega (arith, le, in_range)) in
    let second = date_numbered b in_range in
    numbers_rise (date_of a).year (date_of a).month (date_of a).day (date_of b).year (date_of b).month (date_of b).day a b first second le
  where
    numbers_rise : (y m d y₂ m₂ d₂ i j : ℕ) → IsCivilDay y m d i → IsCivilDay y₂ m₂ d₂ j → i ≤ j → y ≤ y₂
    numbers_rise y m d y₂ m₂ d₂ i j first second up = elim (cases_lt y₂ y) [
      | inl earlier ↦
          let less = day_count-lt_year (pos y₂) m₂ d₂ (pos y) m d second.date first.date.2.0 (omega (arith, signed_arith, earlier)) in
          let one = days_from_civil-day_count (pos y) m d in
          let two = days_from_civil-day_count (pos y₂) m₂ d₂ in
          absurd (omega (arith, signed_arith, less, one, two, first.number, second.number, up))
      | inr enough ↦ enough
    ]

-- ---- days of interest

-- days of interest are never more than from the first day of the range to the last
pub days_at_most : (a b : ℕ) → days360 a b ≤ 82830
days_at_most a b =
    elim (nat_lt b a) as (λ t. nat_lt b a ≡ t → cond t 0 (commercial_day b - commercial_day a) ≤ 82830) [
      | true ↦ λ _. omega arith
      | false ↦ λ up. ⊎_elim
          (λ none.
          let nothing : commercial_day b ≡ 0 = ap (λ (d : CivilDate). 360 * d.year + 30 * d.month + min d.day 30) none in
          omega (arith, nothing))
          (λ in_range.
          let le : a ≤ b = grind (arith, nat_tests, up) in
          let first : a ≤ last_day = omega (arith, le, in_range) in
          let low = (place_bounds a first).0 in
          let high = (place_bounds b in_range).1 in
          let from = (date_in_range a first).from in
          let to = (date_in_range b in_range).to in
          omega (arith, low, high, from, to))
          (date_kind b)
    ] refl

-- days of interest between two days whose years are at most two apart are no more than three years
pub days_of_years : (a b : ℕ) → (a ≤ b → b ≤ last_day → (date_of b).year ≤ (date_of a).year + 2) → days360 a b ≤ 1079
days_of_years a b years =
    elim (nat_lt b a) as (λ t. nat_lt b a ≡ t → cond t 0 (commercial_day b - commercial_day a) ≤ 1079) [
      | true ↦ λ _. omega arith
      | false ↦ λ up. ⊎_elim
          (λ none.
          let nothing : commercial_day b ≡ 0 = ap (λ (d : CivilDate). 360 * d.year + 30 * d.month + min d.day 30) none in
          omega (arith, nothing))
          (λ in_range.
          let le : a ≤ b = grind (arith, nat_tests, up) in
          let low = (place_bounds a (omega (arith, le, in_range))).0 in
          let high = (place_bounds b in_range).1 in
          let apart = years le in_range in
          omega (arith, low, high, apart))
          (date_kind b)
    ] refl

-- ---- arrears of a right's own class

-- 1 January of a year of the range is of that year
new_year_of : (year : ℕ) → 1970 ≤ year → year ≤ 2199 → (new_year year ≤ last_day) × ((date_of (new_year year)).year ≡ year)
new_year_of year from to =
    let first : 1 ≤ days_in_month (pos year) 1 = let few = (days_in_month_bounds (pos year) 1).1 in omega (arith, few) in
    let (n, in_range, civil) = number_of_date year 1 1 (record { date = (omega (arith, signed_arith, from, to), (omega arith, omega arith), (omega arith, first)); from = from; to = to }) in
    let same = new_year_is year n in_range civil in
    let date = only_date year 1 1 n civil in_range in
    (subst (λ k. k ≤ last_day) same in_range, ap (λ k. (date_of k).year) (sym same) ∙ sym date.0)

-- for a year before the range, day 0 stands for 1 January
no_new_year : (year : ℕ) → year < 1970 → new_year year ≡ 0
unfolding new_year
no_new_year year before =
    let test : ℕ → Bool = λ n. (date_of n).year == year && ((date_of n).month == 1 && (date_of n).day == 1) in
    elim (find test (range_with_len 0 (last_day + 1))) as (λ o. find test (range_with_len 0 (last_day + 1)) ≡ o → option_map_or (λ n. n) o 0 ≡ 0) [
      | None ↦ λ _. refl
      | Some n ↦ λ is.
          let has = find_sound test (range_with_len 0 (last_day + 1)) n is in
          let few = (of_range 0 (last_day + 1) n has.0).1 in
          let year_is : (date_of n).year ≡ year = eqb-true _ _ (and_parts _ _ has.1).0 in
          let from = (date_in_range n (omega (arith, few))).from in
          absurd (omega (arith, from, year_is, before))
    ] refl

-- two days between 1 January of the third year before a year and 1 January of the year before it are of years at most two apart
years_apart : (a b year : ℕ) → year ≤ 2199 → new_year (year - 3) ≤ a → b ≤ new_year (year - 1) → a ≤ b → b ≤ last_day → (date_of b).year ≤ (date_of a).year + 2
years_apart a b year most low high up in_range = elim (cases_lt year 1971) [
  | inl early ↦
      let none = no_new_year (year - 1) (omega (arith, early)) in
      let same : b ≡ a = omega (arith, none, high, up) in
      let years : (date_of b).year ≡ (date_of a).year = ap (λ k. (date_of k).year) same in
      omega (arith, years)
  | inr enough ↦
      let current = new_year_of (year - 1) (omega (arith, enough)) (omega (arith, most)) in
      let last = years_rise b (new_year (year - 1)) high current.0 in
      let end = current.1 in
      let in_range_too : a ≤ last_day = omega (arith, up, in_range) in
      elim (cases_lt year 1973) [
        | inl middle ↦ (let from = (date_in_range a in_range_too).from in omega (arith, last, end, from, middle))
        | inr late ↦
            let third = new_year_of (year - 3) (omega (arith, late)) (omega (arith, most)) in
            let first = years_rise (new_year (year - 3)) a low in_range_too in
            let begin = third.1 in
            omega (arith, last, end, first, begin, late)
      ]
]

pub arrears_days : (from until entered year : ℕ) → year ≤ 2199
    → days360 (max from (max (new_year (year - 3)) entered)) (min until (max (new_year (year - 1)) entered)) ≤ 1079
arrears_days from until entered year most =
    let third = new_year (year - 3) in
    let current = new_year (year - 1) in
    let a = max from (max third entered) in
    let b = min until (max current entered) in
    days_of_years a b (λ up in_range. elim (cases_lt current entered) [
      | inl later ↦
          let same : b ≡ a = omega (arith, later, up) in
          let years : (date_of b).year ≡ (date_of a).year = ap (λ k. (date_of k).year) same in
          omega (arith, years)
      | inr before ↦ years_apart a b year most (omega arith) (omega (arith, before)) up in_range
    ])

-- the year of a day is not beyond the range
pub year_at_most : (n : ℕ) → (date_of n).year ≤ 2199
year_at_most n =
    ⊎_elim (λ none. (let year : (date_of n).year ≡ 0 = ap (λ (d : CivilDate). d.year) none in omega (arith, year))) (λ in_range. (date_in_range n in_range).to) (date_kind n)
