-- Reading the ten bytes of a date finds the day whose text they are.
use Rattle.std.proofs.Common.{◌≡◌, ℕ, ◌+◌, ◌-◌, ◌*◌, ◌/◌, ◌%◌, ◌<◌, ◌≤◌, true, ◌&&◌, ◌==◌, List, [], ◌∷◌, ◌++◌, Option, Some, None, refl, sym, ap, ◌∙◌, ⊎_elim, arith, pos, codes, bytes_eq, if◌then◌else◌}
use Rattle.std.specs.List.{range_with_len}
use Rattle.std.proofs.lemmas.Bool.{cases_Bool, and_parts, and_from, le-leb}
use Rattle.std.proofs.lemmas.Bool.Decides.{Decides-eqb, nat_tests}
use Rattle.std.proofs.lemmas.Slice.Eq.{bytes_eq-Decides}
use Rattle.std.proofs.lemmas.Fmt.{decimal_digit}
use Rattle.jiff_core.specs.Calendar.{days_in_month}
use Rattle.jiff_core.proofs.CalendarLemmas.{days_in_month_bounds}
use Rattle.jiff_core.proofs.SignedLemmas.{signed_arith}
use Rattle.gb_base.specs.Limits.{is_between}
use Rattle.gb_base.specs.Calendar.{IsDateOfRange, IsCivilDay, date_of}
use Rattle.gb_base.specs.Optional.{◌>>=◌}
use Rattle.gb_base.specs.Texts.{two_digits, date_text, day_written}
use Rattle.gb_base.specs.inner.DateReading.{digits_read, day_numbered, day_of_digits, day_read}
use Rattle.gb_base.proofs.Members.{find_sound, find_complete, in_range, of_range}
use Rattle.gb_base.proofs.CivilDays.{date_in_range, date_numbered, only_date, number_of_date}

-- ---- two digits

two_digits_is : (n : ℕ) → n < 100 → two_digits n ≡ (48 + n / 10) ∷ (48 + n % 10) ∷ []
two_digits_is n h =
    rw (decimal_digit (n / 10) (omega arith), decimal_digit (n % 10) (omega arith)) refl

read_two : (n : ℕ) → n < 100 → digits_read (48 + n / 10) (48 + n % 10) ≡ Some n
read_two n h = grind (arith, nat_tests)

-- what the bytes of two digits are, where their number is read
pub record AreDigits (tens ones n : ℕ) : Type 0 where
  pub tens_low : 48 ≤ tens
  pub tens_high : tens ≤ 57
  pub ones_low : 48 ≤ ones
  pub ones_high : ones ≤ 57
  pub number : n ≡ 10 * (tens - 48) + (ones - 48)

two_digits_read : (tens ones n : ℕ) → digits_read tens ones ≡ Some n → AreDigits tens ones n
two_digits_read tens ones n e = grind (arith, nat_tests)

-- the text of the number of two digits is their bytes
two_text : (tens ones n : ℕ) → AreDigits tens ones n → two_digits n ≡ tens ∷ ones ∷ []
two_text tens ones n h =
    let low = h.tens_low in
    let high = h.tens_high in
    let low = h.ones_low in
    let high = h.ones_high in
    let is = h.number in
    let first : 48 + n / 10 ≡ tens = omega arith in
    let second : 48 + n % 10 ≡ ones = omega arith in
    rw (two_digits_is n (omega arith), first, second) refl

two_bound : (tens ones n : ℕ) → AreDigits tens ones n → n < 100
two_bound tens ones n h = omega (arith, h.tens_low, h.tens_high, h.ones_low, h.ones_high, h.number)

-- ---- dates by number

day_numbered_is : (year month day n : ℕ) → IsDateOfRange year month day → IsCivilDay year month day n → day_numbered year month day ≡ Some n
day_numbered_is year month day n h k =
    let years : is_between 1970 2199 year ≡ true = (let low = h.from in let high = h.to in grind (arith, nat_tests)) in
    let months : is_between 1 12 month ≡ true = (let low = h.date.1.0 in let high = h.date.1.1 in grind (arith, nat_tests)) in
    let days : is_between 1 (days_in_month (pos year) month) day ≡ true = and_from _ _ (le-leb 1 day h.date.2.0) (le-leb day _ h.date.2.1) in
    rw (years, months, days, k.number) refl

-- what holds where a date is numbered
pub record AreParts (year month day last m n : ℕ) : Type 0 where
  pub year_low : 1970 ≤ year
  pub year_high : year ≤ 2199
  pub month_low : 1 ≤ month
  pub month_high : month ≤ 12
  pub day_low : 1 ≤ day
  pub day_high : day ≤ last
  pub same : m ≡ n

numbered_parts : (year month day last m n : ℕ)
    → (if is_between 1970 2199 year && is_between 1 12 month && is_between 1 last day then Some m else None) ≡ Some n
    → AreParts year month day last m n
numbered_parts year month day last m n e = grind (arith, nat_tests)

-- what is numbered is a date of the range
numbered_date : (year month day n : ℕ) → day_numbered year month day ≡ Some n → IsDateOfRange year month day
numbered_date year month day n e =
    let h = numbered_parts year month day (days_in_month (pos year) month) _ n e in
    record {
      date = (omega (arith, signed_arith, h.year_low, h.year_high), (h.month_low, h.month_high), (h.day_low, h.day_high));
      from = h.year_low;
      to = h.year_high;
    }

-- a day has these year, month and day
pub record IsDayOf (year month day n : ℕ) : Type 0 where
  pub few : n ≤ 84005
  pub civil : IsCivilDay year month day n

-- where a date is numbered, the day of this number has its year, month and day
numbered_day : (year month day n : ℕ) → day_numbered year month day ≡ Some n → IsDayOf year month day n
numbered_day year month day n e =
    let range = numbered_date year month day n e in
    let (m, few, civil) = number_of_date year month day range in
    let found : Some m ≡ Some n = sym (day_numbered_is year month day m range civil) ∙ e in
    let same : m ≡ n = grind arith in
    rw (← same) (record { few = few; civil = civil })

-- ---- dates by their bytes

-- a value that is found in two steps is found by the first and then by the second
bound : {A B : Type 0} (o : Option A) (next : A → Option B) (y : B) → (o >>= next) ≡ Some y → (x : A) × (o ≡ Some x) × (next x ≡ Some y)
bound (Some x) next y e = (x, refl, e)
bound None next y e = absurd (grind arith)

-- a day has this text
pub record IsTextOf (text : List ℕ) (n : ℕ) : Type 0 where
  pub few : n ≤ 84005
  pub is : date_text n ≡ text

-- the text of a date, from the texts of its parts
text_of_parts : (century year month day n : ℕ) (c y m d : List ℕ) → IsDayOf (100 * century + year) month day n → year < 100
    → two_digits century ≡ c → two_digits year ≡ y → two_digits month ≡ m → two_digits day ≡ d
    → date_text n ≡ c ++ (y ++ (codes "-" ++ (m ++ (codes "-" ++ d))))
unfolding date_text
text_of_parts century year month day n c y m d h few century_is year_is month_is day_is =
    let only = only_date (100 * century + year) month day n h.civil h.few in
    let first : (100 * century + year) / 100 ≡ century = omega arith in
    let second : (100 * century + year) % 100 ≡ year = omega arith in
    rw (← only.0, ← only.1, ← only.2, first, second, century_is, year_is, month_is, day_is) refl

digits_sound : (y1 y2 y3 y4 m1 m2 d1 d2 n : ℕ) → day_of_digits (y1, y2) (y3, y4) (m1, m2) (d1, d2) ≡ Some n
    → IsTextOf (y1 ∷ y2 ∷ y3 ∷ y4 ∷ 45 ∷ m1 ∷ m2 ∷ 45 ∷ d1 ∷ d2 ∷ []) n
unfolding day_of_digits
digits_sound y1 y2 y3 y4 m1 m2 d1 d2 n e =
    let (century, c, e) = bound (digits_read y1 y2) _ n e in
    let (year, y, e) = bound (digits_read y3 y4) _ n e in
    let (month, m, e) = bound (digits_read m1 m2) _ n e in
    let (day, d, e) = bound (digits_read d1 d2) _ n e in
    let h = numbered_day (100 * century + year) month day n e in
    let year_digits = two_digits_read y3 y4 year y in
    record {
      few = h.few;
      is = text_of_parts century year month day n _ _ _ _ h (two_bound y3 y4 year year_digits)
          (two_text y1 y2 century (two_digits_read y1 y2 century c)) (two_text y3 y4 year year_digits)
          (two_text m1 m2 month (two_digits_read m1 m2 month m)) (two_text d1 d2 day (two_digits_read d1 d2 day d));
    }

none_read : (text : List ℕ) (n : ℕ) → None ≡ Some n → IsTextOf text n
none_read text n e = absurd (grind arith)

-- what is read is a day that has the text
sound : (text : List ℕ) (n : ℕ) → day_read text ≡ Some n → IsTextOf text n
sound [] n e = none_read _ n e
sound (a ∷ []) n e = none_read _ n e
sound (a ∷ b ∷ []) n e = none_read _ n e
sound (a ∷ b ∷ c ∷ []) n e = none_read _ n e
sound (a ∷ b ∷ c ∷ d ∷ []) n e = none_read _ n e
sound (a ∷ b ∷ c ∷ d ∷ f ∷ []) n e = none_read _ n e
sound (a ∷ b ∷ c ∷ d ∷ f ∷ g ∷ []) n e = none_read _ n e
sound (a ∷ b ∷ c ∷ d ∷ f ∷ g ∷ h ∷ []) n e = none_read _ n e
sound (a ∷ b ∷ c ∷ d ∷ f ∷ g ∷ h ∷ i ∷ []) n e = none_read _ n e
sound (a ∷ b ∷ c ∷ d ∷ f ∷ g ∷ h ∷ i ∷ j ∷ []) n e = none_read _ n e
sound (y1 ∷ y2 ∷ y3 ∷ y4 ∷ dash1 ∷ m1 ∷ m2 ∷ dash2 ∷ d1 ∷ d2 ∷ []) n e =
    ⊎_elim
    (λ yes.
    let both = and_parts (dash1 == 45) (dash2 == 45) yes in
    let first : dash1 ≡ 45 = (Decides-eqb dash1 45).0 both.0 in
    let second : dash2 ≡ 45 = (Decides-eqb dash2 45).0 both.1 in
    let e : day_of_digits (y1, y2) (y3, y4) (m1, m2) (d1, d2) ≡ Some n = rw yes at e in
    rw (first, second) (digits_sound y1 y2 y3 y4 m1 m2 d1 d2 n e))
    (λ no. let e : None ≡ Some n = rw no at e in none_read _ n e)
    (cases_Bool (dash1 == 45 && dash2 == 45))
sound (a ∷ b ∷ c ∷ d ∷ f ∷ g ∷ h ∷ i ∷ j ∷ k ∷ l ∷ rest) n e = none_read _ n e

-- a day's text is read as the day
complete : (n : ℕ) → n ≤ 84005 → day_read (date_text n) ≡ Some n
unfolding date_text day_of_digits
complete n few =
    let range = date_in_range n few in
    let y = (date_of n).year in
    let low = range.from in
    let high = range.to in
    let last = days_in_month_bounds (pos y) (date_of n).month in
    let century : y / 100 < 100 = omega arith in
    let year : y % 100 < 100 = omega arith in
    let month : (date_of n).month < 100 = omega (arith, range.date.1.1) in
    let day : (date_of n).day < 100 = omega (arith, range.date.2.1, last.0) in
    let whole : 100 * (y / 100) + y % 100 ≡ y = omega arith in
    rw (
      two_digits_is _ century,
      two_digits_is _ year,
      two_digits_is _ month,
      two_digits_is _ day,
      read_two _ century,
      read_two _ year,
      read_two _ month,
      read_two _ day,
      whole,
    )
    (day_numbered_is y (date_of n).month (date_of n).day n range (date_numbered n few))

-- ---- the day that has a text

-- what is read and what is found are one day
one_day : (text : List ℕ) (read found : Option ℕ) → day_read text ≡ read → day_written text ≡ found → read ≡ found
unfolding day_written
one_day text read (Some n) r f =
    let h = find_sound (λ day. bytes_eq (date_text day) text) (range_with_len 0 84006) n f in
    let few : n ≤ 84005 = omega (arith, of_range 0 84006 n h.0) in
    let is : date_text n ≡ text = (bytes_eq-Decides (date_text n) text).0 h.1 in
    sym r ∙ ap day_read (sym is) ∙ complete n few
one_day text None None r f = refl
one_day text (Some n) None r f =
    let h = sound text n r in
    let few = h.few in
    let some = find_complete (λ day. bytes_eq (date_text day) text) (range_with_len 0 84006) n (in_range 0 84006 n (omega arith) (omega arith)) ((bytes_eq-Decides (date_text n) text).1 h.is) in
    let never : None ≡ Some some.item = sym f ∙ some.is in
    absurd (grind arith)

pub read_is_written : (text : List ℕ) → day_read text ≡ day_written text
read_is_written text = one_day text (day_read text) (day_written text) refl refl

-- a day's text is that of no other day
pub text_once : (n : ℕ) → n ≤ 84005 → day_written (date_text n) ≡ Some n
text_once n few = sym (read_is_written (date_text n)) ∙ complete n few
