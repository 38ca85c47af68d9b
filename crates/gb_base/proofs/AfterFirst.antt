-- The date that lies as many days after the first day as the number of a day says.
use Rattle.std.proofs.Common.{◌≡◌, ℕ, ◌≤◌, ◌∙◌, ap, ℤ, pos, to_z, of_z, w64, arith}
use Rattle.jiff.specs.Words.{epoch_day, IsYmd, date_add, CanAddToDate}
use Rattle.jiff.proofs.SpanFacts.{signed_arith, date_add-days, can_add-days}
use Rattle.jiff_core.specs.Span.{IsOnly}
use Rattle.jiff_core.specs.declared.civil.date.Date.{Date}
use Rattle.jiff_core.specs.declared.span.Span.{Span}
use Rattle.jiff_core.specs.declared.unit.Unit.TheVariants.{Day}
use Rattle.jiff_core.proofs.CalendarLemmas.{day_count-epoch, days_from_civil-day_count}
use Rattle.jiff_core.proofs.SignedLemmas.{back_small}

-- the first day has the number 0
pub first_day : (d : Date) → IsYmd (pos 1970) (pos 1) (pos 1) d → epoch_day d ≡ pos 0
first_day d h =
    let month : d.month ≡ 1 = omega (arith, signed_arith, h.1) in
    let day : d.day ≡ 1 = omega (arith, signed_arith, h.2) in
    rw (h.0, month, day) (omega (arith, signed_arith, days_from_civil-day_count (pos 1970) 1 1, day_count-epoch))

-- a day's number stays what it is as a signed one
number : (n inside : ℕ) (r : ℤ) → inside ≡ n → n ≤ 84005 → r ≡ pos inside → to_z w64 (of_z w64 r) ≡ pos n
number n inside r same few is =
    let is : r ≡ pos n = is ∙ ap pos same in
    rw is (back_small w64 (pos n) (omega arith))

-- the date after that many days has that number
pub after_first : (first d : Date) (s : Span) (r : ℤ) (inside n : ℕ) → IsYmd (pos 1970) (pos 1) (pos 1) first → inside ≡ n → n ≤ 84005
    → r ≡ pos inside → IsOnly Day (to_z w64 (of_z w64 r)) s → epoch_day d ≡ date_add first s → epoch_day d ≡ pos n
after_first first d s r inside n h same few is only e =
    let days : IsOnly Day (pos n) s = rw (← number n inside r same few is) only in
    omega (arith, signed_arith, e, first_day first h, date_add-days first (pos n) s days)

-- the date after that many days can be reached
pub can_reach : (first : Date) (s : Span) (r : ℤ) (inside n : ℕ) → IsYmd (pos 1970) (pos 1) (pos 1) first → inside ≡ n → n ≤ 84005
    → r ≡ pos inside → IsOnly Day (to_z w64 (of_z w64 r)) s → CanAddToDate first s
can_reach first s r inside n h same few is only =
    let days : IsOnly Day (pos n) s = rw (← number n inside r same few is) only in
    (can_add-days first (pos n) s days).1 (omega (arith, signed_arith, first_day first h))
