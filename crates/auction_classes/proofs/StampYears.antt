-- The years of stamp days.
use Rattle.std.proofs.Common.{ℕ, ◌≤◌, inl, inr, pos, refl, arith}
use Rattle.std.proofs.lemmas.Bool.{cases_lt}
use Rattle.jiff_core.proofs.CalendarLemmas.{day_count-lt_year, days_from_civil-day_count}
use Rattle.jiff_core.proofs.MarchLemmas.{day_count-early}
use Rattle.jiff_core.proofs.SignedLemmas.{signed_arith}
use Rattle.gb_base.specs.Calendar.{IsCivilDay}
use Rattle.gb_base.specs.Limits.{first_stamp_day}

-- no stamp day is before the year 2000
pub from_2000 : (year month day n : ℕ) → IsCivilDay year month day n → first_stamp_day ≤ n → 2000 ≤ year
from_2000 year month day n civil from = elim (cases_lt year 2000) [
  | inl earlier ↦
      let less = day_count-lt_year (pos year) month day (pos 2000) 1 1 civil.date (omega arith) (omega (arith, signed_arith)) in
      let first = day_count-early (pos 2000) 11999 1 1 refl (omega arith) (omega arith) (omega arith) in
      let number = days_from_civil-day_count (pos year) month day in
      absurd (omega (arith, signed_arith, less, first, number, civil.number))
  | inr enough ↦ enough
]
