-- Answers on the day of a date.
use Rattle.std.proofs.Common.{◌≡◌, ℕ, ◌≤◌, ◌∙◌, ap, refl, pos, to_z, of_z, w32, arith}
use Rattle.jiff_core.proofs.SignedLemmas.{back_small}
use Rattle.jiff_core.specs.Date.{epoch_day}
use Rattle.gb_base.specs.Calendar.{IsCivilDay}
use Rattle.gb_base.proofs.CivilDays.{number_of_parts}
use Rattle.gb_base.proofs.days.Day.from_civil.Goals as goal

-- the number that jiff gives is a day's
number : (c : goal.After-to_unix_epoch_day) → (n : ℕ) × (n ≤ 84005)
    × IsCivilDay c.args.year c.args.month c.args.day n × (to_z w32 (of_z w32 c.to_unix_epoch_day.result) ≡ pos n)
number c =
    let parts = number_of_parts c.in_ok-date.date c.args.year c.args.month c.args.day (c.in_ok-date.ensures.some.0 refl) c.in_ok-date.ensures.value in
    let few = parts.1 in
    let same : c.to_unix_epoch_day.result ≡ pos parts.0 = c.to_unix_epoch_day.ensures.value ∙ ap epoch_day c.to_plain.ensures ∙ parts.3 in
    (parts.0, parts.1, parts.2, rw same (back_small w32 (pos parts.0) (omega arith)))

pub overflow_cast-result : goal.overflow_cast-result
overflow_cast-result c = let n = number c in let few = n.1 in rw n.3 (tt, omega arith)

pub invariant_of-result : goal.invariant_of-result
invariant_of-result c = let n = number c in rw n.3 n.1

pub returns-clause-value : goal.returns-clause-value
returns-clause-value c = let n = number c in rw n.3 n.2
