-- Answers on the date of a day.
use Rattle.std.proofs.Common.{◌≤◌, arith}
use Rattle.std.proofs.lemmas.Bool.{false≢true}
use Rattle.gb_base.proofs.AfterFirst.{after_first, can_reach}
use Rattle.gb_base.proofs.CivilDays.{IsReadAs, readers_of_date, date_in_range, date_numbered}
use Rattle.gb_base.proofs.days.Day.date.Goals as goal

pub unreachable-requires : goal.unreachable-requires
unreachable-requires c =
    let few : c.args.self ≤ 84005 = search (arith, c.self.view_is, c.self.invariant) in
    absurd (false≢true (c.in-Err.ensures.succeeds.1 (can_reach c.date.result c.days.result c.from.result _ c.args.self c.date.ensures c.self.view_is few c.from.ensures c.days.ensures)))

few : (c : goal.In-Ok) → c.args.self ≤ 84005
few c = search (arith, c.self.view_is, c.self.invariant)

readers : (c : goal.In-Ok) → IsReadAs c.in-Ok.date c.args.self
readers c =
    readers_of_date c.in-Ok.date c.args.self (few c)
    (after_first c.date.result c.in-Ok.date c.days.result c.from.result _ c.args.self c.date.ensures c.self.view_is (few c) c.from.ensures c.days.ensures c.in-Ok.ensures.value)

pub returns-clause-year : goal.returns-clause-year
returns-clause-year c = (readers c).year

pub returns-clause-month : goal.returns-clause-month
returns-clause-month c = (readers c).month

pub returns-clause-day : goal.returns-clause-day
returns-clause-day c = (readers c).day

pub returns-clause-civil : goal.returns-clause-civil
returns-clause-civil c = date_numbered c.args.self (few c)

pub returns-clause-in_range : goal.returns-clause-in_range
returns-clause-in_range c = date_in_range c.args.self (few c)
