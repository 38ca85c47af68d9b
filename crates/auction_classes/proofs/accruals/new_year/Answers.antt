-- The calendar's day is the only one of its date.
use Rattle.std.proofs.Common.{IfSome, subst}
use Rattle.gb_base.specs.Calendar.{IsCivilDay}
use Rattle.auction_classes.proofs.NewYears.{new_year_is}
use Rattle.auction_classes.proofs.accruals.new_year.Goals as goal

pub returns : goal.returns
returns c =
    new_year_is c.args.year c.unwrap-first.result c.is_a_day.ensures
    (subst (λ found. IfSome found (λ n. IsCivilDay c.args.year 1 1 n)) c.unwrap-first.ensures c.from_civil.ensures.value)
