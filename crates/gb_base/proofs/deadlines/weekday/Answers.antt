-- Answers on the day of the week.
use Rattle.std.proofs.Common.{◌∙◌}
use Rattle.gb_base.proofs.Weekdays.{weekday_of_date}
use Rattle.gb_base.proofs.deadlines.weekday.Goals as goal

pub returns : goal.returns
returns c =
    c.weekday.ensures ∙ weekday_of_date c.date.result _ _ _ c.args.day c.date.ensures.year c.date.ensures.month c.date.ensures.day c.date.ensures.civil
