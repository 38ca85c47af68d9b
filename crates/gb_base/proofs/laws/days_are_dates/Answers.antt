-- Answers of the law on days and dates.
use Rattle.gb_base.proofs.CivilDays.{date_in_range, date_numbered, number_of_date, only_date}
use Rattle.gb_base.proofs.laws.days_are_dates.Goals as goal

pub returns-clause-in_range : goal.returns-clause-in_range
returns-clause-in_range c = date_in_range

pub returns-clause-date : goal.returns-clause-date
returns-clause-date c = date_numbered

pub returns-clause-number : goal.returns-clause-number
returns-clause-number c = number_of_date

pub returns-clause-no_other : goal.returns-clause-no_other
returns-clause-no_other c = only_date
