-- No stamp day is before the year 2000.
use Rattle.auction_classes.proofs.StampYears.{from_2000}
use Rattle.auction_classes.proofs.findings.stamp_year.Goals as goal

pub returns-clause-from : goal.returns-clause-from
returns-clause-from c = from_2000 _ _ _ _ c.year.ensures.date (c.day_of.ensures.stamp_day c.requires).0
