use Rattle.receipt_journal.proofs.Standings.{has_standing, standing_once, journal_once}
use Rattle.receipt_journal.proofs.laws.one_standing.Goals as goal

pub returns-clause-some : goal.returns-clause-some
returns-clause-some c = has_standing

pub returns-clause-only_one : goal.returns-clause-only_one
returns-clause-only_one c = standing_once

pub returns-clause-journal : goal.returns-clause-journal
returns-clause-journal c = journal_once
