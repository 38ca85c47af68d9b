use Rattle.journal_disk.proofs.Standings.{standing_once, stands_once, bad_once}
use Rattle.journal_disk.proofs.Existence.{has_standing}
use Rattle.journal_disk.proofs.laws.one_standing.Goals as goal

pub returns-clause-some : goal.returns-clause-some
returns-clause-some c = has_standing

pub returns-clause-only_one : goal.returns-clause-only_one
returns-clause-only_one c = standing_once

pub returns-clause-frames : goal.returns-clause-frames
returns-clause-frames c = stands_once

pub returns-clause-ahead : goal.returns-clause-ahead
returns-clause-ahead c = bad_once
