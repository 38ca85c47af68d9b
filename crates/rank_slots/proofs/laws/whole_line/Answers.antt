use Rattle.rank_slots.proofs.WholeLine.{line_length, whole_claim}
use Rattle.rank_slots.proofs.laws.whole_line.Goals as goal

pub returns-clause-length : goal.returns-clause-length
returns-clause-length c = line_length

pub returns-clause-paid : goal.returns-clause-paid
returns-clause-paid c = whole_claim
