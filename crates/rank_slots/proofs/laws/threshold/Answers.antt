use Rattle.rank_slots.proofs.EmptySums.{alone_next}
use Rattle.rank_slots.proofs.GroupCents.{nothing, one_next}
use Rattle.rank_slots.proofs.laws.threshold.Goals as goal

pub returns-clause-nothing : goal.returns-clause-nothing
returns-clause-nothing c = nothing

pub returns-clause-alone : goal.returns-clause-alone
returns-clause-alone c = alone_next

pub returns-clause-group : goal.returns-clause-group
returns-clause-group c = one_next
