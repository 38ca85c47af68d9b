use Rattle.peer_queues.proofs.NextPeers.{next_noted, next_without}
use Rattle.peer_queues.proofs.laws.next_stays_next.Goals as goal

pub returns-clause-noted : goal.returns-clause-noted
returns-clause-noted c = next_noted

pub returns-clause-gone : goal.returns-clause-gone
returns-clause-gone c = next_without
