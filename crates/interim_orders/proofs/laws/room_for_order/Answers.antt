use Rattle.std.proofs.Common.{None, Some}
use Rattle.interim_orders.specs.Orders.{deadline_of}
use Rattle.interim_orders.proofs.Room.{marks_fit}
use Rattle.interim_orders.proofs.laws.room_for_order.Goals as goal

pub returns-clause-order : goal.returns-clause-order
returns-clause-order c = λ journal m room roomy. marks_fit journal m m (Some (deadline_of journal m)) room roomy

pub returns-clause-end : goal.returns-clause-end
returns-clause-end c = λ journal m i room roomy. marks_fit journal m i None room roomy
