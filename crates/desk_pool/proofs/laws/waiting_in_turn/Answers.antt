use Rattle.desk_pool.proofs.WaitingInTurn.{permitted_waits, waiting_permits}
use Rattle.desk_pool.proofs.laws.waiting_in_turn.Goals as goal

pub returns : goal.returns
returns c = record { just = λ journal order. (permitted_waits journal order, waiting_permits journal order) }
