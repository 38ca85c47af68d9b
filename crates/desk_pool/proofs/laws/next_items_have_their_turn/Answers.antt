use Rattle.desk_pool.proofs.TurnsAtKeys.{settled_before}
use Rattle.desk_pool.proofs.laws.next_items_have_their_turn.Goals as goal

pub returns : goal.returns
returns c = record { settled = settled_before }
