use Rattle.interim_orders.proofs.Room.{notices_fit}
use Rattle.interim_orders.proofs.laws.room_for_notices.Goals as goal

pub returns : goal.returns
returns c = notices_fit
