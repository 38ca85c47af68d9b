use Rattle.interim_orders.proofs.Room.{lapse_fits}
use Rattle.interim_orders.proofs.laws.room_for_lapse.Goals as goal

pub returns : goal.returns
returns c = lapse_fits
