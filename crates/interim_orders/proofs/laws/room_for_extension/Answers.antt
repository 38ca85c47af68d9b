use Rattle.interim_orders.proofs.Room.{extension_fits}
use Rattle.interim_orders.proofs.laws.room_for_extension.Goals as goal

pub returns : goal.returns
returns c = extension_fits
