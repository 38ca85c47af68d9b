use Rattle.receipt_journal.proofs.Sizes.{has_room}
use Rattle.receipt_journal.proofs.laws.all_have_room.Goals as goal

pub returns : goal.returns
returns c = has_room
