use Rattle.entry_rules.proofs.Room.{room_for_all}
use Rattle.entry_rules.proofs.laws.room_for_entry.Goals as goal

pub returns-clause-room : goal.returns-clause-room
returns-clause-room c = room_for_all
