-- A peer that does not go on waiting is not read.
use Rattle.grundbuch.proofs.Hearing.{hears_not}
use Rattle.grundbuch.proofs.waiting_room.WaitingRoom.goes_on_waiting.Goals as goal

pub returns-then-is_err : goal.returns-then-is_err
returns-then-is_err g c = hears_not _ _ _

pub returns-then-not-has : goal.returns-then-not-has
returns-then-not-has g c = hears_not _ _ _
