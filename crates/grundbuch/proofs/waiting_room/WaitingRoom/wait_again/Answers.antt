-- A peer that does not wait is not read.
use Rattle.grundbuch.proofs.Hearing.{hears_not}
use Rattle.grundbuch.proofs.waiting_room.WaitingRoom.wait_again.Goals as goal

pub returns-then-is_err : goal.returns-then-is_err
returns-then-is_err g c = hears_not _ _ _

pub returns-then-lacks_place : goal.returns-then-lacks_place
returns-then-lacks_place g c = hears_not _ _ _
