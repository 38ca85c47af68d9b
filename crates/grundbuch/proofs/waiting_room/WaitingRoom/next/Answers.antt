-- A peer is handed out once it is opened.
use Rattle.grundbuch.proofs.Hearing.{opened_once}
use Rattle.grundbuch.proofs.waiting_room.WaitingRoom.next.Goals as goal

pub returns-then-is_ok : goal.returns-then-is_ok
returns-then-is_ok g c = opened_once _ _ c.open-in-Some.result c.if-is_ok.ensures.value c.open-in-Some.ensures.opened
