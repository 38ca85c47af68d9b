-- A peer that waits again, and then is next or not.
use Rattle.grundbuch.proofs.Hearing.{goes_on_then, not_next}
use Rattle.grundbuch.proofs.waiting_room.WaitingRoom.go_on.Goals as goal

pub returns-then-not-wait_again : goal.returns-then-not-wait_again
returns-then-not-wait_again g c = not_next _ _ _ c.if-not-wait_again.ensures

pub returns : goal.returns
returns g c = goes_on_then _ _ _ _ _ c.if-not-wait_again.ensures c.is_next.ensures
