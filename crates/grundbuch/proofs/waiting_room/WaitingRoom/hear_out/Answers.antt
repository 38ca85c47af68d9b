-- A peer that stays has lost nothing, and one that does not waits no longer.
use Rattle.grundbuch.proofs.Hearing.{hears_all, hears_gone}
use Rattle.grundbuch.proofs.PeerPlaces.{none_at}
use Rattle.grundbuch.proofs.waiting_room.WaitingRoom.hear_out.Goals as goal

pub returns-in-Some : goal.returns-in-Some
returns-in-Some g c = hears_all _ _ _ _ _ c.in-Some.ensures.heard

pub returns-in-None : goal.returns-in-None
returns-in-None g c = hears_gone _ _ _ (none_at _ _ _ c.forget.ensures) c.in-None.ensures.heard
