-- What the turns leave in which a peer that waits again is read.
use Rattle.std.proofs.Common.{None, true}
use Rattle.grundbuch.specs.HeldPeers.{Hears}
use Rattle.grundbuch.proofs.waiting_room.WaitingRoom.is_next.Given as goal

abbrev pub invariant-loop : goal.invariant-loop
invariant-loop g l = Hears None None l.fn.peer.inbox l.peer.inbox true
