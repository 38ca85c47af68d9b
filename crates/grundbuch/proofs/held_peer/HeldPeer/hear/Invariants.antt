-- What the reads so far have brought of a peer.
use Rattle.std.proofs.Common.{true}
use Rattle.grundbuch.specs.HeldPeers.{Hears}
use Rattle.grundbuch.proofs.held_peer.HeldPeer.hear.Given as goal

abbrev pub invariant-loop : goal.invariant-loop
invariant-loop g l = Hears (g.S.Read.remaining l.fn.self.stream) (g.S.Read.remaining l.self.stream) l.fn.self.inbox l.self.inbox true
