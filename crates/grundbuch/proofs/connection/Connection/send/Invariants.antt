-- What the turns leave that are taken while a peer takes nothing.
use Rattle.std.proofs.Common.{◌≡◌}
use Rattle.grundbuch.proofs.connection.Connection.send.Given as goal

abbrev pub invariant-loop : goal.invariant-loop
invariant-loop g l = record {
  inbox : l.self.taken.peer.inbox ≡ l.fn.self.taken.peer.inbox;
  place : l.self.taken.place ≡ l.fn.self.taken.place;
  uncounted : l.self.faults ≡ l.fn.self.faults;
}
