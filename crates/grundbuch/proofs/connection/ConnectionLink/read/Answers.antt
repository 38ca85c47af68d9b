-- What the office is given is the front of what is opened.
use Rattle.std.proofs.Common.{arith}
use Rattle.grundbuch.proofs.Hearing.{all_given}
use Rattle.grundbuch.proofs.connection.ConnectionLink.read.Goals as goal

pub returns-in-0-clause-given : goal.returns-in-0-clause-given
returns-in-0-clause-given g c = record {
  opened = c.go_on.new.self.taken.peer.inbox;
  next = c.go_on.ensures.goes_on;
  gives = all_given _ _ c.give.result _ (omega arith) (omega arith) c.give.ensures.count c.give.ensures.rest;
}

pub returns-in_default-clause-given : goal.returns-in_default-clause-given
returns-in_default-clause-given g c = record {
  opened = c.go_on.new.self.taken.peer.inbox;
  next = c.go_on.ensures.goes_on;
  gives = (c.give.ensures.count, c.give.ensures.given, c.give.ensures.rest);
}
