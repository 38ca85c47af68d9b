use Rattle.std.proofs.Common.{Option, ap, subst, sym}
use Rattle.settled_book.specs.SettledBookState.{SettledBookState}
use Rattle.connections.proofs.Completed.{completes}
use Rattle.connections.specs.Answering.{AnswersTurn}
use Rattle.connections.specs.Holding.{Holds, working}
use Rattle.connections.specs.LinkOrder.{ServesInOrder, stage}
use Rattle.connections.specs.Serving.{TakesTurns}
use Rattle.connections.specs.Tools.{tools}
use Rattle.connections.specs.Turns.{turns}
use Rattle.registry_office.proofs.ServedDoors.{link_held}
use Rattle.registry_office.proofs.serving.serve_connection.Goals as goal

pub returns-clause-serves : goal.returns-clause-serves
returns-clause-serves g c = λ tells held input requests end is left asks.
    link_held (TakesTurns g.D.Disk.reads g.D.Disk.images g.D.Disk.moment g.D.Disk.since g.D.Disk.faults) c.args.disk.now c.serve_link.new.disk held (g.L.Link.written c.args.link.now) (g.L.Link.written c.serve_link.new.link) (turns c.args.left requests end) c.serve_link.result
    c.serve_link.new.self (g.D.Disk.reads c.serve_link.new.disk) (g.D.Disk.images c.serve_link.new.disk) (g.C.Clock.ticks c.serve_link.new.clock)
    (c.serve_link.ensures.serves tells held input requests end (subst (λ (h : Option SettledBookState). Holds h (g.D.Disk.reads c.args.disk.now) (g.D.Disk.images c.args.disk.now) (g.C.Clock.ticks c.args.clock.now) held) (sym c.new-clerk.ensures)
    (record { file = is.stands; clock = is.clock; book = tt })) left asks)

pub returns-clause-complete : goal.returns-clause-complete
returns-clause-complete g c = λ tells held input requests end is left asks quiet link_quiet.
    completes g.D.Disk.reads g.D.Disk.images g.D.Disk.moment g.D.Disk.since g.D.Disk.faults c.args.disk.now c.serve_link.new.disk held (g.L.Link.written c.args.link.now) (g.L.Link.written c.serve_link.new.link) c.args.left requests end c.serve_link.result _
    (g.L.Link.faults c.args.link.now) (g.L.Link.faults c.serve_link.new.link) (c.serve_link.ensures.serves tells held input requests end (subst (λ (h : Option SettledBookState). Holds h (g.D.Disk.reads c.args.disk.now) (g.D.Disk.images c.args.disk.now) (g.C.Clock.ticks c.args.clock.now) held) (sym c.new-clerk.ensures)
    (record { file = is.stands; clock = is.clock; book = tt })) left asks) c.serve_link.ensures.cause quiet link_quiet

pub returns-clause-kept : goal.returns-clause-kept
returns-clause-kept g c = λ tells stands_for_none.
    let none = c.serve_link.ensures.no_book tells (ap working c.new-clerk.ensures) stands_for_none in (none.same, none.left, c.serve_link.ensures.same_clock tells (ap working c.new-clerk.ensures) stands_for_none)

pub returns-clause-serves_none : goal.returns-clause-serves_none
returns-clause-serves_none g c = λ tells stands_for_none. c.serve_link.ensures.serves_none tells (ap working c.new-clerk.ensures) stands_for_none

pub returns-clause-made : goal.returns-clause-made
returns-clause-made g c = λ tells was. c.serve_link.ensures.made tells was

pub returns-clause-order : goal.returns-clause-order
returns-clause-order g c = (
  c.serve_link.new.self,
  subst (λ (h : Option SettledBookState). ServesInOrder g.L.Link.left g.L.Link.written g.L.Link.faults (AnswersTurn g.D.Disk.tells g.D.Disk.reads g.D.Disk.images g.D.Disk.faults g.C.Clock.ticks) c.args.left
      (stage c.args.link.now (tools c.args.disk.now h c.args.clock.now)) (stage c.serve_link.new.link (tools c.serve_link.new.disk c.serve_link.new.self c.serve_link.new.clock)) c.serve_link.result)
      c.new-clerk.ensures c.serve_link.ensures.order,
)
