use Rattle.std.proofs.Common.{◌≡◌, ◌∙◌, [], inl, inr, refl, subst}
use Rattle.gb_outside.specs.Doors.{NoneWaits}
use Rattle.intake.specs.Requests.{Held}
use Rattle.connections.specs.Holding.{Holds}
use Rattle.connections.specs.Serving.{ServesLink, TakesNone, TakesTurns}
use Rattle.connections.specs.Turns.{turns}
use Rattle.connections.specs.declared.doors.DoorEnd.TheVariants.{Done, DoorFault}
use Rattle.connections.proofs.NoBook.{none_still}
use Rattle.connections.proofs.NoneTaken.{none_taken}
use Rattle.connections.proofs.TakenTurns.{takes_none}
use Rattle.connections.proofs.DoorLinks.{links_one}
use Rattle.connections.proofs.DoorRounds.{round_of_link, round_of_none}
use Rattle.connections.proofs.clerks.Clerk.serve_first.Goals as goal

pub returns-in-Closed-clause-round : goal.returns-in-Closed-clause-round
returns-in-Closed-clause-round g c = λ tells held waiting asked holds waits ask.
    round_of_none (TakesTurns g.D.Disk.reads g.D.Disk.images g.D.Disk.moment g.D.Disk.since g.D.Disk.faults) c.args.disk.now held c.args.left waiting asked (g.L.Listener.waiting c.accept.new.self) (g.L.Listener.served c.args.door.now)
    (g.L.Listener.served c.accept.new.self) (λ h. Holds c.args.self.now (g.D.Disk.reads c.args.disk.now) (g.D.Disk.images c.args.disk.now) (g.C.Clock.ticks c.args.clock.now) h) Done
    (takes_none g.D.Disk.reads g.D.Disk.images g.D.Disk.moment g.D.Disk.since g.D.Disk.faults c.args.disk.now held (λ file since. g.met.D.Disk.only_now c.args.disk.now file tells since)) (c.in-Closed.ensures.links.1 ∙ waits) c.accept.ensures.served holds
    (λ is. let none : waiting ≡ [] = subst NoneWaits waits c.in-Closed.ensures.links.0 in none) (λ is. absurd cc)

pub returns-in-Failed-clause-round : goal.returns-in-Failed-clause-round
returns-in-Failed-clause-round g c = λ tells held waiting asked holds waits ask.
    round_of_none (TakesTurns g.D.Disk.reads g.D.Disk.images g.D.Disk.moment g.D.Disk.since g.D.Disk.faults) c.args.disk.now held c.args.left waiting asked (g.L.Listener.waiting c.accept.new.self) (g.L.Listener.served c.args.door.now)
    (g.L.Listener.served c.accept.new.self) (λ h. Holds c.args.self.now (g.D.Disk.reads c.args.disk.now) (g.D.Disk.images c.args.disk.now) (g.C.Clock.ticks c.args.clock.now) h) DoorFault
    (takes_none g.D.Disk.reads g.D.Disk.images g.D.Disk.moment g.D.Disk.since g.D.Disk.faults c.args.disk.now held (λ file since. g.met.D.Disk.only_now c.args.disk.now file tells since)) (c.in-Failed.ensures.links ∙ waits) c.accept.ensures.served holds (λ is. absurd cc) (λ is. absurd cc)

pub returns-clause-round : goal.returns-clause-round
returns-clause-round g c = λ tells held waiting asked holds waits ask.
    round_of_link (TakesTurns g.D.Disk.reads g.D.Disk.images g.D.Disk.moment g.D.Disk.since g.D.Disk.faults) c.args.disk.now c.serve_link-served.new.disk held c.args.left waiting asked (g.L.Listener.waiting c.done.new.self)
    (g.L.Listener.served c.args.door.now) (g.L.Listener.served c.done.new.self)
    (λ h. Holds c.serve_link-served.new.self (g.D.Disk.reads c.serve_link-served.new.disk) (g.D.Disk.images c.serve_link-served.new.disk) (g.C.Clock.ticks c.serve_link-served.new.clock) h) c.serve_link-served.result
    c.after.result
    (links_one (TakesTurns g.D.Disk.reads g.D.Disk.images g.D.Disk.moment g.D.Disk.since g.D.Disk.faults) c.args.disk.now c.serve_link-served.new.disk held c.args.left waiting asked (g.L.Listener.waiting c.args.door.now)
    (g.L.Listener.waiting c.accept.new.self) (g.L.Listener.waiting c.done.new.self) (g.L.Listener.served c.args.door.now) (g.L.Listener.served c.accept.new.self) (g.L.Listener.served c.done.new.self)
    (g.L.Link.Link.left c.in-Open.link) (g.L.Link.Link.written c.in-Open.link) (g.L.Link.Link.written c.serve_link-served.new.link) (g.L.Link.Link.faults c.in-Open.link)
    (g.L.Link.Link.faults c.serve_link-served.new.link)
    (λ h. Holds c.serve_link-served.new.self (g.D.Disk.reads c.serve_link-served.new.disk) (g.D.Disk.images c.serve_link-served.new.disk) (g.C.Clock.ticks c.serve_link-served.new.clock) h) c.serve_link-served.result
    c.requires.some_left c.serve_link-served.ensures.few ask waits c.in-Open.ensures.links.0 c.done.ensures.waiting c.accept.ensures.served c.in-Open.ensures.links.1 c.in-Open.ensures.links.2 c.serve_link-served.ensures.cause c.done.ensures.served
    (λ input requests end left are. c.serve_link-served.ensures.serves tells held input requests end holds left are))
    c.after.ensures

pub returns-in-Closed-clause-no_book : goal.returns-in-Closed-clause-no_book
returns-in-Closed-clause-no_book g c = λ tells was none.
    none_still g.D.Disk.reads g.D.Disk.images g.D.Disk.moment g.D.Disk.since c.args.disk.now c.args.self.now (λ file since. g.met.D.Disk.only_now c.args.disk.now file tells since) was

pub returns-in-Failed-clause-no_book : goal.returns-in-Failed-clause-no_book
returns-in-Failed-clause-no_book g c = λ tells was none.
    none_still g.D.Disk.reads g.D.Disk.images g.D.Disk.moment g.D.Disk.since c.args.disk.now c.args.self.now (λ file since. g.met.D.Disk.only_now c.args.disk.now file tells since) was

pub returns-in-Closed-clause-same_clock : goal.returns-in-Closed-clause-same_clock
returns-in-Closed-clause-same_clock g c = λ tells was none. refl

pub returns-in-Failed-clause-same_clock : goal.returns-in-Failed-clause-same_clock
returns-in-Failed-clause-same_clock g c = λ tells was none. refl

pub returns-clause-same_clock : goal.returns-clause-same_clock
returns-clause-same_clock g c = λ tells was none. c.serve_link-served.ensures.same_clock tells was none

-- ---- the links' replies where the file stands for no journal

pub returns-in-Closed-clause-none_round : goal.returns-in-Closed-clause-none_round
returns-in-Closed-clause-none_round g c = λ tells was none held all waiting asked same waits ask.
    round_of_none (TakesNone g.D.Disk.faults) c.args.disk.now held c.args.left waiting asked (g.L.Listener.waiting c.accept.new.self) (g.L.Listener.served c.args.door.now) (g.L.Listener.served c.accept.new.self) (λ h. h ≡ all) Done
    (none_taken g.D.Disk.faults c.args.disk.now held) (c.in-Closed.ensures.links.1 ∙ waits) c.accept.ensures.served same
    (λ is. let empty : waiting ≡ [] = subst NoneWaits waits c.in-Closed.ensures.links.0 in empty) (λ is. absurd cc)

pub returns-in-Failed-clause-none_round : goal.returns-in-Failed-clause-none_round
returns-in-Failed-clause-none_round g c = λ tells was none held all waiting asked same waits ask.
    round_of_none (TakesNone g.D.Disk.faults) c.args.disk.now held c.args.left waiting asked (g.L.Listener.waiting c.accept.new.self) (g.L.Listener.served c.args.door.now) (g.L.Listener.served c.accept.new.self) (λ h. h ≡ all) DoorFault
    (none_taken g.D.Disk.faults c.args.disk.now held) (c.in-Failed.ensures.links ∙ waits) c.accept.ensures.served same (λ is. absurd cc) (λ is. absurd cc)

pub returns-clause-none_round : goal.returns-clause-none_round
returns-clause-none_round g c = λ tells was none held all waiting asked same waits ask.
    round_of_link (TakesNone g.D.Disk.faults) c.args.disk.now c.serve_link-served.new.disk held c.args.left waiting asked (g.L.Listener.waiting c.done.new.self)
    (g.L.Listener.served c.args.door.now) (g.L.Listener.served c.done.new.self) (λ h. h ≡ all) c.serve_link-served.result c.after.result
    (links_one (TakesNone g.D.Disk.faults) c.args.disk.now c.serve_link-served.new.disk held c.args.left waiting asked (g.L.Listener.waiting c.args.door.now)
    (g.L.Listener.waiting c.accept.new.self) (g.L.Listener.waiting c.done.new.self) (g.L.Listener.served c.args.door.now) (g.L.Listener.served c.accept.new.self) (g.L.Listener.served c.done.new.self)
    (g.L.Link.Link.left c.in-Open.link) (g.L.Link.Link.written c.in-Open.link) (g.L.Link.Link.written c.serve_link-served.new.link) (g.L.Link.Link.faults c.in-Open.link)
    (g.L.Link.Link.faults c.serve_link-served.new.link) (λ h. h ≡ all) c.serve_link-served.result
    c.requires.some_left c.serve_link-served.ensures.few ask waits c.in-Open.ensures.links.0 c.done.ensures.waiting c.accept.ensures.served c.in-Open.ensures.links.1 c.in-Open.ensures.links.2 c.serve_link-served.ensures.cause c.done.ensures.served
    (λ input requests end left are.
    subst (λ (a : Held). ServesLink (TakesNone g.D.Disk.faults) c.args.disk.now c.serve_link-served.new.disk held (g.L.Link.Link.written c.in-Open.link) (g.L.Link.Link.written c.serve_link-served.new.link) (turns c.args.left requests end) c.serve_link-served.result (λ h. h ≡ a)) same
    (c.serve_link-served.ensures.serves_none tells was none held input requests end left are)))
    c.after.ensures

-- ---- in which order the link was served

pub returns-in-Closed-clause-order : goal.returns-in-Closed-clause-order
returns-in-Closed-clause-order g c = inr (Done, refl, record { none = c.in-Closed.ensures.links.0; still = c.in-Closed.ensures.links.1; unserved = c.accept.ensures.served; cause = c.in-Closed.ensures.cause; same = refl })

pub returns-in-Failed-clause-order : goal.returns-in-Failed-clause-order
returns-in-Failed-clause-order g c = inr (DoorFault, refl, record { none = tt; still = c.in-Failed.ensures.links; unserved = c.accept.ensures.served; cause = c.in-Failed.ensures.cause; same = refl })

pub returns-clause-order : goal.returns-clause-order
returns-clause-order g c = inl (
  c.serve_link-served.result,
  c.after.ensures,
  record {
    some_left = c.requires.some_left;
    came = c.accept.new.self;
    link = c.in-Open.link;
    accepted = c.in-Open.ensures.links;
    unserved = c.accept.ensures.served;
    back = c.serve_link-served.new.link;
    in_order = c.serve_link-served.ensures.order;
    returned = c.done.ensures.served;
    still = c.done.ensures.waiting;
    quiet = (c.in-Open.ensures.cause.else_same refl, c.done.ensures.cause);
  },
)
