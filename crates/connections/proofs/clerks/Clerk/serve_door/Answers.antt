use Rattle.std.proofs.Common.{◌≡◌, ◌∙◌, drop, inl, inr, length, arith, refl, subst, sym}
use Rattle.connections.specs.Answering.{AnswersTurn}
use Rattle.connections.specs.Doors.{turns_taken}
use Rattle.connections.specs.Holding.{Holds, StandsForNone}
use Rattle.connections.specs.LinkOrder.{stage}
use Rattle.connections.specs.Serving.{TakesNone, TakesTurns}
use Rattle.connections.specs.Tools.{tools}
use Rattle.connections.specs.Turns.{held_after}
use Rattle.connections.specs.declared.doors.DoorEnd.TheVariants.{Done}
use Rattle.connections.proofs.NoBook.{none_still, none_then}
use Rattle.connections.proofs.NoneTaken.{none_joined, none_taken}
use Rattle.connections.proofs.TakenTurns.{takes_none, takes_then}
use Rattle.connections.proofs.DoorOrders.{each_end, each_none, each_on, each_out}
use Rattle.connections.proofs.KeptOpen.{door_keeps_open}
use Rattle.connections.proofs.DoorRounds.{links_begun, links_end, links_on, links_out}
use Rattle.connections.proofs.LinksTaken.{zip_drop}
use Rattle.connections.proofs.clerks.Clerk.serve_door.Goals as goal

pub loop-left-init : goal.loop-left-init
loop-left-init g c = record {
  few = omega arith;
  stands_open = c.requires;
  made = λ tells was. was;
  no_book = λ tells was none.
      none_still g.D.Disk.reads g.D.Disk.images g.D.Disk.moment g.D.Disk.since c.args.disk.now c.args.self.now (λ file since. g.met.D.Disk.only_now c.args.disk.now file tells since) was;
  same_clock = λ tells was none. refl;
  order = each_none g.L.Listener.waiting g.L.Listener.served g.L.Listener.faults g.L.Link.Link.left g.L.Link.Link.written g.L.Link.Link.faults (AnswersTurn g.D.Disk.tells g.D.Disk.reads g.D.Disk.images g.D.Disk.faults g.C.Clock.ticks) c.args.most (stage c.args.door.now (tools c.args.disk.now c.args.self.now c.args.clock.now));
  handed_back = λ told. (told, refl);
  quiet = refl;
  went = λ tells held waiting asked holds waits ask.
      links_begun (TakesTurns g.D.Disk.reads g.D.Disk.images g.D.Disk.moment g.D.Disk.since g.D.Disk.faults) c.args.disk.now held c.args.most waiting asked (g.L.Listener.waiting c.args.door.now) (g.L.Listener.served c.args.door.now)
      (λ h. Holds c.args.self.now (g.D.Disk.reads c.args.disk.now) (g.D.Disk.images c.args.disk.now) (g.C.Clock.ticks c.args.clock.now) h)
      (takes_none g.D.Disk.reads g.D.Disk.images g.D.Disk.moment g.D.Disk.since g.D.Disk.faults c.args.disk.now held (λ file since. g.met.D.Disk.only_now c.args.disk.now file tells since)) waits holds;
  went_none = λ tells was none held waiting asked waits ask.
      links_begun (TakesNone g.D.Disk.faults) c.args.disk.now held c.args.most waiting asked (g.L.Listener.waiting c.args.door.now) (g.L.Listener.served c.args.door.now) (λ h. h ≡ held)
      (none_taken g.D.Disk.faults c.args.disk.now held) waits refl;
}

pub loop-left-preserved : goal.loop-left-preserved
loop-left-preserved g c = record {
  few = omega (arith, c.if-links-most.true);
  stands_open = c.serve_first.ensures.stands_open;
  made = λ tells was. c.serve_first.ensures.made tells (c.loop-left.invariant.made tells was);
  no_book = λ tells was none.
      none_then g.D.Disk.reads g.D.Disk.images g.D.Disk.moment g.D.Disk.since c.args.disk.now c.loop-left.disk c.serve_first.new.disk c.loop-left.self c.serve_first.new.self
      (λ t file le image. g.met.D.Disk.counts_now c.loop-left.disk t file tells le image) none (c.loop-left.invariant.no_book tells was none) (c.serve_first.ensures.no_book tells);
  same_clock = λ tells was none.
      let at = c.loop-left.invariant.no_book tells was none in
      c.serve_first.ensures.same_clock tells at.none (subst StandsForNone (sym at.same) none) ∙ c.loop-left.invariant.same_clock tells was none;
  order = each_on g.L.Listener.waiting g.L.Listener.served g.L.Listener.faults g.L.Link.Link.left g.L.Link.Link.written g.L.Link.Link.faults (AnswersTurn g.D.Disk.tells g.D.Disk.reads g.D.Disk.images g.D.Disk.faults g.C.Clock.ticks) c.args.most
      (stage c.args.door.now (tools c.args.disk.now c.args.self.now c.args.clock.now)) (stage c.loop-left.door (tools c.loop-left.disk c.loop-left.self c.loop-left.clock)) (stage c.serve_first.new.door (tools c.serve_first.new.disk c.serve_first.new.self c.serve_first.new.clock))
      c.loop-left.left c.loop-left.links c.loop-left.invariant.order c.serve_first.result c.serve_first.ensures.order c.in-Ok.replies c.in-Ok.is;
  handed_back = λ told. let before = c.loop-left.invariant.handed_back told in let now = c.serve_first.ensures.handed_back before.0 in (now.0, now.1 ∙ before.1);
  quiet = c.in-Ok.ensures.cause.else_same refl ∙ c.loop-left.invariant.quiet;
  went = λ tells held waiting asked holds waits ask.
      let before = c.loop-left.invariant.went tells held waiting asked holds waits ask in
      links_on (TakesTurns g.D.Disk.reads g.D.Disk.images g.D.Disk.moment g.D.Disk.since g.D.Disk.faults) c.args.disk.now c.loop-left.disk c.serve_first.new.disk held c.args.most waiting asked (g.L.Listener.waiting c.loop-left.door)
      (g.L.Listener.waiting c.serve_first.new.door) (g.L.Listener.served c.args.door.now) (g.L.Listener.served c.loop-left.door) (g.L.Listener.served c.serve_first.new.door)
      (λ h. Holds c.loop-left.self (g.D.Disk.reads c.loop-left.disk) (g.D.Disk.images c.loop-left.disk) (g.C.Clock.ticks c.loop-left.clock) h)
      (λ h. Holds c.serve_first.new.self (g.D.Disk.reads c.serve_first.new.disk) (g.D.Disk.images c.serve_first.new.disk) (g.C.Clock.ticks c.serve_first.new.clock) h) c.loop-left.left c.loop-left.links
      (λ done more first second. takes_then g.D.Disk.reads g.D.Disk.images g.D.Disk.moment g.D.Disk.since g.D.Disk.faults c.args.disk.now c.loop-left.disk c.serve_first.new.disk held done more (λ t file le image. g.met.D.Disk.counts_now c.loop-left.disk t file tells le image) first second) (omega (arith, c.if-links-most.true)) before c.serve_first.result
      (c.serve_first.ensures.round tells (held_after held (turns_taken before.links)) (drop (length before.links) waiting) (drop (length before.links) asked) before.serves.holds before.serves.waits
      (zip_drop (length before.links) waiting asked ask)) c.in-Ok.replies c.in-Ok.is;
  went_none = λ tells was none held waiting asked waits ask.
      let before = c.loop-left.invariant.went_none tells was none held waiting asked waits ask in
      let at = c.loop-left.invariant.no_book tells was none in
      links_on (TakesNone g.D.Disk.faults) c.args.disk.now c.loop-left.disk c.serve_first.new.disk held c.args.most waiting asked (g.L.Listener.waiting c.loop-left.door)
      (g.L.Listener.waiting c.serve_first.new.door) (g.L.Listener.served c.args.door.now) (g.L.Listener.served c.loop-left.door) (g.L.Listener.served c.serve_first.new.door) (λ h. h ≡ held) (λ h. h ≡ held) c.loop-left.left c.loop-left.links
      (λ done more first second. none_joined g.D.Disk.faults c.args.disk.now c.loop-left.disk c.serve_first.new.disk held done more first second) (omega (arith, c.if-links-most.true)) before c.serve_first.result
      (c.serve_first.ensures.none_round tells at.none (subst StandsForNone (sym at.same) none) (held_after held (turns_taken before.links)) held (drop (length before.links) waiting) (drop (length before.links) asked) before.serves.holds before.serves.waits
      (zip_drop (length before.links) waiting asked ask)) c.in-Ok.replies c.in-Ok.is;
}

pub returns-in-Err-clause-serves : goal.returns-in-Err-clause-serves
returns-in-Err-clause-serves g c = λ tells held waiting asked holds waits ask.
    let before = c.loop-left.invariant.went tells held waiting asked holds waits ask in
    links_end (TakesTurns g.D.Disk.reads g.D.Disk.images g.D.Disk.moment g.D.Disk.since g.D.Disk.faults) c.args.disk.now c.loop-left.disk c.serve_first.new.disk held c.args.most waiting asked (g.L.Listener.waiting c.loop-left.door)
    (g.L.Listener.waiting c.serve_first.new.door) (g.L.Listener.served c.args.door.now) (g.L.Listener.served c.loop-left.door) (g.L.Listener.served c.serve_first.new.door)
    (λ h. Holds c.loop-left.self (g.D.Disk.reads c.loop-left.disk) (g.D.Disk.images c.loop-left.disk) (g.C.Clock.ticks c.loop-left.clock) h)
    (λ h. Holds c.serve_first.new.self (g.D.Disk.reads c.serve_first.new.disk) (g.D.Disk.images c.serve_first.new.disk) (g.C.Clock.ticks c.serve_first.new.clock) h) c.loop-left.left c.loop-left.links
    (λ done more first second. takes_then g.D.Disk.reads g.D.Disk.images g.D.Disk.moment g.D.Disk.since g.D.Disk.faults c.args.disk.now c.loop-left.disk c.serve_first.new.disk held done more (λ t file le image. g.met.D.Disk.counts_now c.loop-left.disk t file tells le image) first second) (omega (arith, c.if-links-most.true)) before c.serve_first.result
    (c.serve_first.ensures.round tells (held_after held (turns_taken before.links)) (drop (length before.links) waiting) (drop (length before.links) asked) before.serves.holds before.serves.waits
    (zip_drop (length before.links) waiting asked ask)) c.in-Err.end c.in-Err.is

pub returns-else-links-most-clause-serves : goal.returns-else-links-most-clause-serves
returns-else-links-most-clause-serves g c = λ tells held waiting asked holds waits ask.
    links_out (TakesTurns g.D.Disk.reads g.D.Disk.images g.D.Disk.moment g.D.Disk.since g.D.Disk.faults) c.args.disk.now c.loop-left.disk held c.args.most waiting asked (g.L.Listener.waiting c.loop-left.door) (g.L.Listener.served c.args.door.now)
    (g.L.Listener.served c.loop-left.door) (λ h. Holds c.loop-left.self (g.D.Disk.reads c.loop-left.disk) (g.D.Disk.images c.loop-left.disk) (g.C.Clock.ticks c.loop-left.clock) h) c.loop-left.left c.loop-left.links
    c.loop-left.invariant.few (inr (omega (arith, c.if-links-most.false))) (c.loop-left.invariant.went tells held waiting asked holds waits ask)

pub returns-after-loop-left-clause-serves : goal.returns-after-loop-left-clause-serves
returns-after-loop-left-clause-serves g c = λ tells held waiting asked holds waits ask.
    links_out (TakesTurns g.D.Disk.reads g.D.Disk.images g.D.Disk.moment g.D.Disk.since g.D.Disk.faults) c.args.disk.now c.loop-left.disk held c.args.most waiting asked (g.L.Listener.waiting c.loop-left.door) (g.L.Listener.served c.args.door.now)
    (g.L.Listener.served c.loop-left.door) (λ h. Holds c.loop-left.self (g.D.Disk.reads c.loop-left.disk) (g.D.Disk.images c.loop-left.disk) (g.C.Clock.ticks c.loop-left.clock) h) c.loop-left.left c.loop-left.links
    c.loop-left.invariant.few (inl (omega (arith, c.loop-left-test.false))) (c.loop-left.invariant.went tells held waiting asked holds waits ask)

pub returns-in-Err-clause-no_book : goal.returns-in-Err-clause-no_book
returns-in-Err-clause-no_book g c = λ tells was none.
    none_then g.D.Disk.reads g.D.Disk.images g.D.Disk.moment g.D.Disk.since c.args.disk.now c.loop-left.disk c.serve_first.new.disk c.loop-left.self c.serve_first.new.self
    (λ t file le image. g.met.D.Disk.counts_now c.loop-left.disk t file tells le image) none (c.loop-left.invariant.no_book tells was none) (c.serve_first.ensures.no_book tells)

pub returns-in-Err-clause-same_clock : goal.returns-in-Err-clause-same_clock
returns-in-Err-clause-same_clock g c = λ tells was none.
    let at = c.loop-left.invariant.no_book tells was none in
    c.serve_first.ensures.same_clock tells at.none (subst StandsForNone (sym at.same) none) ∙ c.loop-left.invariant.same_clock tells was none

pub returns-else-links-most-clause-same_clock : goal.returns-else-links-most-clause-same_clock
returns-else-links-most-clause-same_clock g c = λ tells was none. c.loop-left.invariant.same_clock tells was none

pub returns-after-loop-left-clause-same_clock : goal.returns-after-loop-left-clause-same_clock
returns-after-loop-left-clause-same_clock g c = λ tells was none. c.loop-left.invariant.same_clock tells was none

-- ---- the links' replies where the file stands for no journal

pub returns-in-Err-clause-serves_none : goal.returns-in-Err-clause-serves_none
returns-in-Err-clause-serves_none g c = λ tells was none held waiting asked waits ask.
    let before = c.loop-left.invariant.went_none tells was none held waiting asked waits ask in
    let at = c.loop-left.invariant.no_book tells was none in
    links_end (TakesNone g.D.Disk.faults) c.args.disk.now c.loop-left.disk c.serve_first.new.disk held c.args.most waiting asked (g.L.Listener.waiting c.loop-left.door)
    (g.L.Listener.waiting c.serve_first.new.door) (g.L.Listener.served c.args.door.now) (g.L.Listener.served c.loop-left.door) (g.L.Listener.served c.serve_first.new.door) (λ h. h ≡ held) (λ h. h ≡ held) c.loop-left.left c.loop-left.links
    (λ done more first second. none_joined g.D.Disk.faults c.args.disk.now c.loop-left.disk c.serve_first.new.disk held done more first second) (omega (arith, c.if-links-most.true)) before c.serve_first.result
    (c.serve_first.ensures.none_round tells at.none (subst StandsForNone (sym at.same) none) (held_after held (turns_taken before.links)) held (drop (length before.links) waiting) (drop (length before.links) asked) before.serves.holds before.serves.waits
    (zip_drop (length before.links) waiting asked ask)) c.in-Err.end c.in-Err.is

pub returns-else-links-most-clause-serves_none : goal.returns-else-links-most-clause-serves_none
returns-else-links-most-clause-serves_none g c = λ tells was none held waiting asked waits ask.
    links_out (TakesNone g.D.Disk.faults) c.args.disk.now c.loop-left.disk held c.args.most waiting asked (g.L.Listener.waiting c.loop-left.door) (g.L.Listener.served c.args.door.now)
    (g.L.Listener.served c.loop-left.door) (λ h. h ≡ held) c.loop-left.left c.loop-left.links
    c.loop-left.invariant.few (inr (omega (arith, c.if-links-most.false))) (c.loop-left.invariant.went_none tells was none held waiting asked waits ask)

pub returns-after-loop-left-clause-serves_none : goal.returns-after-loop-left-clause-serves_none
returns-after-loop-left-clause-serves_none g c = λ tells was none held waiting asked waits ask.
    links_out (TakesNone g.D.Disk.faults) c.args.disk.now c.loop-left.disk held c.args.most waiting asked (g.L.Listener.waiting c.loop-left.door) (g.L.Listener.served c.args.door.now)
    (g.L.Listener.served c.loop-left.door) (λ h. h ≡ held) c.loop-left.left c.loop-left.links
    c.loop-left.invariant.few (inl (omega (arith, c.loop-left-test.false))) (c.loop-left.invariant.went_none tells was none held waiting asked waits ask)

-- ---- in which order the links were served, and that the book stays open

pub returns-in-Err-clause-order : goal.returns-in-Err-clause-order
returns-in-Err-clause-order g c =
    each_end g.L.Listener.waiting g.L.Listener.served g.L.Listener.faults g.L.Link.Link.left g.L.Link.Link.written g.L.Link.Link.faults (AnswersTurn g.D.Disk.tells g.D.Disk.reads g.D.Disk.images g.D.Disk.faults g.C.Clock.ticks) c.args.most
    (stage c.args.door.now (tools c.args.disk.now c.args.self.now c.args.clock.now)) (stage c.loop-left.door (tools c.loop-left.disk c.loop-left.self c.loop-left.clock)) (stage c.serve_first.new.door (tools c.serve_first.new.disk c.serve_first.new.self c.serve_first.new.clock))
    c.loop-left.left c.loop-left.links c.loop-left.invariant.order (omega (arith, c.if-links-most.true)) (omega (arith, c.loop-left-test.true)) c.serve_first.result c.serve_first.ensures.order c.in-Err.end c.in-Err.is

pub returns-else-links-most-clause-order : goal.returns-else-links-most-clause-order
returns-else-links-most-clause-order g c =
    each_out g.L.Listener.waiting g.L.Listener.served g.L.Listener.faults g.L.Link.Link.left g.L.Link.Link.written g.L.Link.Link.faults (AnswersTurn g.D.Disk.tells g.D.Disk.reads g.D.Disk.images g.D.Disk.faults g.C.Clock.ticks) c.args.most
    (stage c.args.door.now (tools c.args.disk.now c.args.self.now c.args.clock.now)) (stage c.loop-left.door (tools c.loop-left.disk c.loop-left.self c.loop-left.clock))
    c.loop-left.left c.loop-left.links c.loop-left.invariant.order c.loop-left.invariant.few (inr (omega (arith, c.if-links-most.false)))

pub returns-after-loop-left-clause-order : goal.returns-after-loop-left-clause-order
returns-after-loop-left-clause-order g c =
    each_out g.L.Listener.waiting g.L.Listener.served g.L.Listener.faults g.L.Link.Link.left g.L.Link.Link.written g.L.Link.Link.faults (AnswersTurn g.D.Disk.tells g.D.Disk.reads g.D.Disk.images g.D.Disk.faults g.C.Clock.ticks) c.args.most
    (stage c.args.door.now (tools c.args.disk.now c.args.self.now c.args.clock.now)) (stage c.loop-left.door (tools c.loop-left.disk c.loop-left.self c.loop-left.clock))
    c.loop-left.left c.loop-left.links c.loop-left.invariant.order c.loop-left.invariant.few (inl (omega (arith, c.loop-left-test.false)))

pub returns-in-Err-clause-kept_open : goal.returns-in-Err-clause-kept_open
returns-in-Err-clause-kept_open g c =
    door_keeps_open g.D.Disk.tells g.D.Disk.reads g.D.Disk.images g.D.Disk.faults g.C.Clock.ticks g.L.Link.Link.left g.L.Link.Link.written g.L.Link.Link.faults g.L.Listener.waiting g.L.Listener.served g.L.Listener.faults c.args.most
    (stage c.args.door.now (tools c.args.disk.now c.args.self.now c.args.clock.now)) (stage c.serve_first.new.door (tools c.serve_first.new.disk c.serve_first.new.self c.serve_first.new.clock)) c.in-Err.end (returns-in-Err-clause-order g c)

pub returns-else-links-most-clause-kept_open : goal.returns-else-links-most-clause-kept_open
returns-else-links-most-clause-kept_open g c =
    door_keeps_open g.D.Disk.tells g.D.Disk.reads g.D.Disk.images g.D.Disk.faults g.C.Clock.ticks g.L.Link.Link.left g.L.Link.Link.written g.L.Link.Link.faults g.L.Listener.waiting g.L.Listener.served g.L.Listener.faults c.args.most
    (stage c.args.door.now (tools c.args.disk.now c.args.self.now c.args.clock.now)) (stage c.loop-left.door (tools c.loop-left.disk c.loop-left.self c.loop-left.clock)) Done (returns-else-links-most-clause-order g c)

pub returns-after-loop-left-clause-kept_open : goal.returns-after-loop-left-clause-kept_open
returns-after-loop-left-clause-kept_open g c =
    door_keeps_open g.D.Disk.tells g.D.Disk.reads g.D.Disk.images g.D.Disk.faults g.C.Clock.ticks g.L.Link.Link.left g.L.Link.Link.written g.L.Link.Link.faults g.L.Listener.waiting g.L.Listener.served g.L.Listener.faults c.args.most
    (stage c.args.door.now (tools c.args.disk.now c.args.self.now c.args.clock.now)) (stage c.loop-left.door (tools c.loop-left.disk c.loop-left.self c.loop-left.clock)) Done (returns-after-loop-left-clause-order g c)
