use Rattle.std.proofs.Common.{◌≡◌, ◌∙◌, ◌+◌, ◌++◌, arith, refl, subst, sym}
use Rattle.registry_http.specs.RequestLists.{AreRequests}
use Rattle.connections.specs.Answering.{AnswersTurn}
use Rattle.connections.specs.Holding.{Holds, StandsForNone}
use Rattle.connections.specs.LinkOrder.{served_so, stage}
use Rattle.connections.specs.Serving.{TakesNone, TakesTurns}
use Rattle.connections.specs.Tools.{tools}
use Rattle.connections.specs.Turns.{held_after, turns}
use Rattle.connections.specs.declared.serving.Ended.TheVariants.{Finished}
use Rattle.connections.specs.inner.Rounds.{Meets}
use Rattle.connections.proofs.NoBook.{none_still, none_then}
use Rattle.connections.proofs.NoneTaken.{none_joined, none_taken}
use Rattle.connections.proofs.TakenTurns.{takes_none, takes_then}
use Rattle.connections.proofs.OrderedTurns.{order_end, order_none, order_on, order_out}
use Rattle.connections.proofs.KeptOpen.{link_keeps_open}
use Rattle.connections.proofs.LinkTurns.{went_none, went_on, went_out, went_to_end}
use Rattle.connections.proofs.clerks.Clerk.serve_link.Goals as goal

pub loop-replies-init : goal.loop-replies-init
loop-replies-init g c = record {
  few = omega arith;
  stands_open = c.requires;
  made = λ tells was. was;
  no_book = λ tells was none.
      none_still g.D.Disk.reads g.D.Disk.images g.D.Disk.moment g.D.Disk.since c.args.disk.now c.args.self.now (λ file since. g.met.D.Disk.only_now c.args.disk.now file tells since) was;
  same_clock = λ tells was none. refl;
  told = λ told. told;
  order = order_none g.L.Link.left g.L.Link.written g.L.Link.faults (AnswersTurn g.D.Disk.tells g.D.Disk.reads g.D.Disk.images g.D.Disk.faults g.C.Clock.ticks) (stage c.args.link.now (tools c.args.disk.now c.args.self.now c.args.clock.now)) c.new-rest.result.items c.new-rest.ensures.items;
  quiet = refl;
  went = λ tells held input requests end holds left are.
      went_none (TakesTurns g.D.Disk.reads g.D.Disk.images g.D.Disk.moment g.D.Disk.since g.D.Disk.faults) c.args.disk.now held (g.L.Link.written c.args.link.now) c.args.left requests end
      (λ h others. Meets (Holds c.args.self.now (g.D.Disk.reads c.args.disk.now) (g.D.Disk.images c.args.disk.now) (g.C.Clock.ticks c.args.clock.now)) (g.L.Link.left c.args.link.now) c.new-rest.result.items end h others)
      (takes_none g.D.Disk.reads g.D.Disk.images g.D.Disk.moment g.D.Disk.since g.D.Disk.faults c.args.disk.now held (λ file since. g.met.D.Disk.only_now c.args.disk.now file tells since))
      (record { holds = holds; input = input; left_is = left; are = subst (λ l. AreRequests (l ++ input) requests end) (sym c.new-rest.ensures.items) are });
  went_none = λ tells was none held input requests end left are.
      went_none (TakesNone g.D.Disk.faults) c.args.disk.now held (g.L.Link.written c.args.link.now) c.args.left requests end (λ h others. Meets (λ k. k ≡ held) (g.L.Link.left c.args.link.now) c.new-rest.result.items end h others)
      (none_taken g.D.Disk.faults c.args.disk.now held) (record { holds = refl; input = input; left_is = left; are = subst (λ l. AreRequests (l ++ input) requests end) (sym c.new-rest.ensures.items) are });
}

pub loop-replies-preserved : goal.loop-replies-preserved
loop-replies-preserved g c = record {
  few = omega (arith, c.loop-replies-test.true);
  stands_open = c.serve_next.ensures.stands_open;
  made = λ tells was. c.serve_next.ensures.made tells (c.loop-replies.invariant.made tells was);
  no_book = λ tells was none.
      none_then g.D.Disk.reads g.D.Disk.images g.D.Disk.moment g.D.Disk.since c.args.disk.now c.loop-replies.disk c.serve_next.new.disk c.loop-replies.self c.serve_next.new.self
      (λ t file le image. g.met.D.Disk.counts_now c.loop-replies.disk t file tells le image) none (c.loop-replies.invariant.no_book tells was none) (c.serve_next.ensures.no_book tells);
  same_clock = λ tells was none.
      let at = c.loop-replies.invariant.no_book tells was none in
      c.serve_next.ensures.same_clock tells at.none (subst StandsForNone (sym at.same) none) ∙ c.loop-replies.invariant.same_clock tells was none;
  told = λ told. c.serve_next.ensures.told (c.loop-replies.invariant.told told);
  order = order_on g.L.Link.left g.L.Link.written g.L.Link.faults (AnswersTurn g.D.Disk.tells g.D.Disk.reads g.D.Disk.images g.D.Disk.faults g.C.Clock.ticks)
      (stage c.args.link.now (tools c.args.disk.now c.args.self.now c.args.clock.now)) (stage c.loop-replies.link (tools c.loop-replies.disk c.loop-replies.self c.loop-replies.clock)) (stage c.serve_next.new.link (tools c.serve_next.new.disk c.serve_next.new.self c.serve_next.new.clock))
      c.loop-replies.rest.items c.serve_next.new.rest.items c.loop-replies.replies c.loop-replies.invariant.order c.in-None.ensures.order;
  quiet = c.in-None.ensures.cause.else_same refl ∙ c.loop-replies.invariant.quiet;
  went = λ tells held input requests end holds left are.
      let before = c.loop-replies.invariant.went tells held input requests end holds left are in
      went_on (TakesTurns g.D.Disk.reads g.D.Disk.images g.D.Disk.moment g.D.Disk.since g.D.Disk.faults) c.args.disk.now c.loop-replies.disk c.serve_next.new.disk held (g.L.Link.written c.args.link.now) (g.L.Link.written c.loop-replies.link)
      (g.L.Link.written c.serve_next.new.link) (turns c.args.left requests end) c.args.left c.loop-replies.replies end
      (λ h others. Meets (Holds c.loop-replies.self (g.D.Disk.reads c.loop-replies.disk) (g.D.Disk.images c.loop-replies.disk) (g.C.Clock.ticks c.loop-replies.clock)) (g.L.Link.left c.loop-replies.link) c.loop-replies.rest.items end h others)
      (λ h others. Meets (Holds c.serve_next.new.self (g.D.Disk.reads c.serve_next.new.disk) (g.D.Disk.images c.serve_next.new.disk) (g.C.Clock.ticks c.serve_next.new.clock)) (g.L.Link.left c.serve_next.new.link)
      c.serve_next.new.rest.items end h others)
      (λ done xs first second. takes_then g.D.Disk.reads g.D.Disk.images g.D.Disk.moment g.D.Disk.since g.D.Disk.faults c.args.disk.now c.loop-replies.disk c.serve_next.new.disk held done xs (λ t file le image. g.met.D.Disk.counts_now c.loop-replies.disk t file tells le image) first second) c.loop-replies-test.true before
      (c.in-None.ensures.turn tells (held_after held before.done) before.requests end before.meets);
  went_none = λ tells was none held input requests end left are.
      let before = c.loop-replies.invariant.went_none tells was none held input requests end left are in
      let at = c.loop-replies.invariant.no_book tells was none in
      went_on (TakesNone g.D.Disk.faults) c.args.disk.now c.loop-replies.disk c.serve_next.new.disk held (g.L.Link.written c.args.link.now) (g.L.Link.written c.loop-replies.link) (g.L.Link.written c.serve_next.new.link) (turns c.args.left requests end) c.args.left c.loop-replies.replies end
      (λ h others. Meets (λ k. k ≡ held) (g.L.Link.left c.loop-replies.link) c.loop-replies.rest.items end h others)
      (λ h others. Meets (λ k. k ≡ held) (g.L.Link.left c.serve_next.new.link) c.serve_next.new.rest.items end h others)
      (λ done xs first second. none_joined g.D.Disk.faults c.args.disk.now c.loop-replies.disk c.serve_next.new.disk held done xs first second) c.loop-replies-test.true before
      (c.in-None.ensures.none_turn tells at.none (subst StandsForNone (sym at.same) none) (held_after held before.done) held before.requests end before.meets);
}

pub returns-in-Some-clause-serves : goal.returns-in-Some-clause-serves
returns-in-Some-clause-serves g c = λ tells held input requests end holds left are.
    let before = c.loop-replies.invariant.went tells held input requests end holds left are in
    went_to_end (TakesTurns g.D.Disk.reads g.D.Disk.images g.D.Disk.moment g.D.Disk.since g.D.Disk.faults) c.args.disk.now c.loop-replies.disk c.serve_next.new.disk held (g.L.Link.written c.args.link.now) (g.L.Link.written c.loop-replies.link)
    (g.L.Link.written c.serve_next.new.link) (turns c.args.left requests end) c.args.left c.loop-replies.replies end
    (λ h others. Meets (Holds c.loop-replies.self (g.D.Disk.reads c.loop-replies.disk) (g.D.Disk.images c.loop-replies.disk) (g.C.Clock.ticks c.loop-replies.clock)) (g.L.Link.left c.loop-replies.link) c.loop-replies.rest.items end h others)
    (λ h. Holds c.serve_next.new.self (g.D.Disk.reads c.serve_next.new.disk) (g.D.Disk.images c.serve_next.new.disk) (g.C.Clock.ticks c.serve_next.new.clock) h)
    c.in-Some.last _ (λ done xs first second. takes_then g.D.Disk.reads g.D.Disk.images g.D.Disk.moment g.D.Disk.since g.D.Disk.faults c.args.disk.now c.loop-replies.disk c.serve_next.new.disk held done xs (λ t file le image. g.met.D.Disk.counts_now c.loop-replies.disk t file tells le image) first second) c.loop-replies-test.true before
    (c.in-Some.ensures.turn tells (held_after held before.done) before.requests end before.meets) refl refl

pub returns-clause-serves : goal.returns-clause-serves
returns-clause-serves g c = λ tells held input requests end holds left are.
    went_out (TakesTurns g.D.Disk.reads g.D.Disk.images g.D.Disk.moment g.D.Disk.since g.D.Disk.faults) c.args.disk.now c.loop-replies.disk held (g.L.Link.written c.args.link.now) (g.L.Link.written c.loop-replies.link) (turns c.args.left requests end)
    c.args.left c.loop-replies.replies end
    (λ h others. Meets (Holds c.loop-replies.self (g.D.Disk.reads c.loop-replies.disk) (g.D.Disk.images c.loop-replies.disk) (g.C.Clock.ticks c.loop-replies.clock)) (g.L.Link.left c.loop-replies.link) c.loop-replies.rest.items end h others)
    (λ h. Holds c.loop-replies.self (g.D.Disk.reads c.loop-replies.disk) (g.D.Disk.images c.loop-replies.disk) (g.C.Clock.ticks c.loop-replies.clock) h)
    _ (λ h. takes_none g.D.Disk.reads g.D.Disk.images g.D.Disk.moment g.D.Disk.since g.D.Disk.faults c.loop-replies.disk h (λ file since. g.met.D.Disk.only_now c.loop-replies.disk file tells since))
    (λ done xs first second. takes_then g.D.Disk.reads g.D.Disk.images g.D.Disk.moment g.D.Disk.since g.D.Disk.faults c.args.disk.now c.loop-replies.disk c.loop-replies.disk held done xs (λ t file le image. g.met.D.Disk.counts_now c.loop-replies.disk t file tells le image) first second)
    (omega (arith, c.loop-replies-test.false)) (λ h others meets. meets.holds) (c.loop-replies.invariant.went tells held input requests end holds left are) refl refl

pub returns-in-Some-clause-told : goal.returns-in-Some-clause-told
returns-in-Some-clause-told g c = λ told. c.serve_next.ensures.told (c.loop-replies.invariant.told told)

pub returns-clause-told : goal.returns-clause-told
returns-clause-told g c = λ told. c.loop-replies.invariant.told told

pub returns-in-Some-clause-no_book : goal.returns-in-Some-clause-no_book
returns-in-Some-clause-no_book g c = λ tells was none.
    none_then g.D.Disk.reads g.D.Disk.images g.D.Disk.moment g.D.Disk.since c.args.disk.now c.loop-replies.disk c.serve_next.new.disk c.loop-replies.self c.serve_next.new.self
    (λ t file le image. g.met.D.Disk.counts_now c.loop-replies.disk t file tells le image) none (c.loop-replies.invariant.no_book tells was none) (c.serve_next.ensures.no_book tells)

-- ---- where the file stands for no journal

pub returns-in-Some-clause-same_clock : goal.returns-in-Some-clause-same_clock
returns-in-Some-clause-same_clock g c = λ tells was none.
    let at = c.loop-replies.invariant.no_book tells was none in
    c.serve_next.ensures.same_clock tells at.none (subst StandsForNone (sym at.same) none) ∙ c.loop-replies.invariant.same_clock tells was none

pub returns-clause-same_clock : goal.returns-clause-same_clock
returns-clause-same_clock g c = λ tells was none. c.loop-replies.invariant.same_clock tells was none

pub returns-in-Some-clause-serves_none : goal.returns-in-Some-clause-serves_none
returns-in-Some-clause-serves_none g c = λ tells was none held input requests end left are.
    let before = c.loop-replies.invariant.went_none tells was none held input requests end left are in
    let at = c.loop-replies.invariant.no_book tells was none in
    went_to_end (TakesNone g.D.Disk.faults) c.args.disk.now c.loop-replies.disk c.serve_next.new.disk held (g.L.Link.written c.args.link.now) (g.L.Link.written c.loop-replies.link) (g.L.Link.written c.serve_next.new.link) (turns c.args.left requests end) c.args.left c.loop-replies.replies end
    (λ h others. Meets (λ k. k ≡ held) (g.L.Link.left c.loop-replies.link) c.loop-replies.rest.items end h others) (λ h. h ≡ held) c.in-Some.last _ (λ done xs first second. none_joined g.D.Disk.faults c.args.disk.now c.loop-replies.disk c.serve_next.new.disk held done xs first second) c.loop-replies-test.true before
    (c.in-Some.ensures.none_turn tells at.none (subst StandsForNone (sym at.same) none) (held_after held before.done) held before.requests end before.meets) refl refl

pub returns-clause-serves_none : goal.returns-clause-serves_none
returns-clause-serves_none g c = λ tells was none held input requests end left are.
    went_out (TakesNone g.D.Disk.faults) c.args.disk.now c.loop-replies.disk held (g.L.Link.written c.args.link.now) (g.L.Link.written c.loop-replies.link) (turns c.args.left requests end) c.args.left c.loop-replies.replies end
    (λ h others. Meets (λ k. k ≡ held) (g.L.Link.left c.loop-replies.link) c.loop-replies.rest.items end h others) (λ h. h ≡ held) _ (λ h. none_taken g.D.Disk.faults c.loop-replies.disk h) (λ done xs first second. none_joined g.D.Disk.faults c.args.disk.now c.loop-replies.disk c.loop-replies.disk held done xs first second)
    (omega (arith, c.loop-replies-test.false)) (λ h others meets. meets.holds) (c.loop-replies.invariant.went_none tells was none held input requests end left are) refl refl

-- ---- in which order the link was read and written, and that the book stays open

pub returns-in-Some-clause-order : goal.returns-in-Some-clause-order
returns-in-Some-clause-order g c =
    order_end g.L.Link.left g.L.Link.written g.L.Link.faults (AnswersTurn g.D.Disk.tells g.D.Disk.reads g.D.Disk.images g.D.Disk.faults g.C.Clock.ticks) c.args.left
    (stage c.args.link.now (tools c.args.disk.now c.args.self.now c.args.clock.now)) (stage c.loop-replies.link (tools c.loop-replies.disk c.loop-replies.self c.loop-replies.clock)) (stage c.serve_next.new.link (tools c.serve_next.new.disk c.serve_next.new.self c.serve_next.new.clock))
    c.loop-replies.rest.items c.loop-replies.replies c.in-Some.last _ c.loop-replies.invariant.order c.in-Some.ensures.order c.loop-replies-test.true refl

pub returns-clause-order : goal.returns-clause-order
returns-clause-order g c =
    order_out g.L.Link.left g.L.Link.written g.L.Link.faults (AnswersTurn g.D.Disk.tells g.D.Disk.reads g.D.Disk.images g.D.Disk.faults g.C.Clock.ticks) c.args.left
    (stage c.args.link.now (tools c.args.disk.now c.args.self.now c.args.clock.now)) (stage c.loop-replies.link (tools c.loop-replies.disk c.loop-replies.self c.loop-replies.clock))
    c.loop-replies.rest.items c.loop-replies.replies _ c.loop-replies.invariant.order (omega (arith, c.loop-replies.invariant.few, c.loop-replies-test.false)) refl

pub returns-in-Some-clause-kept_open : goal.returns-in-Some-clause-kept_open
returns-in-Some-clause-kept_open g c =
    link_keeps_open g.D.Disk.tells g.D.Disk.reads g.D.Disk.images g.D.Disk.faults g.C.Clock.ticks g.L.Link.left g.L.Link.written g.L.Link.faults c.args.left
    (stage c.args.link.now (tools c.args.disk.now c.args.self.now c.args.clock.now)) (stage c.serve_next.new.link (tools c.serve_next.new.disk c.serve_next.new.self c.serve_next.new.clock))
    (served_so (c.loop-replies.replies + c.in-Some.last.replies) c.in-Some.last.ended) (returns-in-Some-clause-order g c)

pub returns-clause-kept_open : goal.returns-clause-kept_open
returns-clause-kept_open g c =
    link_keeps_open g.D.Disk.tells g.D.Disk.reads g.D.Disk.images g.D.Disk.faults g.C.Clock.ticks g.L.Link.left g.L.Link.written g.L.Link.faults c.args.left
    (stage c.args.link.now (tools c.args.disk.now c.args.self.now c.args.clock.now)) (stage c.loop-replies.link (tools c.loop-replies.disk c.loop-replies.self c.loop-replies.clock))
    (served_so c.loop-replies.replies Finished) (returns-clause-order g c)
