use Rattle.std.proofs.Common.{◌≡◌, ◌∙◌, [], ◌∷◌, Err, ap, refl, sym}
use Rattle.connections.specs.declared.serving.Ended.{Ended}
use Rattle.connections.specs.Holding.{Holds}
use Rattle.connections.specs.Replies.{bytes_of}
use Rattle.connections.specs.Serving.{TakesNone, TakesTurns}
use Rattle.connections.proofs.LinkEnds.{request_ends, request_goes_on}
use Rattle.connections.proofs.NoneTaken.{turn_none}
use Rattle.connections.proofs.TakenTurns.{turn_taken}
use Rattle.connections.proofs.OrderedTurns.{replies_last}
use Rattle.connections.proofs.ToldLinks.{still_told}
use Rattle.connections.proofs.clerks.Clerk.serve_request.Goals as goal

pub returns-in-Err-clause-turn : goal.returns-in-Err-clause-turn
returns-in-Err-clause-turn g c = λ tells held requests end holds.
    request_ends (TakesTurns g.D.Disk.reads g.D.Disk.images g.D.Disk.moment g.D.Disk.since g.D.Disk.faults) c.args.disk.now c.answer_request-reply.new.disk held (g.L.Link.written c.args.link.now) (g.L.Link.written c.send.new.link)
    c.args.request.now requests end c.answer_request-reply.result
    (λ h. Holds c.answer_request-reply.new.self (g.D.Disk.reads c.answer_request-reply.new.disk) (g.D.Disk.images c.answer_request-reply.new.disk) (g.C.Clock.ticks c.answer_request-reply.new.clock) h)
    (turn_taken g.D.Disk.reads g.D.Disk.images g.D.Disk.moment g.D.Disk.since g.D.Disk.faults c.args.disk.now c.answer_request-reply.new.disk c.args.request.now held c.answer_request-reply.result _
    (c.answer_request-reply.ensures.answers tells held holds) holds.file (c.answer_request-reply.ensures.no_journal tells) c.answer_request-reply.ensures.turn.disk)
    (record { replies = 0; ended = c.in-Err.ended }) (λ is. absurd (c.send.ensures.unfinished (c.in-Err.is ∙ ap (λ (e : Ended). Err e) is)))
    (record { whole = λ is. absurd (c.send.ensures.unfinished (c.in-Err.is ∙ ap (λ (e : Ended). Err e) is)); part = λ no. (c.in-Err.ensures.part, refl); nothing = λ is. c.send.ensures.nothing (c.in-Err.is ∙ ap (λ (e : Ended). Err e) is) })

pub returns-then-is_last-clause-turn : goal.returns-then-is_last-clause-turn
returns-then-is_last-clause-turn g c = λ tells held requests end holds.
    request_ends (TakesTurns g.D.Disk.reads g.D.Disk.images g.D.Disk.moment g.D.Disk.since g.D.Disk.faults) c.args.disk.now c.answer_request-reply.new.disk held (g.L.Link.written c.args.link.now) (g.L.Link.written c.send.new.link)
    c.args.request.now requests end c.answer_request-reply.result
    (λ h. Holds c.answer_request-reply.new.self (g.D.Disk.reads c.answer_request-reply.new.disk) (g.D.Disk.images c.answer_request-reply.new.disk) (g.C.Clock.ticks c.answer_request-reply.new.clock) h)
    (turn_taken g.D.Disk.reads g.D.Disk.images g.D.Disk.moment g.D.Disk.since g.D.Disk.faults c.args.disk.now c.answer_request-reply.new.disk c.args.request.now held c.answer_request-reply.result _
    (c.answer_request-reply.ensures.answers tells held holds) holds.file (c.answer_request-reply.ensures.no_journal tells) c.answer_request-reply.ensures.turn.disk)
    _ (λ is. sym c.is_last.ensures ∙ c.if-is_last.true)
    (record { whole = λ is. (c.in_default.ensures.whole, refl); part = λ no. absurd (no refl); nothing = λ is. absurd cc })

pub returns-clause-turn : goal.returns-clause-turn
returns-clause-turn g c = λ tells held requests end holds.
    request_goes_on (TakesTurns g.D.Disk.reads g.D.Disk.images g.D.Disk.moment g.D.Disk.since g.D.Disk.faults) c.args.disk.now c.answer_request-reply.new.disk held (g.L.Link.written c.args.link.now) (g.L.Link.written c.send.new.link)
    c.args.request.now requests end c.answer_request-reply.result
    (λ h. Holds c.answer_request-reply.new.self (g.D.Disk.reads c.answer_request-reply.new.disk) (g.D.Disk.images c.answer_request-reply.new.disk) (g.C.Clock.ticks c.answer_request-reply.new.clock) h)
    (turn_taken g.D.Disk.reads g.D.Disk.images g.D.Disk.moment g.D.Disk.since g.D.Disk.faults c.args.disk.now c.answer_request-reply.new.disk c.args.request.now held c.answer_request-reply.result _
    (c.answer_request-reply.ensures.answers tells held holds) holds.file (c.answer_request-reply.ensures.no_journal tells) c.answer_request-reply.ensures.turn.disk)
    (sym c.is_last.ensures ∙ c.if-is_last.false) c.in_default.ensures.whole

-- ---- where the file stands for no journal

pub returns-in-Err-clause-none_turn : goal.returns-in-Err-clause-none_turn
returns-in-Err-clause-none_turn g c = λ tells was none held all requests end same.
    request_ends (TakesNone g.D.Disk.faults) c.args.disk.now c.answer_request-reply.new.disk held (g.L.Link.written c.args.link.now) (g.L.Link.written c.send.new.link)
    c.args.request.now requests end c.answer_request-reply.result
    (λ h. h ≡ all)
    (turn_none g.D.Disk.faults c.args.disk.now c.answer_request-reply.new.disk held c.args.request.now c.answer_request-reply.result c.answer_request-reply.ensures.turn.disk all same
    (c.answer_request-reply.ensures.answers_none tells was none))
    (record { replies = 0; ended = c.in-Err.ended }) (λ is. absurd (c.send.ensures.unfinished (c.in-Err.is ∙ ap (λ (e : Ended). Err e) is)))
    (record { whole = λ is. absurd (c.send.ensures.unfinished (c.in-Err.is ∙ ap (λ (e : Ended). Err e) is)); part = λ no. (c.in-Err.ensures.part, refl); nothing = λ is. c.send.ensures.nothing (c.in-Err.is ∙ ap (λ (e : Ended). Err e) is) })

pub returns-then-is_last-clause-none_turn : goal.returns-then-is_last-clause-none_turn
returns-then-is_last-clause-none_turn g c = λ tells was none held all requests end same.
    request_ends (TakesNone g.D.Disk.faults) c.args.disk.now c.answer_request-reply.new.disk held (g.L.Link.written c.args.link.now) (g.L.Link.written c.send.new.link)
    c.args.request.now requests end c.answer_request-reply.result
    (λ h. h ≡ all)
    (turn_none g.D.Disk.faults c.args.disk.now c.answer_request-reply.new.disk held c.args.request.now c.answer_request-reply.result c.answer_request-reply.ensures.turn.disk all same
    (c.answer_request-reply.ensures.answers_none tells was none))
    _ (λ is. sym c.is_last.ensures ∙ c.if-is_last.true)
    (record { whole = λ is. (c.in_default.ensures.whole, refl); part = λ no. absurd (no refl); nothing = λ is. absurd cc })

pub returns-clause-none_turn : goal.returns-clause-none_turn
returns-clause-none_turn g c = λ tells was none held all requests end same.
    request_goes_on (TakesNone g.D.Disk.faults) c.args.disk.now c.answer_request-reply.new.disk held (g.L.Link.written c.args.link.now) (g.L.Link.written c.send.new.link)
    c.args.request.now requests end c.answer_request-reply.result
    (λ h. h ≡ all)
    (turn_none g.D.Disk.faults c.args.disk.now c.answer_request-reply.new.disk held c.args.request.now c.answer_request-reply.result c.answer_request-reply.ensures.turn.disk all same
    (c.answer_request-reply.ensures.answers_none tells was none))
    (sym c.is_last.ensures ∙ c.if-is_last.false) c.in_default.ensures.whole

-- ---- what the link tells

pub returns-in-Err-clause-told : goal.returns-in-Err-clause-told
returns-in-Err-clause-told g c = λ told. still_told (g.L.Link.written c.args.link.now) (g.L.Link.written c.send.new.link) c.in-Err.ensures.part.front c.in-Err.ensures.part.added told

pub returns-then-is_last-clause-told : goal.returns-then-is_last-clause-told
returns-then-is_last-clause-told g c = λ told. still_told (g.L.Link.written c.args.link.now) (g.L.Link.written c.send.new.link) (bytes_of (c.answer_request-reply.result ∷ [])) c.in_default.ensures.whole told

pub returns-clause-told : goal.returns-clause-told
returns-clause-told g c = λ told. still_told (g.L.Link.written c.args.link.now) (g.L.Link.written c.send.new.link) (bytes_of (c.answer_request-reply.result ∷ [])) c.in_default.ensures.whole told

-- ---- in which order the reply was written

pub returns-in-Err-clause-replied : goal.returns-in-Err-clause-replied
returns-in-Err-clause-replied g c = record {
  reply = c.answer_request-reply.result;
  answered = c.answer_request-reply.ensures.turn;
  replies = replies_last g.L.Link.left g.L.Link.written g.L.Link.faults c.answer_request-reply.result c.args.link.now c.send.new.link (record { replies = 0; ended = c.in-Err.ended })
      (record { whole = λ is. absurd (c.send.ensures.unfinished (c.in-Err.is ∙ ap (λ (e : Ended). Err e) is)); part = λ no. (c.in-Err.ensures.part, refl); nothing = λ is. c.send.ensures.nothing (c.in-Err.is ∙ ap (λ (e : Ended). Err e) is) })
      c.send.ensures.left c.in-Err.ensures.cause;
  was_last = λ is. absurd (c.send.ensures.unfinished (c.in-Err.is ∙ ap (λ (e : Ended). Err e) is));
}

pub returns-then-is_last-clause-replied : goal.returns-then-is_last-clause-replied
returns-then-is_last-clause-replied g c = record {
  reply = c.answer_request-reply.result;
  answered = c.answer_request-reply.ensures.turn;
  replies = record { unread = c.send.ensures.left; wrote = record { whole = λ is. (c.in_default.ensures.whole, refl); part = λ no. absurd (no refl); nothing = λ is. absurd cc }; failed = c.in_default.ensures.cause };
  was_last = λ is. sym c.is_last.ensures ∙ c.if-is_last.true;
}

pub returns-clause-replied : goal.returns-clause-replied
returns-clause-replied g c = (
  c.answer_request-reply.result,
  c.answer_request-reply.ensures.turn,
  record { more = sym c.is_last.ensures ∙ c.if-is_last.false; unread = c.send.ensures.left; replied = c.in_default.ensures.whole; quiet = c.in_default.ensures.cause.else_same refl },
)
