use Rattle.std.proofs.Common.{◌∷◌, [], sym, subst, OnOk, OnErr}
use Rattle.std.proofs.lemmas.Result.{MatchResult-from_err}
use Rattle.intake.specs.Answered.{Answered}
use Rattle.intake.specs.EarlyEnds.{EndsEarly}
use Rattle.intake.specs.Grown.{DiskGrows}
use Rattle.intake.specs.Requests.{held_after}
use Rattle.intake_requests.specs.declared.requests.Request.{Request}
use Rattle.intake.proofs.OneRequest.{answered_nothing, answered_refused, early_refused}
use Rattle.intake.proofs.Replies.{grows, disk_same}
use Rattle.intake.proofs.answering.answer_request.Goals as goal

pub returns-in-Nothing-clause-answered : goal.returns-in-Nothing-clause-answered
returns-in-Nothing-clause-answered g c = λ held is. answered_nothing _ held _ _ c.args.request.now c.in-Nothing.is is

pub returns-in-Nothing-clause-grows : goal.returns-in-Nothing-clause-grows
returns-in-Nothing-clause-grows g c = λ held is.
    disk_same g.J.Receiver.reads g.J.Receiver.moment g.J.Receiver.since c.args.receiver.now _ (g.J.Receiver.images c.args.receiver.now) held _ (grows g.J.Receiver.medium held (c.args.request.now ∷ [])) (g.met.J.Receiver.shows c.args.receiver.now held c.requires.ready is)

pub returns-in_err-write_all-in-Refused-clause-broken : goal.returns-in_err-write_all-in-Refused-clause-broken
returns-in_err-write_all-in-Refused-clause-broken g c = λ held is.
    MatchResult-from_err c.from_residual.result _ _ c.from_residual.ensures.0
    (λ _. early_refused _ held _ _ _ _ _ c.args.request.now c.in-Refused.reply c.in-Refused.is (rw c.text.ensures at c.in_err-write_all-in-Refused.ensures.part)
    (g.met.J.Receiver.shows c.args.receiver.now held c.requires.ready is))

pub returns-in_err-write_all-in-Refused-clause-grows : goal.returns-in_err-write_all-in-Refused-clause-grows
returns-in_err-write_all-in-Refused-clause-grows g c = λ held is.
    disk_same g.J.Receiver.reads g.J.Receiver.moment g.J.Receiver.since c.args.receiver.now _ (g.J.Receiver.images c.args.receiver.now) held _ (grows g.J.Receiver.medium held (c.args.request.now ∷ [])) (g.met.J.Receiver.shows c.args.receiver.now held c.requires.ready is)

pub returns-in_ok-write_all-in-Refused-clause-answered : goal.returns-in_ok-write_all-in-Refused-clause-answered
returns-in_ok-write_all-in-Refused-clause-answered g c = λ held is.
    answered_refused _ held _ _ _ c.args.request.now c.in-Refused.reply c.in-Refused.is is (rw c.text.ensures at c.in_ok-write_all-in-Refused.ensures.whole)

pub returns-in_ok-write_all-in-Refused-clause-grows : goal.returns-in_ok-write_all-in-Refused-clause-grows
returns-in_ok-write_all-in-Refused-clause-grows g c = λ held is.
    disk_same g.J.Receiver.reads g.J.Receiver.moment g.J.Receiver.since c.args.receiver.now _ (g.J.Receiver.images c.args.receiver.now) held _ (grows g.J.Receiver.medium held (c.args.request.now ∷ [])) (g.met.J.Receiver.shows c.args.receiver.now held c.requires.ready is)

pub returns-in-Receive-clause-answered : goal.returns-in-Receive-clause-answered
returns-in-Receive-clause-answered g c = λ held is.
    subst (λ (r : Request). OnOk c.answer_item.result (Answered g.J.Receiver.medium held (g.J.Receiver.holds c.answer_item.new.receiver) (g.K.Sink.written c.args.sink.now) (g.K.Sink.written c.answer_item.new.sink) (r ∷ []))) (sym c.in-Receive.is) (c.answer_item.ensures.answered held is)

pub returns-in-Receive-clause-broken : goal.returns-in-Receive-clause-broken
returns-in-Receive-clause-broken g c = λ held is.
    subst (λ (r : Request). OnErr c.answer_item.result (EndsEarly g.J.Receiver.medium held (g.J.Receiver.ticks c.answer_item.new.receiver) (g.K.Sink.written c.args.sink.now) (g.K.Sink.written c.answer_item.new.sink) (g.J.Receiver.images c.answer_item.new.receiver) (r ∷ []))) (sym c.in-Receive.is) (c.answer_item.ensures.broken held is)

pub returns-in-Receive-clause-grows : goal.returns-in-Receive-clause-grows
returns-in-Receive-clause-grows g c = λ held is.
    subst (λ (r : Request). DiskGrows g.J.Receiver.reads g.J.Receiver.moment g.J.Receiver.since c.args.receiver.now c.answer_item.new.receiver held.journal (held_after g.J.Receiver.medium held (r ∷ [])).journal) (sym c.in-Receive.is) (c.answer_item.ensures.grows held is)
