use Rattle.std.proofs.Common.{◌∷◌, [], ap, ◌∙◌}
use Rattle.std.proofs.lemmas.Result.{MatchResult-from_err}
use Rattle.intake.specs.Lines.{request_of_line}
use Rattle.intake_requests.specs.Asking.{asks_clock}
use Rattle.intake.proofs.LineRequests.{asks_none}
use Rattle.intake.proofs.EarlyEnds.{early_before}
use Rattle.intake.proofs.Replies.{disk_same, grows}
use Rattle.intake.proofs.session.answer_line.Goals as goal

pub returns-in_err-request-clause-broken : goal.returns-in_err-request-clause-broken
returns-in_err-request-clause-broken g c = λ held is.
    MatchResult-from_err c.from_residual.result _ _ c.from_residual.ensures.0
    (λ _. early_before _ held _ _ _ _ _ (g.met.J.Receiver.shows c.args.receiver.now held c.requires.ready is))

pub returns-in_err-request-clause-grows : goal.returns-in_err-request-clause-grows
returns-in_err-request-clause-grows g c = λ held is.
    disk_same g.J.Receiver.reads g.J.Receiver.moment g.J.Receiver.since c.args.receiver.now _ (g.J.Receiver.images c.args.receiver.now) held _ (grows g.J.Receiver.medium held (request_of_line c.args.kind c.args.line.now ∷ [])) (g.met.J.Receiver.shows c.args.receiver.now held c.requires.ready is)

pub answer_request-requires-clause-stamped : goal.answer_request-requires-clause-stamped
answer_request-requires-clause-stamped g c = λ none. ap asks_clock c.in_ok-request.ensures.value ∙ asks_none c.args.kind c.args.line.now (c.requires.stamped none)

pub returns-clause-answered : goal.returns-clause-answered
returns-clause-answered g c = λ held is. rw c.in_ok-request.ensures.value at (c.answer_request.ensures.answered held is)

pub returns-clause-broken : goal.returns-clause-broken
returns-clause-broken g c = λ held is. rw c.in_ok-request.ensures.value at (c.answer_request.ensures.broken held is)

pub returns-clause-grows : goal.returns-clause-grows
returns-clause-grows g c = λ held is. rw c.in_ok-request.ensures.value at (c.answer_request.ensures.grows held is)
