use Rattle.std.proofs.Common.{◌∷◌, ◌++◌, [], List, ◌∙◌, sym, subst}
use Rattle.std.proofs.lemmas.Result.{MatchResult-from_err}
use Rattle.intake.specs.Answered.{Answered}
use Rattle.intake.specs.EarlyEnds.{EndsEarly}
use Rattle.intake.specs.Grown.{DiskGrows}
use Rattle.intake.specs.Requests.{held_after}
use Rattle.intake.specs.Sessions.{ended_requests}
use Rattle.intake_requests.specs.declared.requests.Request.{Request}
use Rattle.intake.proofs.LineRequests.{feed_requests, behind_with_feed}
use Rattle.intake.proofs.EarlyEnds.{early_before}
use Rattle.intake.proofs.Replies.{disk_same, grows}
use Rattle.intake.proofs.session.answer_ended.Goals as goal

pub returns-in_err-extend_from_slice-clause-broken : goal.returns-in_err-extend_from_slice-clause-broken
returns-in_err-extend_from_slice-clause-broken g c = λ held is.
    MatchResult-from_err c.from_residual.result _ _ c.from_residual.ensures.0
    (λ _. early_before _ held _ _ _ _ _ (g.met.J.Receiver.shows c.args.receiver.now held c.requires.ready is))

pub returns-in_err-extend_from_slice-clause-grows : goal.returns-in_err-extend_from_slice-clause-grows
returns-in_err-extend_from_slice-clause-grows g c = λ held is.
    disk_same g.J.Receiver.reads g.J.Receiver.moment g.J.Receiver.since c.args.receiver.now _ (g.J.Receiver.images c.args.receiver.now) held _ (grows g.J.Receiver.medium held (ended_requests c.args.kind c.args.line.now.items (c.args.end.now ++ 10 ∷ []))) (g.met.J.Receiver.shows c.args.receiver.now held c.requires.ready is)

pub returns-in_err-answer_line-clause-broken : goal.returns-in_err-answer_line-clause-broken
returns-in_err-answer_line-clause-broken g c = λ held is.
    MatchResult-from_err c.from_residual-in_err-answer_line.result _ _ c.from_residual-in_err-answer_line.ensures.0
    (λ _. subst (EndsEarly _ held _ _ _ _) (feed_requests c.args.kind c.args.line.now.items c.args.end.now _ c.requires.within_line (c.as_slice.ensures.value ∙ c.in_ok-extend_from_slice.ensures.items))
    (c.in_err-answer_line.ensures.broken held is))

pub returns-in_err-answer_line-clause-grows : goal.returns-in_err-answer_line-clause-grows
returns-in_err-answer_line-clause-grows g c = λ held is.
    subst (λ (rs : List Request). DiskGrows g.J.Receiver.reads g.J.Receiver.moment g.J.Receiver.since c.args.receiver.now c.answer_line.new.receiver held.journal (held_after g.J.Receiver.medium held rs).journal)
    (feed_requests c.args.kind c.args.line.now.items c.args.end.now _ c.requires.within_line (c.as_slice.ensures.value ∙ c.in_ok-extend_from_slice.ensures.items))
    (c.in_err-answer_line.ensures.grows held is)

pub returns-clause-answered : goal.returns-clause-answered
returns-clause-answered g c = λ held is.
    subst (Answered _ held _ _ _) (feed_requests c.args.kind c.args.line.now.items c.args.end.now _ c.requires.within_line (c.as_slice.ensures.value ∙ c.in_ok-extend_from_slice.ensures.items))
    (c.in_ok-answer_line.ensures.answered held is)

pub returns-clause-grows : goal.returns-clause-grows
returns-clause-grows g c = λ held is.
    subst (λ (rs : List Request). DiskGrows g.J.Receiver.reads g.J.Receiver.moment g.J.Receiver.since c.args.receiver.now c.answer_line.new.receiver held.journal (held_after g.J.Receiver.medium held rs).journal)
    (feed_requests c.args.kind c.args.line.now.items c.args.end.now _ c.requires.within_line (c.as_slice.ensures.value ∙ c.in_ok-extend_from_slice.ensures.items))
    (c.in_ok-answer_line.ensures.grows held is)

pub returns-clause-line : goal.returns-clause-line
returns-clause-line g c = c.clear.ensures.items ∙ sym (behind_with_feed c.args.line.now.items c.args.end.now)
