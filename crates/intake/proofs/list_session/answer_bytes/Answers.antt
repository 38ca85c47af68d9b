use Rattle.std.proofs.lemmas.Result.{MatchResult-from_err}
use Rattle.opening_lists.specs.OpeningLists.{row_requests}
use Rattle.intake.proofs.EarlyEnds.{early_before}
use Rattle.intake.proofs.Replies.{disk_same, grows}
use Rattle.intake.proofs.list_session.answer_bytes.Goals as goal

pub returns-in_err-list-clause-broken : goal.returns-in_err-list-clause-broken
returns-in_err-list-clause-broken g c = λ held is.
    MatchResult-from_err c.from_residual.result _ _ c.from_residual.ensures.0
    (λ _. early_before _ held _ _ _ _ _ (g.met.J.Receiver.shows c.args.receiver.now held c.requires.ready is))

pub returns-in_err-list-clause-grows : goal.returns-in_err-list-clause-grows
returns-in_err-list-clause-grows g c = λ held is.
    disk_same g.J.Receiver.reads g.J.Receiver.moment g.J.Receiver.since c.args.receiver.now _ (g.J.Receiver.images c.args.receiver.now) held _ (grows g.J.Receiver.medium held (row_requests c.args.sender c.args.bytes.now)) (g.met.J.Receiver.shows c.args.receiver.now held c.requires.ready is)
