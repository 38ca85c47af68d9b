use Rattle.std.proofs.Common.{◌++◌, ◌∷◌, [], ◌∙◌, refl, sym, subst}
use Rattle.std.proofs.lemmas.Result.{MatchResult-from_err}
use Rattle.std.specs.Io.KnownBytes.{Appends}
use Rattle.gb_outside.specs.Bytes.{AppendsFront}
use Rattle.intake.specs.Requests.{received_text}
use Rattle.intake_requests.specs.declared.requests.Request.TheVariants.{Receive}
use Rattle.intake.proofs.OneRequest.{answered_one, early_cut, early_unanswered}
use Rattle.intake.proofs.answering.answer_item.Goals as goal

pub returns-in_err-text-clause-broken : goal.returns-in_err-text-clause-broken
returns-in_err-text-clause-broken g c = λ held is.
    let takes = c.receive-answer.ensures.takes held is in
    MatchResult-from_err c.from_residual.result _ _ c.from_residual.ensures.0
    (λ _. early_unanswered _ held _ _ (Receive c.args.stamp c.args.from c.args.item.now) _ _ refl takes.ticks takes.left)

pub returns-in_err-text-clause-grows : goal.returns-in_err-text-clause-grows
returns-in_err-text-clause-grows g c = λ held is. (c.receive-answer.ensures.takes held is).grows

pub returns-in_err-write_all-clause-broken : goal.returns-in_err-write_all-clause-broken
returns-in_err-write_all-clause-broken g c = λ held is.
    let takes = c.receive-answer.ensures.takes held is in
    let sound = c.in_ok-text.ensures.answered in
    MatchResult-from_err c.from_residual-in_err-write_all.result _ _ c.from_residual-in_err-write_all.ensures.0
    (λ _. early_cut _ held _ _ (Receive c.args.stamp c.args.from c.args.item.now) _ _ (received_text c.receive-answer.result ++ 10 ∷ []) (takes.text sound)
    (subst (AppendsFront (g.K.Sink.written c.args.sink.now) (g.K.Sink.written c.write_all.new.sink)) (c.as_slice.ensures.value ∙ c.in_ok-text.ensures.text) c.in_err-write_all.ensures.part) takes.ticks
    (g.met.J.Receiver.shows c.receive-answer.new.self _ (c.receive-answer.ensures.ready (sym c.in_ok-text.ensures.disk)) (takes.holds sound)).stands)

pub returns-in_err-write_all-clause-grows : goal.returns-in_err-write_all-clause-grows
returns-in_err-write_all-clause-grows g c = λ held is. (c.receive-answer.ensures.takes held is).grows

pub returns-clause-answered : goal.returns-clause-answered
returns-clause-answered g c = λ held is.
    let takes = c.receive-answer.ensures.takes held is in
    let sound = c.in_ok-text.ensures.answered in
    answered_one _ held _ _ (Receive c.args.stamp c.args.from c.args.item.now) _ (received_text c.receive-answer.result ++ 10 ∷ []) (takes.text sound)
    (subst (Appends (g.K.Sink.written c.args.sink.now) (g.K.Sink.written c.write_all.new.sink)) (c.as_slice.ensures.value ∙ c.in_ok-text.ensures.text) c.in_ok-write_all.ensures.whole) (takes.holds sound)

pub returns-clause-grows : goal.returns-clause-grows
returns-clause-grows g c = λ held is. (c.receive-answer.ensures.takes held is).grows
