use Rattle.std.proofs.Common.{inl, inr, ℕ, List, [], refl, ◌∙◌, subst}
use Rattle.std.proofs.lemmas.Result.{MatchResult-from_err}
use Rattle.intake.specs.EarlyEnds.{EndsEarly}
use Rattle.intake.specs.Answered.{Answered}
use Rattle.intake.specs.Grown.{DiskGrows}
use Rattle.opening_lists.specs.OpeningLists.{row_requests}
use Rattle.intake.specs.Requests.{held_after}
use Rattle.intake.proofs.EarlyEnds.{early_before}
use Rattle.intake.proofs.Replies.{disk_same, grows}
use Rattle.intake.proofs.SessionInputs.{took_as}
use Rattle.intake.proofs.list_session.answer_list.Goals as goal

pub returns-in_err-input-clause-part : goal.returns-in_err-input-clause-part
returns-in_err-input-clause-part g c = λ held is.
    let shows = g.met.J.Receiver.shows c.args.receiver.now held c.requires.ready is in
    MatchResult-from_err c.from_residual.result _ _ c.from_residual.ensures.0
    (λ _. took_as _ _ _ _ c.in_err-input.ensures.taken (λ read did. (
      [],
      inl refl,
      early_before _ held _ _ _ _ [] shows,
      disk_same g.J.Receiver.reads g.J.Receiver.moment g.J.Receiver.since c.args.receiver.now _ (g.J.Receiver.images c.args.receiver.now) held _ (grows g.J.Receiver.medium held []) shows,
    )))

pub returns-in_err-answer_bytes-clause-part : goal.returns-in_err-answer_bytes-clause-part
returns-in_err-answer_bytes-clause-part g c = λ held is.
    MatchResult-from_err c.from_residual-in_err-answer_bytes.result _ _ c.from_residual-in_err-answer_bytes.ensures.0
    (λ _. took_as _ _ _ _ c.in_ok-input.ensures.whole (λ read did. (
      row_requests c.args.sender read,
      inr (did.0, did.1, refl),
      subst (λ (bytes : List ℕ). EndsEarly g.J.Receiver.medium held (g.J.Receiver.ticks c.answer_bytes.new.receiver) (g.K.Sink.written c.args.sink.now) (g.K.Sink.written c.answer_bytes.new.sink) (g.J.Receiver.images c.answer_bytes.new.receiver) (row_requests c.args.sender bytes))
          (c.as_slice.ensures.value ∙ did.2) (c.in_err-answer_bytes.ensures.broken held is),
      subst (λ (bytes : List ℕ). DiskGrows g.J.Receiver.reads g.J.Receiver.moment g.J.Receiver.since c.args.receiver.now c.answer_bytes.new.receiver held.journal (held_after g.J.Receiver.medium held (row_requests c.args.sender bytes)).journal)
          (c.as_slice.ensures.value ∙ did.2) (c.in_err-answer_bytes.ensures.grows held is),
    )))

pub returns-clause-all : goal.returns-clause-all
returns-clause-all g c = λ held is.
    took_as _ _ _ _ c.in_ok-input.ensures.whole (λ read did. (
      did.0,
      did.1,
      subst (λ (bytes : List ℕ). Answered g.J.Receiver.medium held (g.J.Receiver.holds c.answer_bytes.new.receiver) (g.K.Sink.written c.args.sink.now) (g.K.Sink.written c.answer_bytes.new.sink) (row_requests c.args.sender bytes))
          (c.as_slice.ensures.value ∙ did.2) (c.in_ok-answer_bytes.ensures.answered held is),
      subst (λ (bytes : List ℕ). DiskGrows g.J.Receiver.reads g.J.Receiver.moment g.J.Receiver.since c.args.receiver.now c.answer_bytes.new.receiver held.journal (held_after g.J.Receiver.medium held (row_requests c.args.sender bytes)).journal)
          (c.as_slice.ensures.value ∙ did.2) (c.in_ok-answer_bytes.ensures.grows held is),
    ))
