use Rattle.std.proofs.Common.{◌≡◌, true, false, [], ◌∷◌, ◌++◌, refl, sym, ◌∙◌, subst}
use Rattle.std.proofs.lemmas.Result.{MatchResult-from_err}
use Rattle.intake.specs.EarlyEnds.{EndsEarly}
use Rattle.intake.proofs.EarlyEnds.{early_then, early_longer, early_all}
use Rattle.intake.proofs.Replies.{answered_none, disk_same, disk_within, disk_by_first, done_then, grows}
use Rattle.intake.proofs.RowsAnswered.{one_row_more, next_row}
use Rattle.intake.proofs.SessionInputs.{if_some_at}
use Rattle.intake.proofs.list_session.answer_rows.Goals as goal

pub answer_request-requires-clause-stamped : goal.answer_request-requires-clause-stamped
answer_request-requires-clause-stamped g c = λ none. let never : true ≡ false = sym c.requires.clock ∙ none in absurd cc

pub loop-request-init : goal.loop-request-init
loop-request-init g c = record {
  so_far = record {
    done = [];
    split = refl;
    answered = λ held is. (
      answered_none _ held _ _ is,
      disk_same g.J.Receiver.reads g.J.Receiver.moment g.J.Receiver.since c.args.receiver.now _ (g.J.Receiver.images c.args.receiver.now) held _ (grows g.J.Receiver.medium held []) (g.met.J.Receiver.shows c.args.receiver.now held c.requires.ready is),
    );
  };
  ready = c.requires.ready;
  lent = refl;
  quiet_sink = refl;
  quiet_disk = refl;
}

pub returns-in_err-request-clause-broken : goal.returns-in_err-request-clause-broken
returns-in_err-request-clause-broken g c = λ held is.
    let so = c.loop-request.invariant.so_far in
    let first = so.answered held is in
    MatchResult-from_err c.from_residual.result _ _ c.from_residual.ensures.0
    (λ _. subst (EndsEarly _ held _ _ _ _) (sym so.split)
    (early_longer _ held _ _ _ _ so.done c.loop-request.list
    (early_all _ held _ _ _ _ _ _ so.done first.0 (g.met.J.Receiver.shows c.loop-request.receiver _ c.loop-request.invariant.ready first.0.holds))))

pub returns-in_err-request-clause-grows : goal.returns-in_err-request-clause-grows
returns-in_err-request-clause-grows g c = λ held is.
    let so = c.loop-request.invariant.so_far in
    let first = so.answered held is in
    disk_by_first g.J.Receiver.reads g.J.Receiver.moment g.J.Receiver.since c.args.receiver.now c.loop-request.receiver _ held c.args.list.now so.done c.loop-request.list so.split first.1

pub returns-in_err-answer_request-clause-broken : goal.returns-in_err-answer_request-clause-broken
returns-in_err-answer_request-clause-broken g c = λ held is.
    let so = c.loop-request.invariant.so_far in
    let first = so.answered held is in
    MatchResult-from_err c.from_residual-in_err-answer_request.result _ _ c.from_residual-in_err-answer_request.ensures.0
    (λ _. subst (EndsEarly _ held _ _ _ _) (sym (one_row_more c.args.list.now so.done c.loop-request.list c.next.new.self c.in-Some.request so.split (if_some_at _ c.in-Some.request (λ request. c.loop-request.list ≡ request ∷ c.next.new.self) c.in-Some.is c.in_ok-request.ensures.next)))
    (early_longer _ held _ _ _ _ (so.done ++ c.in-Some.request ∷ []) c.next.new.self
    (early_then _ held _ _ _ _ _ _ so.done (c.in-Some.request ∷ []) first.0 (c.in_err-answer_request.ensures.broken _ first.0.holds))))

pub returns-in_err-answer_request-clause-grows : goal.returns-in_err-answer_request-clause-grows
returns-in_err-answer_request-clause-grows g c = λ held is.
    let so = c.loop-request.invariant.so_far in
    let first = so.answered held is in
    disk_within g.J.Receiver.reads g.J.Receiver.moment g.J.Receiver.since c.args.receiver.now c.loop-request.receiver c.answer_request.new.receiver _ held _ so.done (c.in-Some.request ∷ []) c.next.new.self
    (one_row_more c.args.list.now so.done c.loop-request.list c.next.new.self c.in-Some.request so.split (if_some_at _ c.in-Some.request (λ request. c.loop-request.list ≡ request ∷ c.next.new.self) c.in-Some.is c.in_ok-request.ensures.next))
    first.1 (c.in_err-answer_request.ensures.grows _ first.0.holds)

pub loop-request-preserved-in_ok-answer_request : goal.loop-request-preserved-in_ok-answer_request
loop-request-preserved-in_ok-answer_request g c =
    let inv = c.loop-request.invariant in
    let now = c.in_ok-answer_request.ensures in record {
      so_far = next_row _ _ _ c.in-Some.request _ _ (if_some_at _ c.in-Some.request (λ request. c.loop-request.list ≡ request ∷ c.next.new.self) c.in-Some.is c.in_ok-request.ensures.next)
          (λ done before. done_then g.J.Receiver.reads g.J.Receiver.moment g.J.Receiver.since c.args.receiver.now c.loop-request.receiver c.answer_request.new.receiver _ _ _ _ _ _ _ done (c.in-Some.request ∷ []) _ refl before now.answered now.grows) inv.so_far;
      ready = now.ready refl;
      lent = now.lent ∙ inv.lent;
      quiet_sink = now.write_cause.else_same refl ∙ inv.quiet_sink;
      quiet_disk = now.disk_cause.else_same refl ∙ inv.quiet_disk;
    }

pub loop-request-preserved : goal.loop-request-preserved
loop-request-preserved g c =
    let inv = c.loop-request.invariant in
    let now = c.in_ok-answer_request.ensures in record {
      so_far = next_row _ _ _ c.in-Some.request _ _ (if_some_at _ c.in-Some.request (λ request. c.loop-request.list ≡ request ∷ c.next.new.self) c.in-Some.is c.in_ok-request.ensures.next)
          (λ done before. done_then g.J.Receiver.reads g.J.Receiver.moment g.J.Receiver.since c.args.receiver.now c.loop-request.receiver c.answer_request.new.receiver _ _ _ _ _ _ _ done (c.in-Some.request ∷ []) _ refl before now.answered now.grows) inv.so_far;
      ready = now.ready refl;
      lent = now.lent ∙ inv.lent;
      quiet_sink = now.write_cause.else_same refl ∙ inv.quiet_sink;
      quiet_disk = now.disk_cause.else_same refl ∙ inv.quiet_disk;
    }
