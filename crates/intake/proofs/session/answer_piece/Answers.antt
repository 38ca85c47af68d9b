use Rattle.std.proofs.Common.{◌∷◌, ◌++◌, [], List, refl, ap, ◌∙◌, sym, subst, append_assoc}
use Rattle.std.proofs.lemmas.Result.{MatchResult-from_err}
use Rattle.intake.specs.Answered.{Answered}
use Rattle.intake.specs.EarlyEnds.{EndsEarly}
use Rattle.intake.specs.Grown.{DiskGrows}
use Rattle.intake.specs.Requests.{held_after}
use Rattle.intake.specs.Sessions.{behind, ended_requests}
use Rattle.intake_requests.specs.declared.requests.Request.{Request}
use Rattle.intake.proofs.LineRequests.{behind-append, behind-none, requests_of_two, requests_of_piece, requests_at_end}
use Rattle.intake.proofs.EarlyEnds.{early_then, early_longer, early_all}
use Rattle.intake.proofs.Replies.{disk_within, done_then}
use Rattle.intake.proofs.session.answer_piece.Goals as goal

pub returns-in_err-answer_ended-clause-broken : goal.returns-in_err-answer_ended-clause-broken
returns-in_err-answer_ended-clause-broken g c = λ held is.
    let so = c.loop-end.invariant.so_far in
    let first = so.answered held is in
    let xs = ended_requests c.args.kind c.args.line.now.items so.done in
    let ys = ended_requests c.args.kind c.loop-end.line.items (c.in-Some.end.now ++ 10 ∷ []) in
    MatchResult-from_err c.from_residual.result _ _ c.from_residual.ensures.0
    (λ _. subst (EndsEarly _ held _ _ _ _) (sym (requests_of_piece c.args.kind c.args.line.now.items c.loop-end.line.items c.args.piece.now so.done c.loop-end.rest.now c.in-Some.end.now c.in-Some.behind.now so.whole so.line c.in-Some.ensures.whole))
    (early_longer _ held _ _ _ _ (xs ++ ys) (ended_requests c.args.kind (behind c.loop-end.line.items (c.in-Some.end.now ++ 10 ∷ [])) c.in-Some.behind.now)
    (early_then _ held _ _ _ _ _ _ xs ys first.0 (c.in_err-answer_ended.ensures.broken _ first.0.holds))))

pub returns-in_err-answer_ended-clause-grows : goal.returns-in_err-answer_ended-clause-grows
returns-in_err-answer_ended-clause-grows g c = λ held is.
    let so = c.loop-end.invariant.so_far in
    let first = so.answered held is in
    let xs = ended_requests c.args.kind c.args.line.now.items so.done in
    let ys = ended_requests c.args.kind c.loop-end.line.items (c.in-Some.end.now ++ 10 ∷ []) in
    disk_within g.J.Receiver.reads g.J.Receiver.moment g.J.Receiver.since c.args.receiver.now c.loop-end.receiver c.answer_ended.new.receiver _ held _ xs ys (ended_requests c.args.kind (behind c.loop-end.line.items (c.in-Some.end.now ++ 10 ∷ [])) c.in-Some.behind.now)
    (requests_of_piece c.args.kind c.args.line.now.items c.loop-end.line.items c.args.piece.now so.done c.loop-end.rest.now c.in-Some.end.now c.in-Some.behind.now so.whole so.line c.in-Some.ensures.whole)
    first.1 (c.in_err-answer_ended.ensures.grows _ first.0.holds)

pub loop-end-preserved : goal.loop-end-preserved
loop-end-preserved g c =
    let inv = c.loop-end.invariant in
    let so = inv.so_far in
    let xs = ended_requests c.args.kind c.args.line.now.items so.done in
    let ys = ended_requests c.args.kind c.loop-end.line.items (c.in-Some.end.now ++ 10 ∷ []) in
    let both = ap (λ l. xs ++ ended_requests c.args.kind l (c.in-Some.end.now ++ 10 ∷ [])) so.line ∙ sym (requests_of_two c.args.kind c.args.line.now.items so.done (c.in-Some.end.now ++ 10 ∷ [])) in record {
      so_far = record {
        done = so.done ++ (c.in-Some.end.now ++ 10 ∷ []);
        whole = so.whole ∙ ap (λ r. so.done ++ r) (c.in-Some.ensures.whole ∙ sym (append_assoc c.in-Some.end.now (10 ∷ []) c.in-Some.behind.now))
            ∙ sym (append_assoc so.done (c.in-Some.end.now ++ 10 ∷ []) c.in-Some.behind.now);
        line = c.in_ok-answer_ended.ensures.line ∙ ap (λ l. behind l (c.in-Some.end.now ++ 10 ∷ [])) so.line ∙ sym (behind-append c.args.line.now.items so.done (c.in-Some.end.now ++ 10 ∷ []));
        answered = done_then g.J.Receiver.reads g.J.Receiver.moment g.J.Receiver.since c.args.receiver.now c.loop-end.receiver c.answer_ended.new.receiver _ _ _ _ _ _ _ xs ys _ both
            so.answered c.in_ok-answer_ended.ensures.answered c.in_ok-answer_ended.ensures.grows;
      };
      ready = c.in_ok-answer_ended.ensures.ready refl;
      lent = c.in_ok-answer_ended.ensures.lent ∙ inv.lent;
      quiet_sink = c.in_ok-answer_ended.ensures.write_cause.else_same refl ∙ inv.quiet_sink;
      quiet_disk = c.in_ok-answer_ended.ensures.disk_cause.else_same refl ∙ inv.quiet_disk;
    }

pub returns-in_err-extend_from_slice-clause-broken : goal.returns-in_err-extend_from_slice-clause-broken
returns-in_err-extend_from_slice-clause-broken g c = λ held is.
    let so = c.loop-end.invariant.so_far in
    let first = so.answered held is in
    let xs = ended_requests c.args.kind c.args.line.now.items so.done in
    MatchResult-from_err c.from_residual-in_err-extend_from_slice.result _ _ c.from_residual-in_err-extend_from_slice.ensures.0
    (λ _. subst (EndsEarly _ held _ _ _ _) (sym (requests_at_end c.args.kind c.args.line.now.items c.loop-end.line.items c.args.piece.now so.done c.loop-end.rest.now so.whole c.in_default.ensures.none))
    (early_all _ held _ _ _ _ _ _ xs first.0 (g.met.J.Receiver.shows c.loop-end.receiver _ c.loop-end.invariant.ready first.0.holds)))

pub returns-in_err-extend_from_slice-clause-grows : goal.returns-in_err-extend_from_slice-clause-grows
returns-in_err-extend_from_slice-clause-grows g c = λ held is.
    let so = c.loop-end.invariant.so_far in
    let first = so.answered held is in
    let xs = ended_requests c.args.kind c.args.line.now.items so.done in
    subst (λ (rs : List Request). DiskGrows g.J.Receiver.reads g.J.Receiver.moment g.J.Receiver.since c.args.receiver.now c.loop-end.receiver held.journal (held_after g.J.Receiver.medium held rs).journal) (sym (requests_at_end c.args.kind c.args.line.now.items c.loop-end.line.items c.args.piece.now so.done c.loop-end.rest.now so.whole c.in_default.ensures.none)) first.1

pub returns-clause-answered : goal.returns-clause-answered
returns-clause-answered g c = λ held is.
    let so = c.loop-end.invariant.so_far in
    let first = so.answered held is in
    let xs = ended_requests c.args.kind c.args.line.now.items so.done in
    subst (Answered _ held _ _ _) (sym (requests_at_end c.args.kind c.args.line.now.items c.loop-end.line.items c.args.piece.now so.done c.loop-end.rest.now so.whole c.in_default.ensures.none)) first.0

pub returns-clause-grows : goal.returns-clause-grows
returns-clause-grows g c = λ held is.
    let so = c.loop-end.invariant.so_far in
    let first = so.answered held is in
    let xs = ended_requests c.args.kind c.args.line.now.items so.done in
    subst (λ (rs : List Request). DiskGrows g.J.Receiver.reads g.J.Receiver.moment g.J.Receiver.since c.args.receiver.now c.loop-end.receiver held.journal (held_after g.J.Receiver.medium held rs).journal) (sym (requests_at_end c.args.kind c.args.line.now.items c.loop-end.line.items c.args.piece.now so.done c.loop-end.rest.now so.whole c.in_default.ensures.none)) first.1

pub returns-clause-line : goal.returns-clause-line
returns-clause-line g c =
    let so = c.loop-end.invariant.so_far in
    c.in_ok-extend_from_slice.ensures.items ∙ ap (λ l. l ++ c.loop-end.rest.now) so.line
    ∙ sym (behind-none (behind c.args.line.now.items so.done) c.loop-end.rest.now c.in_default.ensures.none)
    ∙ sym (behind-append c.args.line.now.items so.done c.loop-end.rest.now) ∙ ap (behind c.args.line.now.items) (sym so.whole)
