use Rattle.std.proofs.Common.{◌≡◌, ◌≤◌, inl, inr, ◌+◌, [], ◌∷◌, ◌++◌, length, take, refl, sym, ap, ◌∙◌, subst, append-nil, length-append, arith}
use Rattle.std.specs.Io.KnownBytes.{IsAtEnd}
use Rattle.std.proofs.lemmas.Grind.{common_steps}
use Rattle.std.proofs.lemmas.List.{take_at}
use Rattle.std.proofs.lemmas.Result.{MatchResult-from_err}
use Rattle.intake.specs.Answered.{Answered}
use Rattle.intake.specs.EarlyEnds.{EndsEarly}
use Rattle.intake.specs.Lines.{request_of_line}
use Rattle.intake.specs.Sessions.{behind, ended_requests, line_requests}
use Rattle.intake.proofs.LineRequests.{behind-append}
use Rattle.intake.proofs.EarlyEnds.{early_then, early_before, early_all}
use Rattle.intake.proofs.Replies.{disk_within, disk_same, done_then, grows}
use Rattle.intake.proofs.SessionInputs.{took_none, took_more, took_same, are_ended, requests_of_more, requests_of_last, requests_of_most, requests_of_short}
use Rattle.intake.proofs.session.answer_lines.Goals as goal

pub returns-in_err-block-clause-part : goal.returns-in_err-block-clause-part
returns-in_err-block-clause-part g c = λ held is.
    let shows = g.met.J.Receiver.shows c.args.receiver.now held c.requires.ready is in
    MatchResult-from_err c.from_residual.result _ _ c.from_residual.ensures.0
    (λ _. took_none _ _ (
      [],
      are_ended c.args.kind _ [] (omega arith),
      early_before _ held _ _ _ _ [] shows,
      disk_same g.J.Receiver.reads g.J.Receiver.moment g.J.Receiver.since c.args.receiver.now _ (g.J.Receiver.images c.args.receiver.now) held _ (grows g.J.Receiver.medium held []) shows,
    ))

pub returns-then-read-count-clause-cut : goal.returns-then-read-count-clause-cut
returns-then-read-count-clause-cut g c = λ held is which.
    took_more _ _ _ _ _ _ c.loop.invariant.took c.in-Bytes.ensures.content
    (λ read did. subst (Answered _ held _ _ _) (requests_of_most c.args.kind read _ (did.0 ∙ grind (arith, c.room_for.ensures.left))) (did.2 held is).0)

pub returns-then-read-count-clause-part : goal.returns-then-read-count-clause-part
returns-then-read-count-clause-part g c = λ held is.
    took_more _ _ _ _ _ _ c.loop.invariant.took c.in-Bytes.ensures.content
    (λ read did. let first = did.2 held is in (
      (ended_requests c.args.kind [] read),
      inl (ap (ended_requests c.args.kind []) (sym (take_at read _ 67108864 (did.0 ∙ grind (arith, c.room_for.ensures.left))))),
      early_all _ held _ _ _ _ _ _ (ended_requests c.args.kind [] read) first.0 (g.met.J.Receiver.shows c.loop.receiver _ c.loop.invariant.ready first.0.holds),
      first.1,
    ))

pub returns-then-read-count-clause-long : goal.returns-then-read-count-clause-long
returns-then-read-count-clause-long g c = λ which.
    took_more _ _ _ (take c.in-Bytes.read c.read_block.new.block) _ _ c.loop.invariant.took c.in-Bytes.ensures.content
    (λ read did. let full : c.loop.count ≡ 67108864 = grind (arith, c.room_for.ensures.left) in
    let one : c.in-Bytes.read ≡ 1 = grind (arith, c.room_for.ensures.left) in
    let whole : length (take c.in-Bytes.read c.read_block.new.block) ≡ c.in-Bytes.read = grind (arith, common_steps) in
    length-append read _ ∙ omega (arith, did.0, whole, full, one))

pub returns-in_err-answer_piece-in-Bytes-clause-part : goal.returns-in_err-answer_piece-in-Bytes-clause-part
returns-in_err-answer_piece-in-Bytes-clause-part g c = λ held is.
    let whole : length c.read_block.new.block ≡ c.loop.block.len = omega arith in
    let same : c.deref.result.now ≡ c.read_block.new.block = c.deref.ensures.value ∙ take_at c.read_block.new.block _ _ whole in
    MatchResult-from_err c.from_residual-in_err-answer_piece-in-Bytes.result _ _ c.from_residual-in_err-answer_piece-in-Bytes.ensures.0
    (λ _. took_more _ _ _ (take c.in-Bytes.read c.read_block.new.block) _ _ c.loop.invariant.took c.in-Bytes.ensures.content
    (λ read did. let size : length (read ++ (take c.in-Bytes.read c.read_block.new.block)) ≡ c.loop.count + c.in-Bytes.read = length-append read _ ∙ (let one : length (take c.in-Bytes.read c.read_block.new.block) ≡ c.in-Bytes.read = grind (arith, common_steps) in omega (arith, did.0, one)) in
    let first = did.2 held is in
    let more = requests_of_more c.args.kind c.loop.line.items read (take c.in-Bytes.read c.read_block.new.block) did.1 in (
      ended_requests c.args.kind [] (read ++ (take c.in-Bytes.read c.read_block.new.block)),
      are_ended c.args.kind _ (read ++ (take c.in-Bytes.read c.read_block.new.block)) (omega (arith, size)),
      subst (EndsEarly _ held _ _ _ _) more
          (early_then _ held _ _ _ _ _ _ (ended_requests c.args.kind [] read) (ended_requests c.args.kind c.loop.line.items (take c.in-Bytes.read c.read_block.new.block)) first.0 (rw same at (c.in_err-answer_piece-in-Bytes.ensures.broken _ first.0.holds))),
      disk_within g.J.Receiver.reads g.J.Receiver.moment g.J.Receiver.since c.args.receiver.now c.loop.receiver c.answer_piece.new.receiver _ held _ (ended_requests c.args.kind [] read) (ended_requests c.args.kind c.loop.line.items (take c.in-Bytes.read c.read_block.new.block)) []
          (sym more ∙ sym (append-nil ((ended_requests c.args.kind [] read) ++ (ended_requests c.args.kind c.loop.line.items (take c.in-Bytes.read c.read_block.new.block))))) first.1 (rw same at (c.in_err-answer_piece-in-Bytes.ensures.grows _ first.0.holds)),
    )))

pub returns-in_err-answer_piece-in-Bytes-clause-short : goal.returns-in_err-answer_piece-in-Bytes-clause-short
returns-in_err-answer_piece-in-Bytes-clause-short g c = λ other.
    took_more _ _ _ (take c.in-Bytes.read c.read_block.new.block) _ _ c.loop.invariant.took c.in-Bytes.ensures.content
    (λ read did. let size : length (read ++ (take c.in-Bytes.read c.read_block.new.block)) ≡ c.loop.count + c.in-Bytes.read = length-append read _ ∙ (let one : length (take c.in-Bytes.read c.read_block.new.block) ≡ c.in-Bytes.read = grind (arith, common_steps) in omega (arith, did.0, one)) in omega (arith, size))

pub returns-in_err-answer_line-in-End-clause-part : goal.returns-in_err-answer_line-in-End-clause-part
returns-in_err-answer_line-in-End-clause-part g c = λ held is.
    MatchResult-from_err c.from_residual-in_err-answer_line-in-End.result _ _ c.from_residual-in_err-answer_line-in-End.ensures.0
    (λ _. took_same _ _ _ _ _ c.loop.invariant.took c.in-End.ensures.content.1
    (λ read did. let first = did.2 held is in
    let last = requests_of_last c.args.kind c.loop.line.items read did.1 in (
      line_requests c.args.kind read,
      inr (subst IsAtEnd (sym c.in-End.ensures.content.1) c.in-End.ensures.content.0, omega (arith, did.0, c.loop.invariant.short), refl),
      subst (EndsEarly _ held _ _ _ _) last
          (early_then _ held _ _ _ _ _ _ (ended_requests c.args.kind [] read) (request_of_line c.args.kind c.loop.line.items ∷ []) first.0 (rw c.as_slice.ensures.value at (c.in_err-answer_line-in-End.ensures.broken _ first.0.holds))),
      disk_within g.J.Receiver.reads g.J.Receiver.moment g.J.Receiver.since c.args.receiver.now c.loop.receiver c.answer_line.new.receiver _ held _ (ended_requests c.args.kind [] read) (request_of_line c.args.kind c.loop.line.items ∷ []) []
          (sym last ∙ sym (append-nil ((ended_requests c.args.kind [] read) ++ (request_of_line c.args.kind c.loop.line.items ∷ [])))) first.1 (rw c.as_slice.ensures.value at (c.in_err-answer_line-in-End.ensures.grows _ first.0.holds)),
    )))

pub returns-in-End-clause-all : goal.returns-in-End-clause-all
returns-in-End-clause-all g c = λ held is.
    took_same _ _ _ _ _ c.loop.invariant.took c.in-End.ensures.content.1
    (λ read did. let both = done_then g.J.Receiver.reads g.J.Receiver.moment g.J.Receiver.since c.args.receiver.now c.loop.receiver c.answer_line.new.receiver _ _ _ _ _ _ _ (ended_requests c.args.kind [] read) (request_of_line c.args.kind c.loop.line.items ∷ []) _
    (requests_of_last c.args.kind c.loop.line.items read did.1) did.2
    (λ now holds. rw c.as_slice.ensures.value at (c.in_ok-answer_line-in-End.ensures.answered now holds)) (λ now holds. rw c.as_slice.ensures.value at (c.in_ok-answer_line-in-End.ensures.grows now holds)) held is in (
      subst IsAtEnd (sym c.in-End.ensures.content.1) c.in-End.ensures.content.0,
      omega (arith, did.0, c.loop.invariant.short),
      both.0,
      both.1,
    ))

pub returns-in-End-clause-at_end : goal.returns-in-End-clause-at_end
returns-in-End-clause-at_end g c =
    took_same _ _ _ _ _ c.loop.invariant.took c.in-End.ensures.content.1
    (λ read did. subst IsAtEnd (sym c.in-End.ensures.content.1) c.in-End.ensures.content.0)

pub returns-in-Failed-clause-cut : goal.returns-in-Failed-clause-cut
returns-in-Failed-clause-cut g c = λ held is which.
    took_same _ _ _ _ _ c.loop.invariant.took c.in-Failed.ensures.content
    (λ read did. subst (Answered _ held _ _ _) (requests_of_short c.args.kind read (omega (arith, did.0, c.loop.invariant.short))) (did.2 held is).0)

pub returns-in-Failed-clause-part : goal.returns-in-Failed-clause-part
returns-in-Failed-clause-part g c = λ held is.
    took_same _ _ _ _ _ c.loop.invariant.took c.in-Failed.ensures.content
    (λ read did. let first = did.2 held is in (
      (ended_requests c.args.kind [] read),
      are_ended c.args.kind _ read (omega (arith, did.0, c.loop.invariant.short)),
      early_all _ held _ _ _ _ _ _ (ended_requests c.args.kind [] read) first.0 (g.met.J.Receiver.shows c.loop.receiver _ c.loop.invariant.ready first.0.holds),
      first.1,
    ))

pub loop-preserved : goal.loop-preserved
loop-preserved g c =
    let whole : length c.read_block.new.block ≡ c.loop.block.len = omega arith in
    let same : c.deref.result.now ≡ c.read_block.new.block = c.deref.ensures.value ∙ take_at c.read_block.new.block _ _ whole in
    record {
      short = omega arith;
      counted = (let one : 1 ≤ c.in-Bytes.read = c.in-Bytes.ensures.count.0 in omega arith);
      room = c.loop.invariant.room;
      took = took_more _ _ _ (take c.in-Bytes.read c.read_block.new.block) _ _ c.loop.invariant.took c.in-Bytes.ensures.content
          (λ read did. let size : length (read ++ (take c.in-Bytes.read c.read_block.new.block)) ≡ c.loop.count + c.in-Bytes.read = length-append read _ ∙ (let one : length (take c.in-Bytes.read c.read_block.new.block) ≡ c.in-Bytes.read = grind (arith, common_steps) in omega (arith, did.0, one)) in (
            size,
            c.in_ok-answer_piece-in-Bytes.ensures.line ∙ ap (λ p. behind c.loop.line.items (take c.in-Bytes.read p)) same ∙ ap (λ l. behind l (take c.in-Bytes.read c.read_block.new.block)) did.1 ∙ sym (behind-append [] read (take c.in-Bytes.read c.read_block.new.block)),
            done_then g.J.Receiver.reads g.J.Receiver.moment g.J.Receiver.since c.args.receiver.now c.loop.receiver c.answer_piece.new.receiver _ _ _ _ _ _ _ (ended_requests c.args.kind [] read) (ended_requests c.args.kind c.loop.line.items (take c.in-Bytes.read c.read_block.new.block)) _
                (requests_of_more c.args.kind c.loop.line.items read (take c.in-Bytes.read c.read_block.new.block) did.1) did.2
                (λ now holds. rw same at (c.in_ok-answer_piece-in-Bytes.ensures.answered now holds)) (λ now holds. rw same at (c.in_ok-answer_piece-in-Bytes.ensures.grows now holds)),
          ));
      ready = c.in_ok-answer_piece-in-Bytes.ensures.ready refl;
      lent = c.in_ok-answer_piece-in-Bytes.ensures.lent ∙ c.loop.invariant.lent;
      quiet_source = c.in-Bytes.ensures.cause.else_same refl ∙ c.loop.invariant.quiet_source;
      quiet_sink = c.in_ok-answer_piece-in-Bytes.ensures.write_cause.else_same refl ∙ c.loop.invariant.quiet_sink;
      quiet_disk = c.in_ok-answer_piece-in-Bytes.ensures.disk_cause.else_same refl ∙ c.loop.invariant.quiet_disk;
    }
