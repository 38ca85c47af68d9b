use Rattle.std.proofs.Common.{take, drop, inl, subst, ap, sym, ◌∙◌, Err, arith, take-append-drop, length-take}
use Rattle.std.proofs.lemmas.Bool.{false≢true}
use Rattle.httparse.proofs.HeadLemmas.{on_partial}
use Rattle.registry_http.specs.inner.Reading.{IsFront}
use Rattle.registry_http.proofs.WholeHeads.{judged, never, none_now, full_front, bad_front, cut_target}
use Rattle.registry_http.proofs.heads.read_front.Goals as goal
use Rattle.registry_http.proofs.heads.read_front.Goals.{else-bytes-lt-LONGEST_HEAD-2-via-then-bytes-lt-LONGEST_HEAD-2+else-ends_in_target, else-bytes-lt-LONGEST_HEAD-2-via-else-bytes-lt-LONGEST_HEAD-2}

pub returns-in-Ok-Complete : goal.returns-in-Ok-Complete
returns-in-Ok-Complete c =
    let bytes = c.args.bytes.now in
    subst (λ b. IsFront b c.judge.result) (take-append-drop c.min.result bytes)
    (judged (take c.min.result bytes) (drop c.min.result bytes) c.judge.result c.judge.ensures)

pub returns-else-bytes-lt-LONGEST_HEAD : goal.returns-else-bytes-lt-LONGEST_HEAD
returns-else-bytes-lt-LONGEST_HEAD c =
    inl (full_front c.args.bytes.now c.min.result c.min.ensures
    (on_partial c.in-Ok-Partial.is c.in-Ok-Partial.field-0-is c.parse_request.ensures.partial) (omega arith))

pub returns-then-ends_in_target : goal.returns-then-ends_in_target
returns-then-ends_in_target c =
    let bytes = c.args.bytes.now in
    cut_target bytes c.min.result c.min.ensures
    (never c.in-Err.field-0 (take c.min.result bytes) _ c.requires (omega (arith, length-take c.min.result bytes, c.min.ensures)) c.in-Err.ensures.invalid
    (λ many. c.in-Err.ensures.too_many (ap Err many)))
    (omega arith) (c.ends_in_target.ensures.0 c.if-ends_in_target.true)

pub returns-else-bytes-lt-LONGEST_HEAD-2 : goal.returns-else-bytes-lt-LONGEST_HEAD-2
returns-else-bytes-lt-LONGEST_HEAD-2 c =
    let bytes = c.args.bytes.now in
    inl (elim c.else-bytes-lt-LONGEST_HEAD-2.branch [
      | else-bytes-lt-LONGEST_HEAD-2-via-then-bytes-lt-LONGEST_HEAD-2+else-ends_in_target w ↦
          bad_front bytes c.min.result c.min.ensures
          (never c.in-Err.field-0 (take c.min.result bytes) _ c.requires (omega (arith, length-take c.min.result bytes, c.min.ensures)) c.in-Err.ensures.invalid
          (λ many. c.in-Err.ensures.too_many (ap Err many)))
          (λ ends. false≢true (sym w.if-ends_in_target.false ∙ w.ends_in_target.ensures.1 ends))
      | else-bytes-lt-LONGEST_HEAD-2-via-else-bytes-lt-LONGEST_HEAD-2 w ↦
          full_front bytes c.min.result c.min.ensures
          (none_now (take c.min.result bytes)
          (never c.in-Err.field-0 (take c.min.result bytes) _ c.requires (omega (arith, length-take c.min.result bytes, c.min.ensures)) c.in-Err.ensures.invalid
          (λ many. c.in-Err.ensures.too_many (ap Err many))))
          (omega (arith, w.if-bytes-lt-LONGEST_HEAD-2.false))
    ])
