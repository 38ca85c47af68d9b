use Rattle.std.proofs.Common.{◌∙◌, sym, codes, arith}
use Rattle.httparse.specs.Spans.{header_bytes}
use Rattle.registry_http.proofs.Lengths.{values_at, values_past, bad_value, good_value, same_value}
use Rattle.registry_http.proofs.headers.body_length.Goals as goal
use Rattle.registry_http.proofs.headers.body_length.Goals.{then-is_same+else-is_some+in_ok-read_length, else-is_same}

pub returns-in_err-read_length : goal.returns-in_err-read_length
returns-in_err-read_length c =
    c.from_residual.ensures
    ∙ bad_value c.loop-span.length _ _ _ c.parts.result.1.now (sym c.is_some.ensures ∙ c.if-is_some.false) c.loop-span.invariant
    (values_at (header_bytes c.args.bytes.now) c.args.headers.now c.loop-span.span-index _ (codes "content-length") _ _ (omega arith) c.parts.ensures (sym c.is_same.ensures ∙ c.if-is_same.true))
    (sym c.read_length.ensures ∙ c.in_err-read_length.was)

pub loop-span-preserved : goal.loop-span-preserved
loop-span-preserved c = elim c.if-is_same.branch [
  | then-is_same+else-is_some+in_ok-read_length w ↦
      good_value c.loop-span.length c.if-is_same.length _ _ _ c.parts.result.1.now w.in_ok-read_length.field-0 (sym w.is_some.ensures ∙ w.if-is_some.false) c.loop-span.invariant
      (values_at (header_bytes c.args.bytes.now) c.args.headers.now c.loop-span.span-index _ (codes "content-length") _ _ (omega arith) c.parts.ensures (sym c.is_same.ensures ∙ w.if-is_same.true))
      (sym w.read_length.ensures ∙ w.in_ok-read_length.was) w.length-is
  | else-is_same w ↦
      same_value c.loop-span.length c.if-is_same.length _ _ _ c.loop-span.invariant
      (values_past (header_bytes c.args.bytes.now) c.args.headers.now c.loop-span.span-index _ (codes "content-length") _ _ (omega arith) c.parts.ensures (sym c.is_same.ensures ∙ w.if-is_same.false))
      w.length-is
]
