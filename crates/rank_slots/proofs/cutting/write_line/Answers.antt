-- A span stays or goes.
use Rattle.std.proofs.Common.{◌+◌, Bool, ap, arith, not, subst, sum_by, sym, take, vec_capacity, vec_len, ◌∙◌}
use Rattle.gb_base.specs.RightNo.{RightNo}
use Rattle.rank_slots.specs.CentLine.{is_dropped}
use Rattle.rank_slots.specs.inner.Pieces.{AreJoined, line_of}
use Rattle.rank_slots.specs.inner.Spans.{line_of_spans}
use Rattle.rank_slots.proofs.SpanLines.{line_so_far, sum_so_far}
use Rattle.rank_slots.proofs.TakenOut.{goes_step, stays_step}
use Rattle.rank_slots.proofs.cutting.write_line.Goals as goal
use Rattle.rank_slots.proofs.cutting.write_line.Goals.{then-stays, else-stays}

pub loop-span-preserved : goal.loop-span-preserved
loop-span-preserved c =
    let kept : RightNo → Bool = λ r. not (is_dropped c.args.places.now r) in
    let before = line_of_spans (take c.loop-span.span-index c.args.spans.now) in
    let further = line_so_far c.args.spans.now c.loop-span.span-index c.span-item.result c.loop-span-test.true c.span-item.is in
    let added = sum_so_far c.args.spans.now c.loop-span.span-index c.span-item.result c.loop-span-test.true c.span-item.is in
    elim c.if-stays.branch [
      | then-stays w ↦ record {
        line = ap (λ v. line_of v.items) w.pieces-is
            ∙ stays_step kept c.span-item.result.cents c.span-item.result.right before (line_of_spans (take (c.loop-span.span-index + 1) c.args.spans.now)) (line_of c.loop-span.pieces.items) (line_of w.add_cents.new.pieces.items)
            (sym c.stays.ensures ∙ w.if-stays.true) further c.loop-span.invariant.line w.add_cents.ensures.line;
        joined = subst (λ v. AreJoined v.items) (sym w.pieces-is) w.add_cents.ensures.joined;
        few = omega (arith, ap vec_len w.pieces-is);
        sum = omega (arith, ap (λ v. sum_by (λ p. p.cents) v.items) w.pieces-is);
        capacity = omega (arith, ap vec_capacity w.pieces-is);
      }
      | else-stays w ↦ record {
        line = ap (λ v. line_of v.items) w.pieces-is
            ∙ goes_step kept c.span-item.result.cents c.span-item.result.right before (line_of_spans (take (c.loop-span.span-index + 1) c.args.spans.now)) (line_of c.loop-span.pieces.items)
            (sym c.stays.ensures ∙ w.if-stays.false) further c.loop-span.invariant.line;
        joined = subst (λ v. AreJoined v.items) (sym w.pieces-is) c.loop-span.invariant.joined;
        few = omega (arith, ap vec_len w.pieces-is);
        sum = omega (arith, ap (λ v. sum_by (λ p. p.cents) v.items) w.pieces-is);
        capacity = omega (arith, ap vec_capacity w.pieces-is);
      }
    ]
