-- What stays of the spans so far.
use Rattle.std.proofs.Common.{◌≡◌, ◌≤◌, filter, not, sum_by, take, vec_capacity, vec_len}
use Rattle.rank_slots.specs.CentLine.{is_dropped}
use Rattle.rank_slots.specs.inner.Pieces.{AreJoined, line_of}
use Rattle.rank_slots.specs.inner.Spans.{line_of_spans}
use Rattle.rank_slots.proofs.cutting.write_line.Given as goal

abbrev pub invariant-loop-span : goal.invariant-loop-span
invariant-loop-span l = record {
  line : line_of l.pieces.items ≡ filter (λ c. not (is_dropped l.places c)) (line_of_spans (take l.span-index l.spans));
  joined : AreJoined l.pieces.items;
  few : vec_len l.pieces ≤ l.span-index;
  sum : sum_by (λ p. p.cents) l.pieces.items ≤ sum_by (λ x. x.cents) (take l.span-index l.spans);
  capacity : vec_capacity l.pieces ≡ vec_capacity l.fn.pieces;
}
