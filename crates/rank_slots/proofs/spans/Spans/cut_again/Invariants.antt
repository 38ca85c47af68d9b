-- The spans of the pieces so far, each put at the front of its place's chain.
use Rattle.std.proofs.Common.{◌≡◌, ◌++◌, drop, length, sum_by, take, vec_capacity}
use Rattle.rank_slots.specs.inner.SpanLists.{lists_of}
use Rattle.rank_slots.specs.inner.Spans.{AreChained, spans_of}
use Rattle.rank_slots.proofs.spans.Spans.cut_again.Given as goal

abbrev pub invariant-loop-piece : goal.invariant-loop-piece
invariant-loop-piece l = record {
  spans : l.self.spans.items ++ spans_of l.from (drop l.piece-index l.pieces) ≡ spans_of 0 l.pieces;
  from : l.from ≡ sum_by (λ p. p.cents) (take l.piece-index l.pieces);
  chains : AreChained (lists_of l.self) l.places;
  as_many : length l.self.spans.items ≡ l.piece-index;
  as_many_links : length l.self.links.items ≡ length l.self.spans.items;
  as_many_heads : length l.self.heads.items ≡ length l.places;
  capacity : vec_capacity l.self.spans ≡ vec_capacity l.fn.self.spans;
  link_capacity : vec_capacity l.self.links ≡ vec_capacity l.fn.self.links;
  head_capacity : vec_capacity l.self.heads ≡ vec_capacity l.fn.self.heads;
}
