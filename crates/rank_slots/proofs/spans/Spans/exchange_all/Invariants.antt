-- The lists stand for the line after the exchanges so far.
use Rattle.std.proofs.Common.{◌≡◌, ◌+◌, ◌≤◌, List, length, take, vec_capacity}
use Rattle.gb_base.specs.RightNo.{RightNo}
use Rattle.rank_slots.specs.CentLine.{exchange_all}
use Rattle.rank_slots.specs.inner.SpanLists.{lists_of}
use Rattle.rank_slots.specs.inner.Spans.{StandFor}
use Rattle.rank_slots.proofs.spans.Spans.exchange_all.Given as goal

abbrev pub invariant-loop-swap : goal.invariant-loop-swap
invariant-loop-swap l = record {
  stand : (line : List RightNo) → StandFor (lists_of l.fn.self) l.places line → StandFor (lists_of l.self) l.places (exchange_all line (take l.swap-index l.swaps));
  few : length l.self.spans.items ≤ length l.fn.self.spans.items + l.swap-index;
  capacity : vec_capacity l.self.spans ≡ vec_capacity l.fn.self.spans;
  link_capacity : vec_capacity l.self.links ≡ vec_capacity l.fn.self.links;
  head_capacity : vec_capacity l.self.heads ≡ vec_capacity l.fn.self.heads;
  piece_capacity : vec_capacity l.pieces ≡ vec_capacity l.fn.pieces;
}
