-- No chain for the places so far.
use Rattle.std.proofs.Common.{◌≡◌, None, [], replicate, vec_capacity}
use Rattle.rank_slots.proofs.spans.Spans.clear.Given as goal

abbrev pub invariant-loop-place : goal.invariant-loop-place
invariant-loop-place l = record {
  spans : l.self.spans.items ≡ [];
  links : l.self.links.items ≡ [];
  heads : l.self.heads.items ≡ replicate l._place-index None;
  capacity : vec_capacity l.self.spans ≡ vec_capacity l.fn.self.spans;
  link_capacity : vec_capacity l.self.links ≡ vec_capacity l.fn.self.links;
  head_capacity : vec_capacity l.self.heads ≡ vec_capacity l.fn.self.heads;
}
