-- The spans of the places so far, each the first and last of its chain.
use Rattle.std.proofs.Common.{◌≡◌, ℕ, ◌<◌, ◌++◌, None, Some, drop, length, sum_by, take, vec_capacity}
use Rattle.rank_slots.specs.inner.Spans.{claimed_spans, link_at}
use Rattle.rank_slots.proofs.spans.Spans.cut.Given as goal

abbrev pub invariant-loop-place : goal.invariant-loop-place
invariant-loop-place l = record {
  spans : l.self.spans.items ++ claimed_spans l.from (drop l.place-index l.places) ≡ claimed_spans 0 l.places;
  from : l.from ≡ sum_by (λ p. p.claim) (take l.place-index l.places);
  as_many : length l.self.spans.items ≡ l.place-index;
  as_many_links : length l.self.links.items ≡ l.place-index;
  as_many_heads : length l.self.heads.items ≡ l.place-index;
  links : (n : ℕ) → n < l.place-index → link_at l.self.links.items n ≡ None;
  heads : (n : ℕ) → n < l.place-index → link_at l.self.heads.items n ≡ Some n;
  capacity : vec_capacity l.self.spans ≡ vec_capacity l.fn.self.spans;
  link_capacity : vec_capacity l.self.links ≡ vec_capacity l.fn.self.links;
  head_capacity : vec_capacity l.self.heads ≡ vec_capacity l.fn.self.heads;
}
