-- Whatever was to be joined is being joined, and all other chains are as they were.
use Rattle.std.proofs.Common.{◌≡◌, ◌+◌, Bool, List, None, Option, ℕ, false, length, true, vec_capacity}
use Rattle.std.specs.List.{AllByRecursion}
use Rattle.rank_slots.specs.declared.spans.Span.{Span}
use Rattle.rank_slots.specs.inner.SpanJoins.{AreToJoin, reach}
use Rattle.rank_slots.specs.inner.Spans.{Linked, link_at}
use Rattle.rank_slots.proofs.spans.Spans.join.Given as goal

abbrev pub invariant-spans : goal.invariant-spans
invariant-spans l = record {
  joining : (whole : List Span) → AreToJoin l.fn.self.spans.items l.fn.self.links.items (link_at l.fn.self.heads.items l.one) (link_at l.fn.self.heads.items l.other) None whole
      → AreToJoin l.self.spans.items l.self.links.items l.first l.second l.joined whole;
  thirds : (whole : List Span) (test : Span → Bool) (head : Option ℕ) (xs : List Span)
      → AreToJoin l.fn.self.spans.items l.fn.self.links.items (link_at l.fn.self.heads.items l.one) (link_at l.fn.self.heads.items l.other) None whole
      → AllByRecursion (λ x. test x ≡ true) whole → AllByRecursion (λ x. test x ≡ false) xs
      → Linked l.fn.self.spans.items l.fn.self.links.items head xs → Linked l.self.spans.items l.self.links.items head xs;
  spans : l.self.spans ≡ l.fn.self.spans;
  heads : l.self.heads ≡ l.fn.self.heads;
  as_many : length l.self.links.items ≡ length l.fn.self.links.items;
  capacity : vec_capacity l.self.links ≡ vec_capacity l.fn.self.links;
}

abbrev pub decreases-spans : goal.decreases-spans
decreases-spans l = reach l.self.spans.items l.first + reach l.self.spans.items l.second
