-- Whatever was to be dealt is being dealt, and all other chains are as they were.
use Rattle.std.proofs.Common.{◌≡◌, ◌≢◌, ◌+◌, ◌<◌, ◌≤◌, Bool, List, Option, ℕ, false, length, true, vec_capacity}
use Rattle.std.specs.List.{AllByRecursion}
use Rattle.rank_slots.specs.declared.spans.Span.{Span}
use Rattle.rank_slots.specs.inner.SpanDeals.{IsDealing, IsToDeal, gap}
use Rattle.rank_slots.specs.inner.SpanLists.{lists_of}
use Rattle.rank_slots.specs.inner.Spans.{Linked, link_at}
use Rattle.rank_slots.proofs.spans.Spans.deal.Given as goal

abbrev pub invariant-loop-next : goal.invariant-loop-next
invariant-loop-next l = record {
  dealing : (whole : List Span) → IsToDeal (lists_of l.fn.self) l.fn.joined whole
      → IsDealing (lists_of l.self) l.swap l.recede l.rise l.next l.left (length l.fn.self.spans.items) l.cents whole;
  thirds : (whole : List Span) (test : Span → Bool) (head : Option ℕ) (xs : List Span) → IsToDeal (lists_of l.fn.self) l.fn.joined whole
      → AllByRecursion (λ x. test x ≡ true) whole → AllByRecursion (λ x. test x ≡ false) xs
      → Linked l.fn.self.spans.items l.fn.self.links.items head xs → Linked l.self.spans.items l.self.links.items head xs;
  heads : (place : ℕ) → place ≢ l.recede → place ≢ l.rise → link_at l.self.heads.items place ≡ link_at l.fn.self.heads.items place;
  few : length l.self.spans.items ≤ length l.fn.self.spans.items + 1;
  unsplit : 0 < l.left → length l.self.spans.items ≡ length l.fn.self.spans.items;
  as_many : length l.self.links.items ≡ length l.self.spans.items;
  as_many_heads : length l.self.heads.items ≡ length l.fn.self.heads.items;
  capacity : vec_capacity l.self.spans ≡ vec_capacity l.fn.self.spans;
  link_capacity : vec_capacity l.self.links ≡ vec_capacity l.fn.self.links;
  head_capacity : vec_capacity l.self.heads ≡ vec_capacity l.fn.self.heads;
}

abbrev pub decreases-loop-next : goal.decreases-loop-next
decreases-loop-next l = gap l.self.spans.items l.next
