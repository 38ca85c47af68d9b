-- What is counted so far, and what is left to count, are the whole.
use Rattle.std.proofs.Common.{List}
use Rattle.rank_slots.specs.declared.spans.Span.{Span}
use Rattle.rank_slots.specs.inner.SpanJoins.{reach}
use Rattle.rank_slots.specs.inner.Spans.{CanBeWalked, link_at}
use Rattle.rank_slots.proofs.ChainCents.{IsWalking}
use Rattle.rank_slots.proofs.spans.Spans.cents_within.Given as goal

abbrev pub invariant-loop-next : goal.invariant-loop-next
invariant-loop-next l = record {
  walking : (xs : List Span) → CanBeWalked l.self.spans.items l.self.links.items (link_at l.self.heads.items l.place) xs → IsWalking l.self.spans.items l.self.links.items l.next l.cents l.t xs;
}

abbrev pub decreases-loop-next : goal.decreases-loop-next
decreases-loop-next l = reach l.self.spans.items l.next
