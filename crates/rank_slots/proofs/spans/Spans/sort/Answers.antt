-- The sorted spans are the row for which the lists stand.
use Rattle.std.proofs.Common.{rules, subst}
use Rattle.std.specs.List.Sorted.{IsSortedBy}
use Rattle.std.proofs.lemmas.List.Sorted.{answers_always}
use Rattle.rank_slots.specs.declared.spans.Span.{Span}
use Rattle.rank_slots.specs.inner.SpanLists.{lists_of}
use Rattle.rank_slots.proofs.SortedSpans.{key_before, sorted_row}
use Rattle.rank_slots.proofs.spans.Spans.sort.Goals as goal

pub returns-clause-row : goal.returns-clause-row
returns-clause-row c = λ places row cut.
    let xs = c.sort_unstable_by_key.new.self.items in
    let sorted = c.sort_unstable_by_key.ensures.sorted (λ (x : Span). x.from) (answers_always _ _ _ (λ f a r next called. search rules)) in
    sorted_row (lists_of c.args.self.now) places row xs cut c.sort_unstable_by_key.ensures.permutation (subst (λ lt. IsSortedBy lt xs) (λ i x y. key_before x y i) sorted)
