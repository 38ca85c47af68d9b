-- All claims are cut.
use Rattle.std.proofs.Common.{◌≡◌, ◌<◌, ◌++◌, ap, arith, length, subst, sym, ◌∙◌}
use Rattle.std.proofs.lemmas.List.{append-nil, drop_all}
use Rattle.rank_slots.specs.inner.SpanLists.{lists_of}
use Rattle.rank_slots.specs.inner.Spans.{claimed_spans}
use Rattle.rank_slots.proofs.ClaimedSpans.{claimed_in_order}
use Rattle.rank_slots.proofs.spans.Spans.cut.Goals as goal

pub returns-clause-cut : goal.returns-clause-cut
returns-clause-cut c =
    let places = c.args.places.now in
    let l = c.loop-place in
    let all : l.place-index ≡ length places = omega (arith, l.auto.place-index-end, c.loop-place-test.false) in
    let none = drop_all l.place-index places c.loop-place-test.false in
    let spans = sym (append-nil l.self.spans.items) ∙ ap (λ ps. l.self.spans.items ++ claimed_spans l.from ps) (sym none) ∙ l.invariant.spans in
    claimed_in_order (lists_of l.self) places c.requires.places spans (l.invariant.as_many_links ∙ all) (l.invariant.as_many_heads ∙ all)
    (λ n within. l.invariant.links n (subst (λ k. n < k) (sym all) within)) (λ n within. l.invariant.heads n (subst (λ k. n < k) (sym all) within))
