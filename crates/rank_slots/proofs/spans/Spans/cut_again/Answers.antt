-- One more piece is cut.
use Rattle.std.proofs.Common.{◌≡◌, ℕ, ◌+◌, ◌<◌, List, [], ◌∷◌, ◌++◌, ap, append_assoc, arith, drop, get_or, length, subst, sym, true, ◌∙◌}
use Rattle.std.specs.List.{list_any}
use Rattle.std.proofs.lemmas.List.{drop_more, length-append, length-set}
use Rattle.std.proofs.lemmas.List.Elements.{All-get_or}
use Rattle.rank_slots.specs.Groups.{is_of}
use Rattle.rank_slots.specs.declared.places.Piece.{Piece}
use Rattle.rank_slots.specs.declared.spans.Span.{Span}
use Rattle.rank_slots.specs.inner.SpanLists.{lists_of}
use Rattle.rank_slots.specs.inner.Spans.{AreChained, spans_of}
use Rattle.rank_slots.proofs.JoinedSpans.{chained_push}
use Rattle.rank_slots.proofs.Lines.{sum_so_far}
use Rattle.rank_slots.proofs.PlaceNumbers.{first_within}
use Rattle.rank_slots.proofs.spans.Spans.cut_again.Goals as goal

spans_step : (xs ys : List Span) (ps : List Piece) (i from : ℕ) (p : Piece) (whole : List Span) → i < length ps → p ≡ get_or ps i p → ys ≡ xs ++ record { from = from; cents = p.cents; right = p.right } ∷ []
    → xs ++ spans_of from (drop i ps) ≡ whole → ys ++ spans_of (from + p.cents) (drop (i + 1) ps) ≡ whole
spans_step xs ys ps i from p whole here is pushed before =
    let rest = spans_of (from + p.cents) (drop (i + 1) ps) in
    ap (λ zs. zs ++ rest) pushed
    ∙ append_assoc xs (record { from = from; cents = p.cents; right = p.right } ∷ []) rest
    ∙ ap (λ t. xs ++ t) (sym (ap (spans_of from) (drop_more ps i p here) ∙ ap (λ q. spans_of from (q ∷ drop (i + 1) ps)) (sym is)))
    ∙ before

pub push-requires-clause-place : goal.push-requires-clause-place
push-requires-clause-place c =
    let places = c.args.places.now in
    let there = subst (λ p. list_any (is_of p.right) places ≡ true) (sym c.piece-item.is)
    (All-get_or (λ p. list_any (is_of p.right) places ≡ true) c.args.pieces.now c.loop-piece.piece-index c.piece-item.result c.loop-piece-test.true c.requires.owned) in
    omega (arith, c.loop-piece.invariant.as_many_heads, c.number_of-place.ensures.value, first_within (is_of c.piece-item.result.right) places there)

pub loop-piece-preserved : goal.loop-piece-preserved
loop-piece-preserved c =
    let places = c.args.places.now in
    let before = c.loop-piece.invariant in
    let it = c.piece-item.result in
    let i = c.loop-piece.piece-index in
    let there = subst (λ p. list_any (is_of p.right) places ≡ true) (sym c.piece-item.is)
    (All-get_or (λ p. list_any (is_of p.right) places ≡ true) c.args.pieces.now i it c.loop-piece-test.true c.requires.owned) in
    record {
      spans = spans_step c.loop-piece.self.spans.items c.push.new.self.spans.items c.args.pieces.now i c.loop-piece.from it _ c.loop-piece-test.true c.piece-item.is c.push.ensures.spans before.spans;
      from = ap (λ n. n + it.cents) before.from ∙ sym (sum_so_far c.args.pieces.now i it c.loop-piece-test.true c.piece-item.is);
      chains = subst (λ a. AreChained a places) (λ j. record { spans = sym c.push.ensures.spans j; links = sym c.push.ensures.links j; heads = sym c.push.ensures.heads j })
          (chained_push (lists_of c.loop-piece.self) places (record { from = c.loop-piece.from; cents = it.cents; right = it.right }) c.number_of-place.result c.requires.places.distinct there
          c.number_of-place.ensures.value before.as_many_links before.as_many_heads before.chains);
      as_many = grind (arith, length-append, c.push.ensures.spans);
      as_many_links = grind (arith, length-append, c.push.ensures.spans, c.push.ensures.links);
      as_many_heads = ap length c.push.ensures.heads ∙ length-set c.loop-piece.self.heads.items _ _ ∙ before.as_many_heads;
      capacity = c.push.ensures.span_capacity ∙ before.capacity;
      link_capacity = c.push.ensures.link_capacity ∙ before.link_capacity;
      head_capacity = c.push.ensures.head_capacity ∙ before.head_capacity;
    }
