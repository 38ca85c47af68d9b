-- The next span of the chain is counted.
use Rattle.std.proofs.Common.{◌≡◌, ◌+◌, ◌<◌, None, ap, arith, length, min, subst, sym, ◌-◌, ◌∙◌}
use Rattle.std.proofs.lemmas.List.{get_or_default}
use Rattle.rank_slots.specs.declared.spans.Span.{Span}
use Rattle.rank_slots.specs.inner.Spans.{cents_within, link_at, no_span, span_at}
use Rattle.rank_slots.proofs.ChainCents.{IsWalking, next_of}
use Rattle.rank_slots.proofs.spans.Spans.cents_within.Goals as goal

pub loop-next-preserved : goal.loop-next-preserved
loop-next-preserved c = record {
  walking = λ xs can.
      let spans = c.args.self.now.spans.items in
      let links = c.args.self.now.links.items in
      let n = c.in-Some.number in
      let next = next_of spans links n c.loop-next.cents c.args.t xs (subst (λ head. IsWalking spans links head c.loop-next.cents c.args.t xs) c.in-Some.is (c.loop-next.invariant.walking xs can)) in
      let within : n < length links = omega (arith, next.within, c.requires.as_many) in
      let span : c.index-span.result.now ≡ span_at spans n = c.index-span.ensures ∙ get_or_default spans n c.index-span.result.now no_span next.within in
      let link : c.index-next-in-Some.result.now ≡ link_at links n = c.index-next-in-Some.ensures ∙ get_or_default links n c.index-next-in-Some.result.now None within in
      let paid : c.min-cents.result ≡ cents_within c.args.t (span_at spans n) =
      c.min-cents.ensures ∙ ap (λ k. min c.index-span.result.now.cents k) c.saturating_sub.ensures ∙ ap (λ (x : Span). min x.cents (c.args.t - x.from)) span in
      subst (λ head. IsWalking spans links head (c.loop-next.cents + c.min-cents.result) c.args.t xs) (sym link) (subst (λ k. IsWalking spans links (link_at links n) (c.loop-next.cents + k) c.args.t xs) (sym paid) next.goes_on);
}
