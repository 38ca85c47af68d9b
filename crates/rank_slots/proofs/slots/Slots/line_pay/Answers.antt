-- A right that stands alone gets its own cents, which its chain has.
use Rattle.std.proofs.Common.{◌≡◌, ◌<◌, [], ap, drop, length, subst, take, ◌∙◌}
use Rattle.std.specs.List.{position_or_len}
use Rattle.rank_slots.specs.Filled.{SlotsState}
use Rattle.rank_slots.specs.Groups.{group_of, is_of}
use Rattle.rank_slots.specs.inner.SpanLists.{lists_of}
use Rattle.rank_slots.specs.inner.Slots.{IsFilled}
use Rattle.rank_slots.specs.inner.Spans.{is_span_of, last_first, spans_of}
use Rattle.rank_slots.proofs.ChainCents.{lone_chain, lone_pays}
use Rattle.rank_slots.proofs.slots.Slots.line_pay.Goals as goal

pub cents_within-requires-clause-walk : goal.cents_within-requires-clause-walk
cents_within-requires-clause-walk c =
    let n = c.in-Some.number in
    let pieces = c.self.inside.pieces.items in
    let places = c.deref.ensures.value in (
      last_first (is_span_of c.args.right) [] (spans_of 0 pieces),
      lone_chain (lists_of c.self.inside.chains) c.self.inside.places.items pieces c.args.right n c.self.invariant.5 c.self.invariant.0.joined c.self.invariant.0.sum
          (subst (λ ps. n < length ps) places (c.in-Some.ensures.within)) (c.in-Some.ensures.value ∙ ap (position_or_len (is_of c.args.right)) places),
    )

pub returns-in-Some-clause-value : goal.returns-in-Some-clause-value
returns-in-Some-clause-value c =
    let n = c.in-Some.number in
    let r = c.args.right in
    let pieces = c.self.inside.pieces.items in
    let places = c.deref.ensures.value in
    let is : IsFilled c.args.self.now.filled pieces = subst (λ s. IsFilled s.filled pieces) c.self.view_is c.self.invariant.0 in
    let own = places ∙ ap (λ (s : SlotsState). s.filled.places) c.self.view_is in
    let walk = lone_chain (lists_of c.self.inside.chains) c.self.inside.places.items pieces r n c.self.invariant.5 c.self.invariant.0.joined c.self.invariant.0.sum
    (subst (λ ps. n < length ps) places c.in-Some.ensures.within) (c.in-Some.ensures.value ∙ ap (position_or_len (is_of r)) places) in
    lone_pays c.args.self.now.filled pieces r c.args.t n c.cents_within.result is.line (subst (λ ps. n < length ps) own c.in-Some.ensures.within)
    (subst (λ ps. group_of ps r ≡ take 1 (drop n ps)) own c.in-Some.ensures.group) (c.cents_within.ensures.value (last_first (is_span_of r) [] (spans_of 0 pieces)) walk)
