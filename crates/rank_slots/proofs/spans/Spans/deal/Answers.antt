-- The next span of the chain is dealt.
use Rattle.std.proofs.Common.{◌<◌, ap, arith, length, refl, ◌∙◌}
use Rattle.rank_slots.specs.inner.SpanLists.{lists_of}
use Rattle.rank_slots.specs.inner.Spans.{link_at}
use Rattle.rank_slots.proofs.DealSteps.{deals_step, dealt_heads, few_step, leaves_step, nearer_step, to_deal}
use Rattle.rank_slots.proofs.spans.Spans.deal.Goals as goal

pub loop-next-init : goal.loop-next-init
loop-next-init c = record {
  dealing = λ whole chain. to_deal (lists_of c.args.self.now) c.args.swap.now c.args.recede c.args.rise c.args.cents c.args.joined whole c.requires.recede_none c.requires.rise_none chain;
  thirds = λ whole test head xs deal own none chain. chain;
  heads = λ place one other. refl;
  few = omega arith;
  unsplit = λ some. refl;
  as_many = c.requires.as_many;
  as_many_heads = refl;
  capacity = refl;
  link_capacity = refl;
  head_capacity = refl;
}

pub loop-next-smaller : goal.loop-next-smaller
loop-next-smaller c =
    let before = c.loop-next.invariant in
    nearer_step (lists_of c.loop-next.self) (lists_of c.deal_span-left.new.self) c.args.swap.now c.args.recede c.args.rise c.in-Some.number c.loop-next.left _ _ c.loop-next.next c.index-next.result.now
    c.requires.chain.0 before.as_many c.in-Some.is c.index-next.ensures c.deal_span-left.ensures.lists (before.dealing c.requires.chain.0 c.requires.chain.1)

pub loop-next-preserved : goal.loop-next-preserved
loop-next-preserved c =
    let before = c.loop-next.invariant in
    let a = lists_of c.loop-next.self in
    let b = lists_of c.deal_span-left.new.self in
    let s = c.args.swap.now in
    let recede_within : c.args.recede < length c.loop-next.self.heads.items = omega (arith, before.as_many_heads, c.requires.recede) in
    let rise_within : c.args.rise < length c.loop-next.self.heads.items = omega (arith, before.as_many_heads, c.requires.rise) in
    record {
      dealing = λ whole chain.
          deals_step a b s c.args.recede c.args.rise c.in-Some.number c.loop-next.left c.deal_span-left.result _ _ c.loop-next.next c.index-next.result.now whole
          c.requires.differ c.requires.two recede_within rise_within before.as_many c.in-Some.is c.index-next.ensures c.deal_span-left.ensures.left c.deal_span-left.ensures.lists (before.dealing whole chain);
      thirds = λ whole test head xs deal own none chain.
          leaves_step a b s c.args.recede c.args.rise c.in-Some.number c.loop-next.left _ _ c.loop-next.next whole before.as_many c.in-Some.is c.deal_span-left.ensures.lists (before.dealing whole deal) test head xs own none
          (before.thirds whole test head xs deal own none chain);
      heads = λ place one other. ap (λ d. link_at d.heads place) c.deal_span-left.ensures.lists ∙ dealt_heads a s c.args.recede c.args.rise c.in-Some.number c.loop-next.left place one other ∙ before.heads place one other;
      few = few_step c.loop-next.left _ _ _ before.few before.unsplit c.deal_span-left.ensures.few c.deal_span-left.ensures.unsplit;
      unsplit = λ more. let left = c.deal_span-left.ensures.left in c.deal_span-left.ensures.unsplit_yet more ∙ before.unsplit (omega (arith, left, more));
      as_many = c.deal_span-left.ensures.as_many;
      as_many_heads = c.deal_span-left.ensures.as_many_heads ∙ before.as_many_heads;
      capacity = c.deal_span-left.ensures.capacity ∙ before.capacity;
      link_capacity = c.deal_span-left.ensures.link_capacity ∙ before.link_capacity;
      head_capacity = c.deal_span-left.ensures.head_capacity ∙ before.head_capacity;
    }
