use Rattle.std.proofs.Common.{◌∙◌, ap, subst, arith}
use Rattle.rank_slots.specs.Filled.{SlotsState}
use Rattle.rank_slots.specs.inner.Pieces.{line_of}
use Rattle.rank_slots.specs.inner.Slots.{IsFilled}
use Rattle.rank_slots.proofs.GroupShares.{read_alone, read_group, read_pay}
use Rattle.rank_slots.proofs.slots.Slots.pay_in_group.Goals as goal

pub share_in_group-requires : goal.share_in_group-requires
share_in_group-requires c =
    let is : IsFilled c.args.self.now.filled c.self.inside.pieces.items = subst (λ s. IsFilled s.filled c.self.inside.pieces.items) c.self.view_is c.self.invariant.0 in
    let fit =
    read_group c.args.self.now.filled c.deref.result.now c.group_of-group.result.now c.args.right
    (c.deref.ensures.value ∙ ap (λ (s : SlotsState). s.filled.places) c.self.view_is) c.group_of-group.ensures is.fits.places c.requires in
    record { there = fit.there; few = fit.few; claims = fit.claims; sum = fit.sum }

pub returns-clause-value : goal.returns-clause-value
returns-clause-value c =
    let is : IsFilled c.args.self.now.filled c.self.inside.pieces.items = subst (λ s. IsFilled s.filled c.self.inside.pieces.items) c.self.view_is c.self.invariant.0 in
    read_pay c.args.self.now.filled c.deref.result.now c.group_of-group.result.now c.deref-2.result.now c.args.right c.args.t c.cents_within.result c.share_in_group.result
    (c.deref.ensures.value ∙ ap (λ (s : SlotsState). s.filled.places) c.self.view_is) c.group_of-group.ensures
    (ap line_of c.deref-2.ensures.value ∙ is.line) c.cents_within.ensures.value c.share_in_group.ensures

pub returns-clause-bound : goal.returns-clause-bound
returns-clause-bound c alone =
    let all =
    read_alone c.args.self.now.filled c.deref.result.now c.group_of-group.result.now c.args.right c.cents_within.result c.share_in_group.result
    (c.deref.ensures.value ∙ ap (λ (s : SlotsState). s.filled.places) c.self.view_is) c.group_of-group.ensures c.share_in_group.ensures alone in
    let few = c.cents_within.ensures.bound in
    omega arith
