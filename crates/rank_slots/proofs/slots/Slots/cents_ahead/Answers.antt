use Rattle.std.proofs.Common.{◌∙◌, ap, subst}
use Rattle.rank_slots.specs.Filled.{SlotsState}
use Rattle.rank_slots.specs.Groups.{group_of}
use Rattle.rank_slots.specs.Payments.{cents_ahead}
use Rattle.rank_slots.specs.inner.Pieces.{line_of}
use Rattle.rank_slots.specs.inner.Slots.{IsFilled}
use Rattle.rank_slots.proofs.slots.Slots.cents_ahead.Goals as goal

pub returns-clause-value : goal.returns-clause-value
returns-clause-value c =
    let is : IsFilled c.args.self.now.filled c.self.inside.pieces.items = subst (λ s. IsFilled s.filled c.self.inside.pieces.items) c.self.view_is c.self.invariant.0 in
    let places = c.deref-2.ensures.value ∙ ap (λ (s : SlotsState). s.filled.places) c.self.view_is in
    let group = c.group_of.ensures ∙ ap (λ ps. group_of ps c.args.right) places in
    let whole = ap line_of c.deref.ensures.value ∙ is.line in
    c.cents_ahead.ensures.value ∙ (λ i. cents_ahead (group i) (whole i))
