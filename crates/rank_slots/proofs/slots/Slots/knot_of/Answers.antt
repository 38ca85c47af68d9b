use Rattle.std.proofs.Common.{rules, tests, ◌||◌, ◌∙◌, ap, subst}
use Rattle.std.proofs.lemmas.Iterator.{YieldsList-from_slice}
use Rattle.std.proofs.lemmas.Iterator.Search.{find_from_yields_List}
use Rattle.gb_base.specs.RightNo.{same_right}
use Rattle.rank_slots.specs.CanFill.{CanFill}
use Rattle.rank_slots.specs.Filled.{SlotsState}
use Rattle.rank_slots.specs.Payments.{knot_of}
use Rattle.rank_slots.proofs.slots.Slots.knot_of.Goals as goal

pub returns-clause-value : goal.returns-clause-value
returns-clause-value c =
    c.copied.ensures
    ∙ (find_from_yields_List (λ k. same_right k.reserved c.args.right || same_right k.exercised c.args.right) _ _ c.find.result c.find.ensures.ran
    (YieldsList-from_slice c.deref.result.now cc) (λ x b q k. search (rules, tests))
    ∙ ap (λ ks. knot_of ks c.args.right) (c.deref.ensures.value ∙ ap (λ (s : SlotsState). s.filled.knots) c.self.view_is))

pub returns-clause-fits : goal.returns-clause-fits
returns-clause-fits c = subst (λ s. CanFill s.filled) c.self.view_is c.self.invariant.0.fits
