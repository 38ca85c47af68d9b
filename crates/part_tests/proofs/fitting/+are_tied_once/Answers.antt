-- The rights of the first knot are in none of the knots after it.
use Rattle.std.proofs.Common.{◌∙◌, subst, sym}
use Rattle.std.specs.List.{IsDistinct}
use Rattle.std.proofs.lemmas.Bool.{both_ways, not-true}
use Rattle.gb_base.specs.RightNo.{same_right}
use Rattle.rank_slots.specs.CanFill.{knotted}
use Rattle.part_tests.proofs.FillTests.{tied_first, untied_none}
use Rattle.part_tests.proofs.fitting.+are_tied_once.Goals.{then-ne, else-ne, then-not-are_tied, else-not-are_tied}
use Rattle.part_tests.proofs.fitting.+are_tied_once.Goals as goal

pub returns-in-None : goal.returns-in-None
returns-in-None t c _ = untied_none c.args.knots.now c.in-None.ensures.cases

pub returns-then-not-are_tied-2 : goal.returns-then-not-are_tied-2
returns-then-not-are_tied-2 t c once = elim c.if-not-are_tied.branch [
  | then-not-are_tied w ↦ elim c.if-ne.branch [
    | then-ne v ↦ subst (λ ks. IsDistinct same_right (knotted ks)) (sym c.in-Some.ensures.cases.0)
        (tied_first c.in-Some.first.now c.in-Some.rest.now
        (not-true _ (sym c.ne.ensures ∙ v.if-ne.true))
        (sym v.are_tied.ensures ∙ not-true _ (sym v.value-is ∙ w.if-not-are_tied.true))
        (sym w.are_tied-then-not-are_tied.ensures ∙ not-true _ (sym w.value-is ∙ c.if-not-are_tied-2.true))
        (c.are_tied_once.ensures once))
    | else-ne v ↦ absurd (both_ways _ v.if-ne.false (sym v.value-is ∙ w.if-not-are_tied.true))
  ]
  | else-not-are_tied w ↦ absurd (both_ways _ w.if-not-are_tied.false (sym w.value-is ∙ c.if-not-are_tied-2.true))
]
