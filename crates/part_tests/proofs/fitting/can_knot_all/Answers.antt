-- Each knot passes.
use Rattle.std.proofs.Common.{rules, tests}
use Rattle.std.proofs.lemmas.Iterator.{cases_from_all, YieldsList-from_slice}
use Rattle.rank_slots.specs.CanFill.{CanKnot}
use Rattle.part_tests.proofs.FillTests.{all_if_true}
use Rattle.part_tests.proofs.fitting.can_knot_all.Goals as goal

pub returns : goal.returns
returns c =
    all_if_true (CanKnot c.args.places.now c.args.swaps.now) _ c.all.result c.args.knots.now
    (cases_from_all _ _ _ (CanKnot c.args.places.now c.args.swaps.now) (λ _. Unit {0}) c.all.ensures.ran (YieldsList-from_slice c.args.knots.now cc) (λ x q k. search (rules, tests)) (λ x q k. tt))
