-- Each exchange passes.
use Rattle.std.proofs.Common.{rules, tests}
use Rattle.std.proofs.lemmas.Iterator.{cases_from_all, YieldsList-from_slice}
use Rattle.rank_slots.specs.CanFill.{CanSwap}
use Rattle.part_tests.proofs.FillTests.{all_if_true}
use Rattle.part_tests.proofs.fitting.can_swap_all.Goals as goal

pub returns : goal.returns
returns c =
    all_if_true (CanSwap c.args.places.now) _ c.all.result c.args.swaps.now
    (cases_from_all _ _ _ (CanSwap c.args.places.now) (λ _. Unit {0}) c.all.ensures.ran (YieldsList-from_slice c.args.swaps.now cc) (λ x q k. search (rules, tests)) (λ x q k. tt))
