-- The first place is of another right than the places after it.
use Rattle.std.proofs.Common.{◌∙◌, subst, sym}
use Rattle.std.specs.List.{IsDistinct}
use Rattle.gb_base.specs.RightNo.{same_right}
use Rattle.part_tests.proofs.FillTests.{distinct_first, distinct_none}
use Rattle.part_tests.proofs.fitting.+are_distinct.Goals as goal

pub returns-in-None : goal.returns-in-None
returns-in-None t c _ = distinct_none (λ p q. same_right p.right q.right) c.args.places.now c.in-None.ensures.cases

pub returns-then-not-holds : goal.returns-then-not-holds
returns-then-not-holds t c differ =
    subst (IsDistinct (λ p q. same_right p.right q.right)) (sym c.in-Some.ensures.cases.0)
    (distinct_first c.in-Some.first.now c.in-Some.rest.now (sym c.holds.ensures ∙ c.if-not-holds.true) (c.are_distinct.ensures differ))
