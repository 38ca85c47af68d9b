-- The claims so far fit.
use Rattle.std.proofs.Common.{◌≡◌, ◌<◌, sum_by, take}
use Rattle.gb_base.specs.Limits.{most_sum}
use Rattle.part_tests.proofs.fitting.claims_fit.Given as goal

abbrev pub invariant-loop-place : goal.invariant-loop-place
invariant-loop-place l = record {
  sum : l.sum ≡ sum_by (λ p. p.claim) (take l.place-index l.places);
  fits : l.sum < most_sum;
}
