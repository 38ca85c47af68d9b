-- What is left gives what the whole gives, with what was seized for so far.
use Rattle.std.proofs.Common.{◌≡◌, drop, sum_by, take}
use Rattle.auction_classes.specs.LowestBid.{personal_amount}
use Rattle.auction_classes.specs.inner.WholeBids.{before_served}
use Rattle.auction_classes.proofs.whole_bids.before_served.Given as goal

abbrev pub invariant-loop-seizure : goal.invariant-loop-seizure
invariant-loop-seizure l = record {
  left : before_served l.before (drop l.seizure-index l.seizures) ≡ before_served 0 l.seizures;
  amounts : l.before ≡ sum_by (λ z. personal_amount z.basis) (take l.seizure-index l.seizures);
}
