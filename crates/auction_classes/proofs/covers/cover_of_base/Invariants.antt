-- The covers of the seizures that are left are those that the whole has of them.
use Rattle.auction_classes.proofs.LeastCovers.{CoversLeft}
use Rattle.auction_classes.proofs.covers.cover_of_base.Given as goal

abbrev pub invariant-loop-seizure : goal.invariant-loop-seizure
invariant-loop-seizure l = CoversLeft l.slots.filled l.seizures l.seizure-index l.least l.before
