-- The sum so far.
use Rattle.std.proofs.Common.{◌≡◌, sum_by, take}
use Rattle.auction_classes.specs.inner.WholeBids.{claim_in_four}
use Rattle.auction_classes.proofs.whole_bids.claimed_in_four.Given as goal

abbrev pub invariant-loop-right : goal.invariant-loop-right
invariant-loop-right l = l.cents ≡ sum_by claim_in_four (take l.right-index l.found)
