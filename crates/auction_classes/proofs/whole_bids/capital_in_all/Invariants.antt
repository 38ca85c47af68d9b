-- The sum so far.
use Rattle.std.proofs.Common.{◌≡◌, sum_by, take}
use Rattle.auction_classes.specs.inner.WholeBids.{capital_in_four}
use Rattle.auction_classes.proofs.whole_bids.capital_in_all.Given as goal

abbrev pub invariant-loop-right : goal.invariant-loop-right
invariant-loop-right l = l.cents ≡ sum_by capital_in_four (take l.right-index l.found)
