-- The sum so far.
use Rattle.std.proofs.Common.{◌≡◌, sum_by, take}
use Rattle.auction_classes.specs.LowestBid.{cents_ahead}
use Rattle.auction_classes.proofs.lowest_bids.ahead_of_rights.Given as goal

abbrev pub invariant-loop-claim : goal.invariant-loop-claim
invariant-loop-claim l = l.cents ≡ sum_by cents_ahead (take l.claim-index l.items)
