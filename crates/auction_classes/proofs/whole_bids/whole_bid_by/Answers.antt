-- The capital is no more than what is claimed.
use Rattle.auction_classes.proofs.WholeLines.{capital_within}
use Rattle.auction_classes.proofs.whole_bids.whole_bid_by.Goals as goal

pub capital_in_all-requires : goal.capital_in_all-requires
capital_in_all-requires c = capital_within c.args.found.now c.requires.four
