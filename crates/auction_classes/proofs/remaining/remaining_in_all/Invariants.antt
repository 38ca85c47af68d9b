-- The sum so far, of as many as are read.
use Rattle.std.proofs.Common.{◌≡◌, ℕ, ◌*◌, ◌≤◌, sum_by, take}
use Rattle.auction_classes.specs.LowestBid.{remaining_of}
use Rattle.auction_classes.proofs.remaining.remaining_in_all.Given as goal

-- the sum, and that each added less than 2^64
pub record IsSum (cents index whole : ℕ) : Type 0 where
  pub sum : cents ≡ whole
  pub few : cents ≤ index * 18446744073709551615

abbrev pub invariant-loop-claimed : goal.invariant-loop-claimed
invariant-loop-claimed l = IsSum l.cents l.claimed-index (sum_by (remaining_of l.slots.filled l.cover) (take l.claimed-index l.rights))
