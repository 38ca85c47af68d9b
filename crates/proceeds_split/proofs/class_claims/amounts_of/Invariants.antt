-- The amounts so far.
use Rattle.std.proofs.Common.{◌≡◌, map, take}
use Rattle.auction_classes.specs.PayableClaims.{amount_claimed}
use Rattle.proceeds_split.proofs.class_claims.amounts_of.Given as goal

abbrev pub invariant-loop-claim : goal.invariant-loop-claim
invariant-loop-claim l = l.amounts.items ≡ map amount_claimed (take l.claim-index l.claims)
