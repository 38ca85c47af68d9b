-- The claims of the class so far, and those that are left.
use Rattle.std.proofs.Common.{◌≡◌, ◌++◌, drop}
use Rattle.auction_classes.specs.PayableClaims.{claims_in}
use Rattle.proceeds_split.proofs.class_claims.claims_in.Given as goal

abbrev pub invariant-loop-item : goal.invariant-loop-item
invariant-loop-item l = l.claims.items ++ claims_in l.late l.class (drop l.item-index l.items) ≡ claims_in l.late l.class l.items
