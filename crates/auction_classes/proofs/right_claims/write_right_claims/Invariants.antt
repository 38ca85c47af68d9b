-- The rights of class 4 so far.
use Rattle.std.proofs.Common.{[], vec_capacity, vec_len}
use Rattle.auction_classes.specs.SaleClaims.{of_class_four}
use Rattle.auction_classes.proofs.ClaimsAdded.{AreAdded}
use Rattle.auction_classes.proofs.right_claims.write_right_claims.Given as goal

abbrev pub invariant-loop-right : goal.invariant-loop-right
invariant-loop-right l =
    AreAdded of_class_four 1 l.rights l.right-index [] l.list.items 0 (vec_len l.list) (vec_capacity l.fn.list) (vec_capacity l.list)
