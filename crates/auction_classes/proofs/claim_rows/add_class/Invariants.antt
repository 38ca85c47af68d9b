-- What is written so far, and what is left.
use Rattle.std.proofs.Common.{drop, vec_capacity, vec_len}
use Rattle.auction_classes.specs.Claims.{of_class}
use Rattle.auction_classes.proofs.OrderedClaims.{AreBeingWritten}
use Rattle.auction_classes.proofs.claim_rows.add_class.Given as goal

abbrev pub invariant-loop-claim : goal.invariant-loop-claim
invariant-loop-claim l =
    AreBeingWritten l.fn.ordered.items (of_class l.late l.claims l.class) l.ordered.items (of_class l.late (drop l.claim-index l.claims) l.class)
    (vec_len l.fn.ordered) (vec_len l.ordered) (vec_capacity l.fn.ordered) (vec_capacity l.ordered)
