-- The classes so far, and those that are left.
use Rattle.std.proofs.Common.{◌-◌, flat_map, vec_capacity, vec_len}
use Rattle.std.specs.List.{range_with_len}
use Rattle.auction_classes.specs.Claims.{by_class, of_class}
use Rattle.auction_classes.proofs.OrderedClaims.{AreBeingWritten}
use Rattle.auction_classes.proofs.claim_rows.add_by_class.Given as goal

abbrev pub invariant-loop-class : goal.invariant-loop-class
invariant-loop-class l =
    AreBeingWritten l.fn.ordered.items (by_class l.late l.claims) l.ordered.items (flat_map (of_class l.late l.claims) (range_with_len l.class (9 - l.class)))
    (vec_len l.fn.ordered) (vec_len l.ordered) (vec_capacity l.fn.ordered) (vec_capacity l.ordered)
