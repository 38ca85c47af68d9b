-- One more is looked at.
use Rattle.auction_classes.proofs.OrderedClaims.{claims_left, more_written, room_left}
use Rattle.auction_classes.proofs.claim_rows.add_class.Goals as goal

pub add_of_class-requires : goal.add_of_class-requires
add_of_class-requires c =
    let parts = claims_left c.args.late c.args.class c.args.claims.now c.loop-claim.claim-index c.claim-item.result c.loop-claim-test.true c.claim-item.is in
    record { room = room_left _ _ _ _ _ _ _ _ _ _ parts c.loop-claim.invariant c.requires.room }

pub loop-claim-preserved : goal.loop-claim-preserved
loop-claim-preserved c =
    let parts = claims_left c.args.late c.args.class c.args.claims.now c.loop-claim.claim-index c.claim-item.result c.loop-claim-test.true c.claim-item.is in
    more_written _ _ _ _ _ _ _ _ _ _ _ _ _ parts c.loop-claim.invariant c.add_of_class.ensures.claims c.add_of_class.ensures.len c.add_of_class.ensures.capacity
