-- The timely claims and the late ones are no more than all.
use Rattle.std.proofs.Common.{arith}
use Rattle.auction_classes.proofs.OrderedClaims.{by_class_few}
use Rattle.auction_classes.proofs.claim_rows.write_in_order.Goals as goal

pub add_by_class-requires : goal.add_by_class-requires
add_by_class-requires c =
    let few = by_class_few c.args.claims.now in
    record {
      few = omega (arith, few, c.clear.ensures.len);
      room = omega (arith, few, c.clear.ensures.len, c.clear.ensures.capacity, c.requires.room);
    }

pub add_by_class-requires-2 : goal.add_by_class-requires-2
add_by_class-requires-2 c =
    let few = by_class_few c.args.claims.now in
    record {
      few = omega (arith, few, c.clear.ensures.len, c.add_by_class.ensures.len);
      room = omega (arith, few, c.clear.ensures.len, c.clear.ensures.capacity, c.add_by_class.ensures.len, c.add_by_class.ensures.capacity, c.requires.room);
    }

pub returns-clause-few : goal.returns-clause-few
returns-clause-few c =
    let few = by_class_few c.args.claims.now in
    omega (arith, few, c.clear.ensures.len, c.add_by_class.ensures.len, c.add_by_class-2.ensures.len)
