-- One more class is written, or it has none of the claims.
use Rattle.std.proofs.Common.{◌-◌, ◌+◌, flat_map, length, vec_capacity, vec_len, sym, subst, arith}
use Rattle.std.specs.List.{range_with_len}
use Rattle.auction_classes.specs.Claims.{by_class, of_class}
use Rattle.auction_classes.proofs.OrderedClaims.{AreBeingWritten, classes_left, more_written, none_left, room_left}
use Rattle.auction_classes.proofs.claim_rows.add_by_class.Goals.{else-len-claims, then-len-claims}
use Rattle.auction_classes.proofs.claim_rows.add_by_class.Goals as goal

pub add_class-requires : goal.add_class-requires
add_class-requires c =
    let parts = classes_left (of_class c.args.late c.args.claims.now) c.loop-class.class (omega (arith, c.loop-class-test.true)) in
    record { room = room_left _ _ _ _ _ _ _ _ _ _ parts c.loop-class.invariant c.requires.room }

pub loop-class-preserved : goal.loop-class-preserved
loop-class-preserved c =
    let claims = c.args.claims.now in
    let start = c.args.ordered.now in
    let class = c.loop-class.class in
    let whole = by_class c.args.late claims in
    let rest = flat_map (of_class c.args.late claims) (range_with_len (class + 1) (9 - (class + 1))) in
    let parts = classes_left (of_class c.args.late claims) class (omega (arith, c.loop-class-test.true)) in
    elim c.if-len-claims.branch [
      | then-len-claims w ↦
          subst (λ v. AreBeingWritten start.items whole v.items rest (vec_len start) (vec_len v) (vec_capacity start) (vec_capacity v)) (sym w.ordered-is)
          (more_written _ _ _ _ _ _ _ _ _ _ _ _ _ parts c.loop-class.invariant w.add_class.ensures.claims w.add_class.ensures.len w.add_class.ensures.capacity)
      | else-len-claims w ↦
          subst (λ v. AreBeingWritten start.items whole v.items rest (vec_len start) (vec_len v) (vec_capacity start) (vec_capacity v)) (sym w.ordered-is)
          (none_left _ _ _ _ _ _ _ _ _ _ (length claims) parts c.loop-class.invariant c.requires.few (omega (arith, w.if-len-claims.false, c.len.ensures)))
    ]
