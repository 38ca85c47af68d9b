use Rattle.std.proofs.Common.{◌≡◌, ◌*◌, ◌≤◌, sum_by, take}
use Rattle.gb_base.specs.declared.keys.Key.TheVariants.{Right}
use Rattle.act_model.specs.Limits.{most_receipts}
use Rattle.desk_pool.specs.inner.KeyRooms.{room_in}
use Rattle.desk_pool.proofs.sale_scratches.exchange_room.Given as goal

abbrev pub invariant-loop-right : goal.invariant-loop-right
invariant-loop-right l = record {
  sum : l.room ≡ sum_by (λ right. room_in l.rooms (Right l.folio right)) (take l.right-index l.rights);
  few : l.room ≤ (4 * most_receipts) * l.right-index;
}
