-- What is added so far, the sum in hand and what is left of the list are the whole.
use Rattle.std.proofs.Common.{◌≡◌, ◌+◌, ◌||◌, drop}
use Rattle.std.specs.Prelude.{is_some}
use Rattle.std.specs.BTreeMap.{get}
use Rattle.gb_base.specs.Keys.{key_cmp, same_key}
use Rattle.gb_base.specs.declared.keys.Key.{Key}
use Rattle.desk_pool.specs.inner.KeyRooms.{room_in}
use Rattle.desk_pool.specs.inner.RoomsCounted.{is_listed, room_if, sum_at}
use Rattle.desk_pool.proofs.key_rooms.add_from.Given as goal

abbrev pub invariant-loop-next : goal.invariant-loop-next
invariant-loop-next l = record {
  room : (k : Key) → room_in l.rooms k + room_if l.key l.sum k + sum_at (drop l.next-index l.rest) k ≡ room_in l.fn.rooms k + room_if l.fn.first l.fn.room k + sum_at l.rest k;
  keys : (k : Key) → (is_some (get key_cmp l.rooms k) || (same_key l.key k || is_listed (drop l.next-index l.rest) k)) ≡ (is_some (get key_cmp l.fn.rooms k) || (same_key l.fn.first k || is_listed l.rest k));
}
