-- What is counted so far, and what the queues that are left bring, are the whole.
use Rattle.std.proofs.Common.{◌≡◌, ◌+◌, ◌||◌, drop}
use Rattle.std.specs.Prelude.{is_some}
use Rattle.std.specs.BTreeMap.{get}
use Rattle.gb_base.specs.Keys.{key_cmp}
use Rattle.gb_base.specs.declared.keys.Key.{Key}
use Rattle.desk_pool.specs.inner.KeyRooms.{room_in}
use Rattle.desk_pool.proofs.FolioRooms.{is_key_of_any, room_of_folios}
use Rattle.desk_pool.proofs.key_rooms.count_rooms.Given as goal

abbrev pub invariant-loop-queue : goal.invariant-loop-queue
invariant-loop-queue l = record {
  room : (k : Key) → room_in l.rooms k + room_of_folios l.journal.receipts (drop l.queue-index l.queues) k ≡ room_of_folios l.journal.receipts l.queues k;
  keys : (k : Key) → (is_some (get key_cmp l.rooms k) || is_key_of_any l.journal.receipts (drop l.queue-index l.queues) k) ≡ is_key_of_any l.journal.receipts l.queues k;
}
