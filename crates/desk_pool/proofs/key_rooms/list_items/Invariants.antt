-- What is listed so far, and what the items that are left bring, are the whole.
use Rattle.std.proofs.Common.{◌≡◌, ◌++◌, drop}
use Rattle.desk_pool.specs.inner.RoomsCounted.{rooms_of_items}
use Rattle.desk_pool.proofs.key_rooms.list_items.Given as goal

abbrev pub invariant-loop-item : goal.invariant-loop-item
invariant-loop-item l = l.touched.items ++ rooms_of_items l.journal.receipts l.queue.folio (drop l.item-index l.queue.items.items) ≡ l.fn.touched.items ++ rooms_of_items l.journal.receipts l.queue.folio l.queue.items.items
