-- What is listed so far, and what the keys that are left bring, are the whole.
use Rattle.std.proofs.Common.{◌≡◌, ◌++◌, drop}
use Rattle.desk_pool.specs.inner.RoomsCounted.{keys_with_room}
use Rattle.desk_pool.proofs.key_rooms.list_keys.Given as goal

abbrev pub invariant-loop-key : goal.invariant-loop-key
invariant-loop-key l = l.touched.items ++ keys_with_room (drop l.key-index l.keys) l.folio l.room ≡ l.fn.touched.items ++ keys_with_room l.keys l.folio l.room
