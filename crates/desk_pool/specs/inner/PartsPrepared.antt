-- Parts with room, as a round prepares them.
use Rattle.std.specs.Prelude.{◌≡◌, ℕ, ◌≤◌, Bool, ◌&&◌, List, [], All, IsTrue, is_some, map}
use Rattle.std.specs.BTreeMap.{BTreeMap, get}
use Rattle.gb_base.specs.Keys.{key_cmp}
use Rattle.gb_base.specs.declared.keys.Key.{Key}
use Rattle.desk_pool.specs.declared.folio_parts.KeyRoom.{KeyRoom}
use Rattle.desk_pool.specs.inner.KeyRooms.{room_in}
use Rattle.folio_sections.specs.Held.{entries_at, is_given, is_held, room_at}
use Rattle.folio_sections.specs.PartState.{PartState}

-- an entry of the map as a key with its room
abbrev pub room_of_entry : Key × ℕ → KeyRoom
room_of_entry e = record { key = e.0; room = e.1 }

-- The list has those keys of the map that pass a test, each with its room.
pub record AreRoomsAt (rooms : BTreeMap Key ℕ) (wanted : Key → Bool) (list : List KeyRoom) : Type 0 where
  pub keys : (k : Key) → is_given (map (λ r. r.key) list) k ≡ (wanted k && is_some (get key_cmp rooms k))
  pub rooms_are : All (λ r. room_in rooms r.key ≡ r.room) list

-- There are empty parts at those keys of the map that pass a test, each with its room.
pub record ArePartsFor (rooms : BTreeMap Key ℕ) (wanted : Key → Bool) (parts : List PartState) : Type 0 where
  pub held : (k : Key) → is_held parts k ≡ (wanted k && is_some (get key_cmp rooms k))
  pub empty : (k : Key) → entries_at parts k ≡ []
  pub room : (k : Key) → IsTrue (is_held parts k) → room_in rooms k ≤ room_at parts k
