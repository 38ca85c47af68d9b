-- The room that a round has counted at the keys of a journal.
use Rattle.std.specs.Prelude.{◌≡◌, ℕ, List, length, is_some}
use Rattle.std.specs.BTreeMap.{BTreeMap, get}
use Rattle.std.specs.Option.{option_map_or}
use Rattle.gb_base.specs.Keys.{key_cmp}
use Rattle.gb_base.specs.declared.keys.Key.{Key}
use Rattle.act_model.specs.declared.receipts.Receipt.{Receipt}
use Rattle.desk_pool.specs.RoundRooms.{room_of_first}
use Rattle.folio_sections.specs.Held.{is_given}
use Rattle.registrar.specs.HeldKeys.{keys_of_first}

-- the room at a key; 0 where the map does not have the key
abbrev pub room_in : BTreeMap Key ℕ → Key → ℕ
room_in rooms k = option_map_or (λ n. n) (get key_cmp rooms k) 0

-- The map has exactly the keys of the first n items, each with the room that these items keep there.
pub record AreRoomsOfFirst (journal : List Receipt) (n : ℕ) (rooms : BTreeMap Key ℕ) : Type 0 where
  pub keys : (k : Key) → is_some (get key_cmp rooms k) ≡ is_given (keys_of_first journal n) k
  pub room : (k : Key) → room_in rooms k ≡ room_of_first journal n k

-- the map has the keys of all items of the journal, with their room
abbrev pub AreRooms : List Receipt → BTreeMap Key ℕ → Type 0
AreRooms journal rooms = AreRoomsOfFirst journal (length journal) rooms
