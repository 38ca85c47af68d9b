-- How room is counted, folio by folio.
use Rattle.std.specs.Prelude.{ℕ, ◌==◌, Bool, if◌then◌else◌, List, [], ◌∷◌, flat_map, length, sum_by}
use Rattle.std.specs.List.{list_any}
use Rattle.gb_base.specs.Keys.{folio_of_key, same_key}
use Rattle.gb_base.specs.declared.keys.Key.{Key}
use Rattle.act_model.specs.declared.receipts.Receipt.{Receipt}
use Rattle.conflict_queue.specs.Dockets.{keys_touched}
use Rattle.desk_pool.specs.RoundRooms.{room_for, room_of_first}
use Rattle.desk_pool.specs.declared.folio_parts.KeyRoom.{KeyRoom}

-- the room that key j brings at key k: so much where they are the same, else 0
abbrev pub room_if : Key → ℕ → Key → ℕ
room_if j room k = if same_key j k then room else 0

-- the room that a list has at a key: the sum over all places where the key stands
abbrev pub sum_at : List KeyRoom → Key → ℕ
sum_at list k = sum_by (λ r. room_if r.key r.room k) list

-- the key stands in the list
abbrev pub is_listed : List KeyRoom → Key → Bool
is_listed list k = list_any (λ r. same_key r.key k) list

-- those of these keys that are of the folio, each with so much room
abbrev pub keys_with_room : List Key → ℕ → ℕ → List KeyRoom
keys_with_room [] folio room = []
keys_with_room (k ∷ ks) folio room = if folio_of_key k == folio then record { key = k; room = room } ∷ keys_with_room ks folio room else keys_with_room ks folio room

-- the keys of the folio that these items touch, item by item, each with the item's room
abbrev pub rooms_of_items : List Receipt → ℕ → List ℕ → List KeyRoom
rooms_of_items journal folio items = flat_map (λ i. keys_with_room (keys_touched journal i) folio (room_for journal i)) items

-- the room that a journal's items keep at a key, where the key is of the folio
abbrev pub room_of_folio : List Receipt → ℕ → Key → ℕ
room_of_folio journal folio k = if folio_of_key k == folio then room_of_first journal (length journal) k else 0
