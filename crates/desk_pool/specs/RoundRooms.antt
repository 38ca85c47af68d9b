-- How much room a round keeps at each key.
use Rattle.std.specs.Prelude.{ℕ, ◌+◌, List, filter, sum_by}
use Rattle.std.specs.List.{range_with_len}
use Rattle.std.specs.Option.{option_map_or}
use Rattle.gb_base.specs.declared.keys.Key.{Key}
use Rattle.act_model.specs.Receiving.{receipt_at}
use Rattle.act_model.specs.declared.items.Item.{Item}
use Rattle.act_model.specs.declared.items.Item.TheVariants as item
use Rattle.act_model.specs.declared.receipts.Receipt.{Receipt}
use Rattle.conflict_queue.specs.Dockets.{has_key}
use Rattle.conflict_queue.specs.ItemKeys.{keys_of_item}
use Rattle.registrar.specs.Rooms.{most_brought}

-- the room that an item keeps at each key that it touches: for what it brings there itself, and, where it is a filing, for its official notice
abbrev pub room_for_item : Item → ℕ
room_for_item (item.Filing f) = most_brought + 1
room_for_item (item.Cure m docs) = most_brought
room_for_item other = 1

-- the room that receipt i keeps at each key that it touches; 0 where there is no such receipt
abbrev pub room_for : List Receipt → ℕ → ℕ
room_for journal i = option_map_or (λ r. room_for_item r.item) (receipt_at journal i) 0

-- the room that the first n items keep at a key: the sum over those items that touch it
abbrev pub room_of_first : List Receipt → ℕ → Key → ℕ
room_of_first journal n k = sum_by (room_for journal) (filter (λ i. has_key k (keys_of_item journal i)) (range_with_len 1 n))
