-- The docket: the keys of each item, and from them which item was at a key before (GBO § 17).
use Rattle.std.specs.Prelude.{ℕ, ◌-◌, Bool, false, List, filter, length, map, slice_get, Option, None}
use Rattle.std.specs.List.{last_or, list_any, range_with_len}
use Rattle.std.specs.Option.{option_map_or}
use Rattle.gb_base.specs.Keys.{same_key}
use Rattle.gb_base.specs.declared.keys.Key.{Key}
use Rattle.act_model.specs.Touches.{in_key_order}
use Rattle.act_model.specs.declared.receipts.Receipt.{Receipt}
use Rattle.conflict_queue.specs.ItemKeys.{keys_of_item}

-- the keys that item i touches, in ascending order, each once
abbrev pub keys_touched : List Receipt → ℕ → List Key
keys_touched journal i = in_key_order (keys_of_item journal i)

-- the docket of a journal: the keys of each of its items
abbrev pub docket_of : List Receipt → List (List Key)
docket_of journal = map (keys_touched journal) (range_with_len 1 (length journal))

-- the key is among these
abbrev pub has_key : Key → List Key → Bool
has_key k keys = list_any (λ j. same_key j k) keys

-- item i, from 1, of a docket touches the key
abbrev pub touches_in : List (List Key) → Key → ℕ → Bool
touches_in docket k i = option_map_or (has_key k) (slice_get docket (i - 1)) false

-- the greatest item below item i of a docket that touches the key; none where there is none
abbrev pub previous_in : List (List Key) → ℕ → Key → Option ℕ
previous_in docket i k = last_or None (filter (touches_in docket k) (range_with_len 1 (i - 1)))

-- the greatest item below item i of a journal that touches the key; none where there is none
abbrev pub previous : List Receipt → ℕ → Key → Option ℕ
previous journal i k = last_or None (filter (λ n. has_key k (keys_of_item journal n)) (range_with_len 1 (i - 1)))
