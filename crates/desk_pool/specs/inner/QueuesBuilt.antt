-- How the queues of folios are built, item by item.
use Rattle.std.specs.Prelude.{ℕ, ◌-◌, Bool, false, ◌==◌, if◌then◌else◌, List, [], ◌∷◌, ◌++◌, length, slice_get, Option, Some, None, Vec}
use Rattle.std.specs.BTreeMap.{BTreeMap, get}
use Rattle.std.specs.Option.{option_map_or}
use Rattle.std.specs.Ordering.{nat_cmp}
use Rattle.std.specs.declared.alloc.Global.{Global}
use Rattle.gb_base.specs.Keys.{folio_of_key}
use Rattle.gb_base.specs.declared.keys.Key.{Key}
use Rattle.desk_pool.specs.declared.folio_queues.FolioQueue.{FolioQueue}

-- the items of a queue, and none where there is no queue
abbrev pub items_in : Option (Vec ℕ Global) → List ℕ
items_in None = []
items_in (Some queue) = queue.items

-- the items that stand at a folio
abbrev pub items_at : BTreeMap ℕ (Vec ℕ Global) → ℕ → List ℕ
items_at items folio = items_in (get nat_cmp items folio)

-- the item is the last of these
abbrev pub is_last : ℕ → List ℕ → Bool
is_last item queue = option_map_or (λ n. n == item) (slice_get queue (length queue - 1)) false

-- the queue with the item at its end, unless it is the last already
abbrev pub with_item : ℕ → List ℕ → List ℕ
with_item item queue = if is_last item queue then queue else queue ++ item ∷ []

-- the queue of a folio with the item of these keys, key by key
abbrev pub with_item_at : List Key → ℕ → ℕ → List ℕ → List ℕ
with_item_at [] folio item queue = queue
with_item_at (k ∷ ks) folio item queue = with_item_at ks folio item (if folio_of_key k == folio then with_item item queue else queue)

-- a queue as an entry of the map
abbrev pub as_entry : FolioQueue → ℕ × Vec ℕ Global
as_entry q = (q.folio, q.items)
