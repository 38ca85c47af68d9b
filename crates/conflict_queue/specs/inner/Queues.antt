-- The queue at each key: the items that touch it, in the order of their receipts.
use Rattle.std.specs.Prelude.{◌≡◌, ℕ, List, [], filter, length, Option, Some, None, Vec}
use Rattle.std.specs.BTreeMap.{BTreeMap, get}
use Rattle.std.specs.List.{range_with_len}
use Rattle.std.specs.declared.alloc.Global.{Global}
use Rattle.gb_base.specs.Ascending.{AscendsBy}
use Rattle.gb_base.specs.Keys.{key_cmp}
use Rattle.gb_base.specs.declared.keys.Key.{Key}
use Rattle.conflict_queue.specs.Dockets.{touches_in}

-- the items of a queue, and none where there is no queue
abbrev pub items_in : Option (Vec ℕ Global) → List ℕ
items_in None = []
items_in (Some queue) = queue.items

-- the queue that stands at a key
abbrev pub queue_at : BTreeMap Key (Vec ℕ Global) → Key → List ℕ
queue_at queues k = items_in (get key_cmp queues k)

-- the items of a docket that touch the key, ascending
abbrev pub queue_of : List (List Key) → Key → List ℕ
queue_of docket k = filter (touches_in docket k) (range_with_len 1 (length docket))

-- the queues are those of the docket
abbrev pub AreQueuesOf : BTreeMap Key (Vec ℕ Global) → List (List Key) → Type 0
AreQueuesOf queues docket = (k : Key) → queue_at queues k ≡ queue_of docket k

-- the numbers ascend, and none is below a
abbrev pub Ascends : ℕ → List ℕ → Type 0
Ascends a ns = AscendsBy (λ n. n) a ns
