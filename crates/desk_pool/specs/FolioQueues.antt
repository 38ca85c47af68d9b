-- The items that touch a folio, in the order of their receipts (GBO § 17).
use Rattle.std.specs.Prelude.{◌≡◌, ℕ, Bool, false, ◌==◌, ◌&&◌, List, ◌∷◌, All, filter, length, slice_get}
use Rattle.std.specs.List.{list_any, range_with_len}
use Rattle.std.specs.Option.{option_map_or}
use Rattle.gb_base.specs.Keys.{folio_of_key}
use Rattle.gb_base.specs.declared.keys.Key.{Key}
use Rattle.act_model.specs.declared.receipts.Receipt.{Receipt}
use Rattle.conflict_queue.specs.ItemKeys.{keys_of_item}
use Rattle.desk_pool.specs.declared.folio_queues.FolioQueue.{FolioQueue}
use Rattle.folio_sections.specs.Held.{is_given}
use Rattle.registrar.specs.HeldKeys.{keys_of_first}

-- one of these keys is of the folio
abbrev pub has_folio : List Key → ℕ → Bool
has_folio keys folio = list_any (λ k. folio_of_key k == folio) keys

-- the item touches a key of the folio
abbrev pub touches_folio : List Receipt → ℕ → ℕ → Bool
touches_folio journal folio i = has_folio (keys_of_item journal i) folio

-- the items that touch a key of the folio, ascending
abbrev pub queue_of : List Receipt → ℕ → List ℕ
queue_of journal folio = filter (touches_folio journal folio) (range_with_len 1 (length journal))

-- the last of the first so many of these items; 0 where none is taken yet
abbrev pub last_taken : List ℕ → ℕ → ℕ
last_taken queue taken = option_map_or (λ n. n) (slice_get (0 ∷ queue) taken) 0

-- the item is the next of the queue, where the first so many are taken
abbrev pub is_next : List ℕ → ℕ → ℕ → Bool
is_next queue taken item = option_map_or (λ n. n == item) (slice_get queue taken) false

-- the key is one of the folio's, and an item of the journal touches it
abbrev pub is_key_of : List Receipt → ℕ → Key → Bool
is_key_of journal folio k = (folio_of_key k == folio) && is_given (keys_of_first journal (length journal)) k

-- each of these queues has the items that touch its folio
abbrev pub AreQueues : List Receipt → List FolioQueue → Type 0
AreQueues journal queues = All (λ q. q.items.items ≡ queue_of journal q.folio) queues
