-- The queues of all folios that a journal touches.
use Rattle.std.specs.Prelude.{◌<◌, ◌==◌, ℕ, Bool, List, length, AllPairs, IsTrue}
use Rattle.std.specs.List.{list_any}
use Rattle.gb_base.specs.Keys.{folio_of_key}
use Rattle.gb_base.specs.declared.keys.Key.{Key}
use Rattle.act_model.specs.declared.receipts.Receipt.{Receipt}
use Rattle.desk_pool.specs.FolioQueues.{AreQueues}
use Rattle.desk_pool.specs.declared.folio_queues.FolioQueue.{FolioQueue}
use Rattle.folio_sections.specs.Held.{is_given}
use Rattle.registrar.specs.HeldKeys.{keys_of_first}

-- one of the queues is the folio's
abbrev pub is_queued : List FolioQueue → ℕ → Bool
is_queued queues folio = list_any (λ q. folio == q.folio) queues

-- These are the queues of their folios, with the folios ascending, and the folio of each key that an item touches is among them.
pub record AreAllQueues (journal : List Receipt) (queues : List FolioQueue) : Type 0 where
  pub own : AreQueues journal queues
  pub ascending : AllPairs (λ q later. q.folio < later.folio) queues
  pub all : (k : Key) → IsTrue (is_given (keys_of_first journal (length journal)) k) → IsTrue (is_queued queues (folio_of_key k))
