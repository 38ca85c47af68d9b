-- The parts of the folios, taken from their places.
use Rattle.std.specs.Prelude.{◌≡◌, ℕ, false, List, All, AllPairs, IsTrue, length, map, Some, slice_get}
use Rattle.gb_base.specs.Keys.{same_key}
use Rattle.gb_base.specs.declared.keys.Key.{Key}
use Rattle.act_model.specs.declared.receipts.Receipt.{Receipt}
use Rattle.desk_pool.specs.FolioQueues.{is_key_of}
use Rattle.desk_pool.specs.FolioStates.{HasAllRoom}
use Rattle.desk_pool.specs.declared.folio_parts.KeyRoom.{KeyRoom}
use Rattle.desk_pool.specs.declared.folio_queues.FolioQueue.{FolioQueue}
use Rattle.folio_sections.specs.Entries.{at}
use Rattle.folio_sections.specs.Held.{entries_at, is_given, is_held, room_at}
use Rattle.folio_sections.specs.PartState.{PartState}
use Rattle.registrar.specs.HeldKeys.{keys_of_first}
use Rattle.registrar.specs.Settling.{registrar}

-- Parts at the keys of a folio, with place for all that the journal's items enter there.
pub record AreFolioParts (journal : List Receipt) (folio : ℕ) (parts : List PartState) : Type 0 where
  pub held : (k : Key) → is_held parts k ≡ is_key_of journal folio k
  pub room : HasAllRoom journal (is_held parts) (entries_at parts) (room_at parts)

-- The parts of each queue's folio are back, in the order of the queues.
pub record AllBack (journal : List Receipt) (queues : List FolioQueue) (back : List (List PartState)) : Type 0 where
  pub count : length back ≡ length queues
  pub parts_are : (place : ℕ) (queue : FolioQueue) (parts : List PartState) → slice_get queues place ≡ Some queue → slice_get back place ≡ Some parts
      → AreFolioParts journal queue.folio parts

-- each key that is held has the entries that the one registrar leaves there
abbrev pub StandsSettled : List Receipt → List PartState → Type 0
StandsSettled journal parts = (k : Key) → IsTrue (is_held parts k) → entries_at parts k ≡ at (registrar journal).entries k

-- the parts of each folio have these entries
abbrev pub AreSettled : List Receipt → List (List PartState) → Type 0
AreSettled journal back = All (StandsSettled journal) back

-- These are all keys that the items of the journal touch, each once.
pub record AreAllKeys (journal : List Receipt) (keys : List KeyRoom) : Type 0 where
  pub all : (k : Key) → is_given (map (λ w. w.key) keys) k ≡ is_given (keys_of_first journal (length journal)) k
  pub apart : AllPairs (λ w later. same_key w.key later.key ≡ false) keys
