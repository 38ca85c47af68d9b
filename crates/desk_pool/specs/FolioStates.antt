-- What lies behind the lock of a folio.
use Rattle.std.specs.Prelude.{◌≡◌, ℕ, ◌+◌, ◌-◌, ◌≤◌, List, length, Bool, IsTrue, Option, Some, None}
use Rattle.gb_base.specs.declared.keys.Key.{Key}
use Rattle.act_model.specs.Receiving.{IsJournal}
use Rattle.act_model.specs.declared.receipts.Receipt.{Receipt}
use Rattle.folio_sections.specs.Entries.{at}
use Rattle.folio_sections.specs.Held.{entries_at, is_held, room_at}
use Rattle.folio_sections.specs.PartState.{PartState}
use Rattle.folio_sections.specs.declared.entries.Entry.{Entry}
use Rattle.desk_pool.specs.FolioQueues.{is_key_of, last_taken, queue_of, touches_folio}
use Rattle.desk_pool.specs.RoundRooms.{room_of_first}
use Rattle.registrar.specs.HasSettled.{settled_first}
use Rattle.registrar.specs.Rooms.{HasItsScratch}
use Rattle.sale_rules.specs.ScratchRoom.{ScratchRoom}

-- the folio, how many of its items are settled, its parts, and the room of the scratch in which the lowest bids of its sales are computed
pub record FolioState : Type 0 where
  pub folio : ℕ
  pub taken : ℕ
  pub parts : List PartState
  pub scratch : ScratchRoom

-- the room of a folio's own scratch; a folio without one has no room
abbrev pub scratch_of : Option ScratchRoom → ScratchRoom
scratch_of (Some scratch) = scratch
scratch_of None = record { rights = 0; exchanges = 0; capacity = 0 }

-- each key that is held has the entries that the one registrar leaves there after the first n items
abbrev pub StandsAt : List Receipt → ℕ → (Key → Bool) → (Key → List Entry) → Type 0
StandsAt journal n holds stands = (k : Key) → IsTrue (holds k) → stands k ≡ at (settled_first journal n).entries k

-- each key that is held has place for all that the journal's items enter there
abbrev pub HasAllRoom : List Receipt → (Key → Bool) → (Key → List Entry) → (Key → ℕ) → Type 0
HasAllRoom journal holds stands room = (k : Key) → IsTrue (holds k) → room_of_first journal (length journal) k ≤ length (stands k) + room k

-- the scratch has room for each item that touches the folio
abbrev pub HasAllScratch : List Receipt → ℕ → ScratchRoom → Type 0
HasAllScratch journal folio scratch =
    (i : ℕ) → IsTrue (touches_folio journal folio i) → HasItsScratch journal i (at (settled_first journal (i - 1)).entries) scratch

-- The folio's parts are at its keys, and say what the one registrar leaves there after the last of the folio's items that are settled.
pub record IsBehindLock (journal : List Receipt) (s : FolioState) : Type 0 where
  pub numbered : IsJournal journal
  pub held : (k : Key) → is_held s.parts k ≡ is_key_of journal s.folio k
  pub stands : StandsAt journal (last_taken (queue_of journal s.folio) s.taken) (is_held s.parts) (entries_at s.parts)
  pub room : HasAllRoom journal (is_held s.parts) (entries_at s.parts) (room_at s.parts)
  pub scratch : HasAllScratch journal s.folio s.scratch
