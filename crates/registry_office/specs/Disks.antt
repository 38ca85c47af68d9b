-- The disk in a run: what its file stood for, what a stop leaves of it, and which of its bytes are written.
-- Why so: docs/DECISIONS.md, "What an early end leaves is said of the files that the run adds".
use Rattle.std.specs.Prelude.{◌≡◌, ◌⊎◌, ℕ, ◌+◌, Bool, true, false, List}
use Rattle.gb_outside.specs.Images.{Only, Torn, LeavesOnly}
use Rattle.act_model.specs.declared.receipts.Receipt.{Receipt}
use Rattle.journal_disk.specs.Layout.{the_heading, IsForeign, IsMade, IsUnmade, made_from}
use Rattle.receipt_journal.specs.Standing.{StandsForJournal, IsBadBehind, gate_after}
use Rattle.intake.specs.Grown.{GrownFrom, WritesFrames}
use Rattle.registry_office.specs.Statuses.{disk_fault, tells_of_opening}
use Rattle.registry_office.specs.declared.statuses.Status.{Status}
use Rattle.registry_office.specs.declared.statuses.Status.TheVariants as status

-- the file stood for some journal
abbrev pub IsJournalFile : List ℕ → Type 0
IsJournalFile file = (journal : List Receipt) × StandsForJournal file journal

-- what a status says of the file that was found
abbrev pub FindsBy : List ℕ → Status → Type 0
FindsBy file status.Ok = IsJournalFile file
FindsBy file status.Usage = Unit {0}
FindsBy file status.ReadFault = IsJournalFile file
FindsBy file status.WriteFault = IsJournalFile file
FindsBy file status.DiskFault = Unit {0}
FindsBy file status.Memory = Unit {0}
FindsBy file status.NotJournal = IsForeign the_heading file
FindsBy file (status.BadRecord at) = (journal : List Receipt) × IsBadBehind file journal × (at ≡ gate_after journal)
FindsBy file status.InputTooLong = IsJournalFile file
FindsBy file status.DoorFault = IsJournalFile file

-- with a status that tells of the opening the file is made; an unmade one is made with each status but that of a disk that failed
abbrev pub LeavesMade : Status → List ℕ → List ℕ → Type 0
LeavesMade result file new = (tells_of_opening result ≡ true) ⊎ ((disk_fault result ≡ false) × IsUnmade file) → IsMade the_heading new

-- the files that a stop leaves; where the disk failed, but for those that it might have left before
abbrev pub LeftNewly : Bool → (List ℕ → Type 0) → (List ℕ → Type 0) → List ℕ → Type 0
LeftNewly true before now file = now file × (before file → ⊥)
LeftNewly false before now file = now file

-- First a sync: until it is done a stop leaves what it might have left before, and from then on a file of this kind.
pub record LeavesSynced {D : Type 0} (reads : D → List ℕ) (images : D → List ℕ → Type 0) (moment : D → ℕ) (since : D → ℕ → List ℕ → Type 0) (old new : D) (left : List ℕ → Type 0) : Type 0 where
  pub synced : D
  pub until : LeavesOnly moment since old synced (images old)
  pub only : Only (reads old) (images synced)
  pub then : LeavesOnly moment since synced new left

-- `LeavesSynced`, with a journal that has grown from the first of these two to the second, or part of the way
abbrev pub GrowsSynced : {D : Type 0} → (D → List ℕ) → (D → List ℕ → Type 0) → (D → ℕ) → (D → ℕ → List ℕ → Type 0) → D → D → List Receipt → List Receipt → Type 0
GrowsSynced reads images moment since old new from to = LeavesSynced reads images moment since old new (GrownFrom from to)

-- the sync of `LeavesSynced` was done; or, where the disk failed, perhaps not, and then a stop leaves what it might have left before
abbrev pub KeepsSynced : {D : Type 0} → (D → List ℕ) → (D → List ℕ → Type 0) → (D → ℕ) → (D → ℕ → List ℕ → Type 0) → D → D → Bool → (List ℕ → Type 0) → Type 0
KeepsSynced reads images moment since old new true left = LeavesOnly moment since old new (images old) ⊎ LeavesSynced reads images moment since old new left
KeepsSynced reads images moment since old new false left = LeavesSynced reads images moment since old new left

-- `KeepsSynced`, with a journal that has grown from the first of these two to the second, or part of the way
abbrev pub KeepsGrown : {D : Type 0} → (D → List ℕ) → (D → List ℕ → Type 0) → (D → ℕ) → (D → ℕ → List ℕ → Type 0) → D → D → Bool → List Receipt → List Receipt → Type 0
KeepsGrown reads images moment since old new failed from to = KeepsSynced reads images moment since old new failed (GrownFrom from to)

-- What is written of a file that stood for the first of these journals, while it grows to the second or part of the way: the frames between the two. An unmade file is made before; where the disk failed, any byte up to the last of these gates may be written.
pub record WritesBehind (failed : Bool) (from to : List Receipt) (file new : List ℕ) : Type 0 where
  pub frames : (IsUnmade file → ⊥) → WritesFrames from to file new
  pub made : IsUnmade file → failed ≡ false → WritesFrames from to (made_from the_heading file) new
  pub unmade : IsUnmade file → Torn 0 (gate_after to + 1) file new
