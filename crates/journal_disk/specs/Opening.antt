-- Opening a journal.
use Rattle.std.specs.Prelude.{◌≡◌, ◌⊎◌, ℕ, Bool, true, false, List, Result, Ok, Err, All}
use Rattle.gb_outside.specs.Images.{Only, LeavesOnly}
use Rattle.journal_disk.specs.LogState.{LogState}
use Rattle.journal_disk.specs.FrameAt.{FrameAt}
use Rattle.journal_disk.specs.Standing as standing
use Rattle.journal_disk.specs.Layout.{the_heading, IsBody, IsUnmade, HasStanding, StandsFor, first_gate, end_of, frames_from, made_from}
use Rattle.journal_disk.specs.Appending.{StandsOn}
use Rattle.journal_disk.specs.declared.faults.OpenFault.{OpenFault}
use Rattle.journal_disk.specs.declared.faults.OpenFault.TheVariants.{Disk, NotJournal, BadRecord, Memory}

-- whether an opening answers that the disk failed
abbrev pub opening_disk_failed : {A : Type 0} → Result A OpenFault → Bool
opening_disk_failed (Ok opened) = false
opening_disk_failed (Err Disk) = true
opening_disk_failed (Err NotJournal) = false
opening_disk_failed (Err (BadRecord at ahead)) = false
opening_disk_failed (Err Memory) = false

-- Frames one after the other from the first gate on, and the gate after them.
pub record AreFramesTo (heading : List ℕ) (frames : List FrameAt) (gate : ℕ) : Type 0 where
  pub bodies : List (List ℕ)
  pub sizes : All IsBody bodies
  pub frames_are : frames ≡ frames_from (first_gate heading) bodies
  pub ends : gate ≡ end_of heading bodies

-- the frames before a bad gate stand one after the other, and that gate after them
abbrev pub HasFramesAhead : List ℕ → OpenFault → Type 0
HasFramesAhead heading Disk = Unit {0}
HasFramesAhead heading NotJournal = Unit {0}
HasFramesAhead heading (BadRecord at ahead) = AreFramesTo heading ahead.items at
HasFramesAhead heading Memory = Unit {0}

-- The file stood for the frames that the opening gives, and the log works and stands on the disk with them.
pub record LogOpens (heading file : List ℕ) (log : LogState) (frames : List FrameAt) (reads : List ℕ) (images : List ℕ → Type 0) : Type 0 where
  pub bodies : List (List ℕ)
  pub found : StandsFor heading file bodies
  pub frames_are : frames ≡ frames_from (first_gate heading) bodies
  pub stands : StandsOn heading log.gate bodies reads images

-- a fault says the standing of the file that was found, and with a bad one the frames before the bad gate
abbrev pub LogRefuses : List ℕ → List ℕ → OpenFault → Type 0
LogRefuses heading file NotJournal = HasStanding heading file standing.Foreign
LogRefuses heading file (BadRecord at ahead) = (bad : HasStanding heading file (standing.Bad at)) × (ahead.items ≡ frames_from (first_gate heading) bad.0)
LogRefuses heading file Disk = Unit {0}
LogRefuses heading file Memory = Unit {0}

-- A file that is not unmade stays as it is, and each file stands for the same frames as before.
pub record IsKept (file c : List ℕ) : Type 0 where
  pub same : (IsUnmade file → ⊥) → c ≡ file
  pub frames : (bodies : List (List ℕ)) → StandsFor the_heading file bodies → StandsFor the_heading c bodies

-- An opening makes an unmade file, unless a call of the disk failed in it.
abbrev pub MakesUnmade : Bool → List ℕ → List ℕ → Type 0
MakesUnmade failed file new = failed ≡ false → IsUnmade file → new ≡ made_from the_heading file

-- A sync comes before every write, though reads may come before it. Until it is done a stop leaves what it might have left before; from then on the file is kept.
pub record SyncsFirst {D : Type 0} (reads : D → List ℕ) (images : D → List ℕ → Type 0) (moment : D → ℕ) (since : D → ℕ → List ℕ → Type 0) (old new : D) : Type 0 where
  pub synced : D
  pub until : LeavesOnly moment since old synced (images old)
  pub same : reads synced ≡ reads old
  pub only : Only (reads old) (images synced)
  pub then : LeavesOnly moment since synced new (IsKept (reads old))

-- A sync was done before the answer, and all that follows it keeps the file. Only where the disk failed may it be that the sync was not done.
abbrev pub AnswersSynced : {D : Type 0} → (D → List ℕ) → (D → List ℕ → Type 0) → (D → ℕ) → (D → ℕ → List ℕ → Type 0) → D → D → Bool → Type 0
AnswersSynced reads images moment since old new true = LeavesOnly moment since old new (images old) ⊎ SyncsFirst reads images moment since old new
AnswersSynced reads images moment since old new false = SyncsFirst reads images moment since old new
