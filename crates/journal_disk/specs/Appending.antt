-- A log on a disk, and what appending does to both.
use Rattle.std.specs.Prelude.{◌≡◌, ◌⊎◌, ℕ, ◌+◌, Bool, true, false, List, [], ◌∷◌, ◌++◌, Result, Ok, Err}
use Rattle.journal_disk.specs.LogState.{LogState}
use Rattle.journal_disk.specs.Layout.{frame_head, IsJournal, StandsFor, end_of}
use Rattle.journal_disk.specs.declared.faults.AppendFault.{AppendFault}
use Rattle.journal_disk.specs.declared.faults.AppendFault.TheVariants.{Disk, Full, MustReopen}

-- A log stands on a disk: what a read gives has these frames and ends them at the log's closed gate, and every image has them too.
pub record StandsOn (heading : List ℕ) (gate : ℕ) (bodies : List (List ℕ)) (reads : List ℕ) (images : List ℕ → Type 0) : Type 0 where
  pub journal : IsJournal heading reads bodies
  pub ends : gate ≡ end_of heading bodies
  pub durable : (c : List ℕ) → images c → StandsFor heading c bodies

-- the file has the frames before, or these and the new one
abbrev pub FramesWithOrWithout : List ℕ → List (List ℕ) → List ℕ → List ℕ → Type 0
FramesWithOrWithout heading bodies body c = StandsFor heading c bodies ⊎ StandsFor heading c (bodies ++ body ∷ [])

-- whether an append answers that the disk failed
abbrev pub append_failed : Result (Unit {0}) AppendFault → Bool
append_failed (Ok done) = false
append_failed (Err Disk) = true
append_failed (Err Full) = false
append_failed (Err MustReopen) = false

-- the log after appending a body of this size: it knows the new gate, or has failed, or is as it was
abbrev pub log_after : LogState → ℕ → Result (Unit {0}) AppendFault → LogState
log_after log size (Ok done) = record { failed = false; gate = log.gate + frame_head + size }
log_after log size (Err Disk) = record { failed = true; gate = log.gate }
log_after log size (Err Full) = log
log_after log size (Err MustReopen) = log
