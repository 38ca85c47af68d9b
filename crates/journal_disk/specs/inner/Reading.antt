-- Reading the frames of a made file.
use Rattle.std.specs.Prelude.{◌≡◌, ℕ, List, Result, Ok, Err, Vec}
use Rattle.std.specs.declared.alloc.Global.{Global}
use Rattle.gb_outside.specs.Images.{NoneNew, LeavesOnly}
use Rattle.journal_disk.specs.FrameAt.{FrameAt}
use Rattle.journal_disk.specs.Standing as standing
use Rattle.journal_disk.specs.Layout.{the_heading, IsJournal, HasStanding, first_gate, end_of, frames_from}
use Rattle.journal_disk.specs.declared.faults.OpenFault.{OpenFault}
use Rattle.journal_disk.specs.declared.faults.OpenFault.TheVariants.{Disk, NotJournal, BadRecord, Memory}

-- a fault that says nothing of the file
abbrev pub IsNoVerdict : OpenFault → Type 0
IsNoVerdict Disk = Unit {0}
IsNoVerdict NotJournal = ⊥
IsNoVerdict (BadRecord at ahead) = ⊥
IsNoVerdict Memory = Unit {0}

-- The disk was only read: what a read gives is the same, and at each moment a stop leaves what it might have left before.
pub record OnlyReads {D : Type 0} (reads : D → List ℕ) (images : D → List ℕ → Type 0) (moment : D → ℕ) (since : D → ℕ → List ℕ → Type 0) (old new : D) : Type 0 where
  pub same : reads new ≡ reads old
  pub none_new : NoneNew (images old) (images new)
  pub any_moment : LeavesOnly moment since old new (images old)

-- what an answer of the reading says of a made file: the frames and the gate that ends them, or the frames before a bad gate
abbrev pub FindsFrames : List ℕ → Result (ℕ × Vec FrameAt Global) OpenFault → Type 0
FindsFrames file (Ok (gate, frames)) = (bodies : List (List ℕ)) × IsJournal the_heading file bodies × (gate ≡ end_of the_heading bodies) × (frames.items ≡ frames_from (first_gate the_heading) bodies)
FindsFrames file (Err (BadRecord at ahead)) = (bad : HasStanding the_heading file (standing.Bad at)) × (ahead.items ≡ frames_from (first_gate the_heading) bad.0)
FindsFrames file (Err NotJournal) = ⊥
FindsFrames file (Err Disk) = Unit {0}
FindsFrames file (Err Memory) = Unit {0}
