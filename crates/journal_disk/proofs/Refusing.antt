-- What a fault of reading says of the file.
use Rattle.std.proofs.Common.{◌≡◌, List, ℕ, Result, Ok, Err, IfErr, sym, subst}
use Rattle.std.specs.Result.{IsErrAnd}
use Rattle.journal_disk.specs.Layout.{the_heading}
use Rattle.journal_disk.specs.Opening.{LogRefuses}
use Rattle.journal_disk.specs.inner.Reading.{FindsFrames}
use Rattle.journal_disk.specs.declared.faults.OpenFault.{OpenFault}
use Rattle.journal_disk.specs.declared.faults.OpenFault.TheVariants.{Disk, NotJournal, BadRecord, Memory}

refused : (file : List ℕ) (fault : OpenFault) → FindsFrames file (Err fault) → LogRefuses the_heading file fault
refused file Disk found = tt
refused file NotJournal found = absurd found
refused file (BadRecord at ahead) found = found
refused file Memory found = tt

-- It says so, too, at the exit of a `?`, of a file that reads the same.
pub refused_at_exit : {T : Type 0} (r : Result T OpenFault) (file same : List ℕ) (fault : OpenFault) → IsErrAnd r (λ e. e ≡ fault) → same ≡ file → FindsFrames same (Err fault) → IfErr r (LogRefuses the_heading file)
refused_at_exit (Ok x) file same fault is reads found = absurd is
refused_at_exit (Err e) file same fault is reads found = subst (λ (l : List ℕ). LogRefuses the_heading l e) reads (subst (LogRefuses the_heading same) (sym is) (refused same fault found))
