-- What is written for a book's journal is written for each journal that the file stood for, since it stood for one.
use Rattle.std.proofs.Common.{◌≡◌, ℕ, true, false, List, Option, Result, Ok, Err, OnOk, OnErr, subst, sym, refl, ap, ◌∙◌}
use Rattle.std.specs.Io.KnownBytes.{Appends}
use Rattle.gb_outside.specs.Bytes.{AppendsFront}
use Rattle.act_model.specs.declared.receipts.Receipt.{Receipt}
use Rattle.receipt_journal.specs.Standing.{StandsForJournal}
use Rattle.receipt_journal.proofs.Standings.{journal_once}
use Rattle.registry_office.specs.Outcomes.{report_of}
use Rattle.registry_office.specs.Disks.{IsJournalFile, FindsBy}
use Rattle.intake.specs.Faults.{output_failed}
use Rattle.registry_office.specs.Statuses.{is_of_writing, is_no_journal, read_fault, write_fault, disk_fault, door_fault}
use Rattle.registry_office.specs.inner.Ends.{status_of_writing}
use Rattle.registry_office.specs.declared.statuses.Status.{Status}
use Rattle.registry_office.specs.declared.statuses.Status.TheVariants as status
use Rattle.intake.specs.declared.faults.OutputFault.{OutputFault}
use Rattle.intake.specs.declared.faults.OutputFault.TheVariants as output
use Rattle.intake.proofs.Replies.{whole_front}

pub whole_of_file : (written0 written1 : Option (List ℕ)) (file : List ℕ) (settled kept journal : List Receipt) → settled ≡ kept → StandsForJournal file kept → StandsForJournal file journal → Appends written0 written1 (report_of settled) → Appends written0 written1 (report_of journal)
whole_of_file written0 written1 file settled kept journal same found stands wrote =
    subst (λ j. Appends written0 written1 (report_of j)) (same ∙ journal_once file kept journal found stands) wrote

pub front_of_file : (written0 written1 : Option (List ℕ)) (file : List ℕ) (settled kept journal : List Receipt) → settled ≡ kept → StandsForJournal file kept → StandsForJournal file journal → AppendsFront written0 written1 (report_of settled) → AppendsFront written0 written1 (report_of journal)
front_of_file written0 written1 file settled kept journal same found stands wrote =
    subst (λ j. AppendsFront written0 written1 (report_of j)) (same ∙ journal_once file kept journal found stands) wrote

-- ---- a text that was to be written, by its status

pub ok_of_writing : (r : Result (Unit {0}) OutputFault) (s : Status) (P : Type 0) → s ≡ status_of_writing r → s ≡ status.Ok → OnOk r P → P
ok_of_writing (Ok done) s P is ok holds = holds
ok_of_writing (Err output.Write) s P is ok holds = let never : status.Ok ≡ status.WriteFault = sym ok ∙ is in absurd cc
ok_of_writing (Err output.Memory) s P is ok holds = let never : status.Ok ≡ status.Memory = sym ok ∙ is in absurd cc

pub of_writing : (r : Result (Unit {0}) OutputFault) (s : Status) → s ≡ status_of_writing r → (is_of_writing s ≡ true) × (write_fault s ≡ output_failed r)
of_writing (Ok done) s is = rw is (refl, refl)
of_writing (Err output.Write) s is = rw is (refl, refl)
of_writing (Err output.Memory) s is = rw is (refl, refl)

-- where a text was neither written whole nor did the sink fail, no memory was found for it
pub unwritten_by : (r : Result (Unit {0}) OutputFault) (s : Status) (P : Type 0) → s ≡ status_of_writing r → (r ≡ Err output.Memory → P) → (s ≡ status.Ok → ⊥) → write_fault s ≡ false → P
unwritten_by (Ok done) s P is nothing other sound = absurd (other is)
unwritten_by (Err output.Write) s P is nothing other sound = let never : true ≡ false = sym (ap write_fault is) ∙ sound in absurd cc
unwritten_by (Err output.Memory) s P is nothing other sound = nothing refl

-- what a status of writing is not
pub record IsWriting (s : Status) : Type 0 where
  pub no_disk : disk_fault s ≡ false
  pub no_read : read_fault s ≡ false
  pub no_door : door_fault s ≡ false
  pub opened : is_no_journal s ≡ false
  pub not_long : s ≡ status.InputTooLong → ⊥
  pub not_usage : s ≡ status.Usage → ⊥

pub is_writing : (s : Status) → is_of_writing s ≡ true → IsWriting s
is_writing status.Ok of = record { no_disk = refl; no_read = refl; no_door = refl; opened = refl; not_long = λ is. cc; not_usage = λ is. cc }
is_writing status.Usage of = absurd cc
is_writing status.ReadFault of = absurd cc
is_writing status.WriteFault of = record { no_disk = refl; no_read = refl; no_door = refl; opened = refl; not_long = λ is. cc; not_usage = λ is. cc }
is_writing status.DiskFault of = absurd cc
is_writing status.Memory of = record { no_disk = refl; no_read = refl; no_door = refl; opened = refl; not_long = λ is. cc; not_usage = λ is. cc }
is_writing status.NotJournal of = absurd cc
is_writing (status.BadRecord at) of = absurd cc
is_writing status.InputTooLong of = absurd cc
is_writing status.DoorFault of = absurd cc

pub found_by_writing : (s : Status) (file : List ℕ) → is_of_writing s ≡ true → IsJournalFile file → FindsBy file s
found_by_writing status.Ok file of found = found
found_by_writing status.Usage file of found = tt
found_by_writing status.ReadFault file of found = found
found_by_writing status.WriteFault file of found = found
found_by_writing status.DiskFault file of found = tt
found_by_writing status.Memory file of found = tt
found_by_writing status.NotJournal file of found = absurd cc
found_by_writing (status.BadRecord at) file of found = absurd cc
found_by_writing status.InputTooLong file of found = found
found_by_writing status.DoorFault file of found = found

-- a text that was written to its end or not: a front of it stands
pub any_front : (r : Result (Unit {0}) OutputFault) (w0 w1 : Option (List ℕ)) (text : List ℕ) → OnOk r (Appends w0 w1 text) → OnErr r (AppendsFront w0 w1 text) → AppendsFront w0 w1 text
any_front (Ok done) w0 w1 text whole part = whole_front w0 w1 text whole
any_front (Err fault) w0 w1 text whole part = part
