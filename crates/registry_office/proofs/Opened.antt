-- What an opening finds and keeps, and a session after it.
use Rattle.std.proofs.Common.{◌≡◌, ◌⊎◌, ◌≤◌, ◌+◌, ◌∷◌, drop, inl, inr, ⊎_elim, ℕ, Bool, true, false, List, [], refl, sym, ap, ◌∙◌, subst, Err, ◌++◌, append-nil, Option, Some, None}
use Rattle.std.proofs.KnownBytes.{Appends-nil}
use Rattle.std.proofs.lemmas.List.{append_cancel_left}
use Rattle.gb_outside.specs.Bytes.{AppendsFront}
use Rattle.gb_outside.specs.Images.{LeavesOnly}
use Rattle.gb_outside.proofs.Moments.{weakened, followed}
use Rattle.act_model.specs.declared.receipts.Receipt.{Receipt}
use Rattle.journal_disk.specs.Layout.{the_heading, first_gate, frames, measured, IsJournal, IsMade, IsUnmade, made_from}
use Rattle.journal_disk.specs.Opening.{IsKept, MakesUnmade, SyncsFirst, AnswersSynced}
use Rattle.receipt_journal.specs.Opening.{BookRefuses, book_opening_disk_failed}
use Rattle.receipt_journal.specs.BookState.{BookState}
use Rattle.receipt_journal.specs.Standing.{StandsForJournal}
use Rattle.receipt_journal.specs.declared.faults.BookFault.{BookFault}
use Rattle.receipt_journal.specs.declared.faults.BookFault.TheVariants as fault
use Rattle.receipt_journal.proofs.Standings.{stands_by_frames, kept_frames}
use Rattle.registry_office.specs.Disks.{IsJournalFile, FindsBy, GrowsSynced, KeepsGrown, LeavesMade, LeftNewly}
use Rattle.intake.specs.Grown.{GrownFrom, IsFront}
use Rattle.registry_office.specs.Statuses.{read_fault, write_fault, disk_fault, door_fault, is_no_journal, is_of_session, status_of_fault, tells_of_opening}
use Rattle.registry_office.specs.Receivings.{HasWritten}
use Rattle.registry_office.specs.declared.statuses.Status.{Status}
use Rattle.registry_office.specs.declared.statuses.Status.TheVariants as status
use Rattle.intake.proofs.Acknowledged.{first_empty}
use Rattle.intake.proofs.Durable.{front_refl}
use Rattle.gb_base.specs.DayMinute.{DayMinute}
use Rattle.intake_requests.specs.declared.requests.Request.{Request}
use Rattle.intake.specs.EarlyEnds.{EndsEarly}
use Rattle.intake.specs.Requests.{OnDisk, Held}
use Rattle.intake.proofs.EarlyEnds.{early_before}
use Rattle.intake.proofs.Replies.{grown_at, grown_wider}

-- a file that is kept stands for the journal that it stood for
pub kept_journal : (file c : List ℕ) (journal : List Receipt) → StandsForJournal file journal → IsKept file c → StandsForJournal c journal
kept_journal file c journal stands kept =
    let keeps = kept_frames file journal stands in stands_by_frames c journal keeps.0 (kept.frames _ keeps.1)

module _ {D : Type 0} (reads : D → List ℕ) (images : D → List ℕ → Type 0) (moment : D → ℕ) (since : D → ℕ → List ℕ → Type 0) where
  pub grows_synced : (old new : D) (journal to : List Receipt) → StandsForJournal (reads old) journal → IsFront journal to → SyncsFirst reads images moment since old new → GrowsSynced reads images moment since old new journal to
  grows_synced old new journal to stands front first = record {
    synced = first.synced;
    until = first.until;
    only = first.only;
    then = weakened moment since first.synced new (IsKept (reads old)) (GrownFrom journal to)
        (λ c kept. grown_wider journal to journal journal c (front_refl journal) front (grown_at journal c (kept_journal (reads old) c journal stands kept))) first.then;
  }

  pub keeps_grown : (old new : D) (journal to : List Receipt) (failed : Bool) → StandsForJournal (reads old) journal → IsFront journal to → AnswersSynced reads images moment since old new failed
      → KeepsGrown reads images moment since old new failed journal to
  keeps_grown old new journal to true stands front answers = ⊎_elim (λ none. inl none) (λ first. inr (grows_synced old new journal to stands front first)) answers
  keeps_grown old new journal to false stands front answers = grows_synced old new journal to stands front answers

  pub grows_further : (old mid new : D) (journal to : List Receipt) (failed : Bool) → GrowsSynced reads images moment since old mid journal to → LeavesOnly moment since mid new (GrownFrom journal to)
      → KeepsGrown reads images moment since old new failed journal to
  grows_further old mid new journal to failed first more =
      let both : GrowsSynced reads images moment since old new journal to = record {
        synced = first.synced;
        until = first.until;
        only = first.only;
        then = followed moment since first.synced mid new (GrownFrom journal to) first.then more;
      } in by failed both
    where
      by : (failed : Bool) → GrowsSynced reads images moment since old new journal to → KeepsGrown reads images moment since old new failed journal to
      by true both = inr both
      by false both = both

-- the status of a book that was not opened
pub record IsOpeningStatus (s : Status) (f : BookFault) : Type 0 where
  pub not_ok : s ≡ status.Ok → ⊥
  pub not_usage : s ≡ status.Usage → ⊥
  pub not_read : s ≡ status.ReadFault → ⊥
  pub not_long : s ≡ status.InputTooLong → ⊥
  pub no_read : read_fault s ≡ false
  pub no_write : write_fault s ≡ false
  pub no_door : door_fault s ≡ false
  pub not_told : tells_of_opening s ≡ false

opening_status_of : (f : BookFault) → IsOpeningStatus (status_of_fault f) f
opening_status_of fault.Disk = record { not_ok = λ is. cc; not_usage = λ is. cc; not_read = λ is. cc; not_long = λ is. cc; no_read = refl; no_write = refl; no_door = refl; not_told = refl }
opening_status_of fault.NotJournal = record { not_ok = λ is. cc; not_usage = λ is. cc; not_read = λ is. cc; not_long = λ is. cc; no_read = refl; no_write = refl; no_door = refl; not_told = refl }
opening_status_of (fault.BadRecord at) = record { not_ok = λ is. cc; not_usage = λ is. cc; not_read = λ is. cc; not_long = λ is. cc; no_read = refl; no_write = refl; no_door = refl; not_told = refl }
opening_status_of fault.Memory = record { not_ok = λ is. cc; not_usage = λ is. cc; not_read = λ is. cc; not_long = λ is. cc; no_read = refl; no_write = refl; no_door = refl; not_told = refl }

pub opening_status : (s : Status) (f : BookFault) → s ≡ status_of_fault f → IsOpeningStatus s f
opening_status s f is = subst (λ t. IsOpeningStatus t f) (sym is) (opening_status_of f)

pub found_at_opening : (s : Status) (f : BookFault) (file : List ℕ) → s ≡ status_of_fault f → BookRefuses file f → FindsBy file s
found_at_opening s fault.Disk file is refuses = rw is tt
found_at_opening s fault.NotJournal file is refuses = rw is refuses
found_at_opening s (fault.BadRecord at) file is refuses = rw is refuses
found_at_opening s fault.Memory file is refuses = rw is tt

pub disk_at_opening : (s : Status) (f : BookFault) → s ≡ status_of_fault f → disk_fault s ≡ book_opening_disk_failed {A = BookState} (Err f)
disk_at_opening s fault.Disk is = ap disk_fault is
disk_at_opening s fault.NotJournal is = ap disk_fault is
disk_at_opening s (fault.BadRecord at) is = ap disk_fault is
disk_at_opening s fault.Memory is = ap disk_fault is

-- what an opening that failed makes of the file, by its status
pub makes_at_opening : (s : Status) (f : BookFault) (file new : List ℕ) → s ≡ status_of_fault f → MakesUnmade (book_opening_disk_failed {A = BookState} (Err f)) file new → MakesUnmade (disk_fault s) file new
makes_at_opening s f file new is makes = subst (λ failed. MakesUnmade failed file new) (sym (disk_at_opening s f is)) makes

-- ---- a status of a session

pub session_not_none : (s : Status) → is_of_session s ≡ true → is_no_journal s ≡ true → ⊥
session_not_none status.Ok of none = cc
session_not_none status.Usage of none = cc
session_not_none status.ReadFault of none = cc
session_not_none status.WriteFault of none = cc
session_not_none status.DiskFault of none = cc
session_not_none status.Memory of none = cc
session_not_none status.NotJournal of none = cc
session_not_none (status.BadRecord at) of none = cc
session_not_none status.InputTooLong of none = cc
session_not_none status.DoorFault of none = cc

pub found_by_session : (s : Status) (file : List ℕ) → is_of_session s ≡ true → IsJournalFile file → FindsBy file s
found_by_session status.Ok file of found = found
found_by_session status.Usage file of found = tt
found_by_session status.ReadFault file of found = found
found_by_session status.WriteFault file of found = found
found_by_session status.DiskFault file of found = tt
found_by_session status.Memory file of found = tt
found_by_session status.NotJournal file of found = absurd cc
found_by_session (status.BadRecord at) file of found = absurd cc
found_by_session status.InputTooLong file of found = found
found_by_session status.DoorFault file of found = absurd cc

-- a status of a session that tells of its opening blames no disk
told_by_session : (s : Status) → is_of_session s ≡ true → tells_of_opening s ≡ true → disk_fault s ≡ false
told_by_session status.Ok of tells = refl
told_by_session status.Usage of tells = refl
told_by_session status.ReadFault of tells = refl
told_by_session status.WriteFault of tells = refl
told_by_session status.DiskFault of tells = absurd cc
told_by_session status.Memory of tells = refl
told_by_session status.NotJournal of tells = refl
told_by_session (status.BadRecord at) of tells = refl
told_by_session status.InputTooLong of tells = refl
told_by_session status.DoorFault of tells = refl

pub session_no_door : (s : Status) → is_of_session s ≡ true → door_fault s ≡ false
session_no_door status.Ok of = refl
session_no_door status.Usage of = refl
session_no_door status.ReadFault of = refl
session_no_door status.WriteFault of = refl
session_no_door status.DiskFault of = refl
session_no_door status.Memory of = refl
session_no_door status.NotJournal of = refl
session_no_door (status.BadRecord at) of = refl
session_no_door status.InputTooLong of = refl
session_no_door status.DoorFault of = absurd cc

pub session_no_usage : (s : Status) → is_of_session s ≡ true → s ≡ status.Usage → ⊥
session_no_usage s of is = let never : true ≡ false = sym of ∙ ap is_of_session is in cc

-- a text that nothing was written of is empty
pub none_written : (w : Option (List ℕ)) (text : List ℕ) → HasWritten w w text → text ≡ []
none_written None text wrote = absurd wrote
none_written (Some a) text wrote = first_empty text wrote.0 (sym (append_cancel_left a [] (text ++ wrote.0) (append-nil a ∙ wrote.1)))

-- nothing is a front of each text
pub no_front : (w : Option (List ℕ)) (text : List ℕ) → AppendsFront w w text
no_front w text = record { front = []; rest = text; whole = refl; added = Appends-nil w }

-- so where a sink took nothing, it has a front of each text
pub front_unwritten : (w0 w1 : Option (List ℕ)) (text : List ℕ) → w1 ≡ w0 → AppendsFront w0 w1 text
front_unwritten w0 w1 text same = subst (λ (w : Option (List ℕ)). AppendsFront w0 w text) (sym same) (no_front w0 text)

-- ---- a made file, and what is left of the disk where an opening failed

pub made_of_journal : (bodies : List (List ℕ)) (file : List ℕ) → IsJournal the_heading file bodies → IsMade the_heading file
made_of_journal [] file journal = record { mark = journal.mark; gate = journal.gate; rest = journal.rest; made = journal.made; whole = journal.whole }
made_of_journal (body ∷ bodies) file journal = record {
  mark = journal.mark;
  gate = 1;
  rest = (measured body ++ frames bodies) ++ journal.gate ∷ journal.rest;
  made = journal.made;
  whole = journal.whole;
}

made_just_now : (file : List ℕ) → IsMade the_heading (made_from the_heading file)
made_just_now file = record { mark = 71; gate = 0; rest = drop (first_gate the_heading + 1) file; made = λ is. cc; whole = refl }

pub made_at_opening : (s : Status) (f : BookFault) (file new : List ℕ) → s ≡ status_of_fault f → MakesUnmade (book_opening_disk_failed {A = BookState} (Err f)) file new → LeavesMade s file new
made_at_opening s f file new is makes = ⊎_elim
    (λ told. let never : true ≡ false = sym told ∙ (opening_status s f is).not_told in absurd cc)
    (λ unmade. subst (IsMade the_heading) (sym (makes_at_opening s f file new is makes unmade.0 unmade.1)) (made_just_now file))

-- the disk did not fail where the file is to be made
pub made_by_session : (s : Status) (file : List ℕ) → is_of_session s ≡ true → (tells_of_opening s ≡ true) ⊎ ((disk_fault s ≡ false) × IsUnmade file) → disk_fault s ≡ false
made_by_session s file of = ⊎_elim (λ told. told_by_session s of told) (λ unmade. unmade.0)

module _ {D : Type 0} (reads : D → List ℕ) (images : D → List ℕ → Type 0) (moment : D → ℕ) (since : D → ℕ → List ℕ → Type 0) (old new : D)
    (now : (t : ℕ) (c : List ℕ) → t ≤ moment new → images new c → since new t c) where
  kept_since_sync : (journal : List Receipt) (file : List ℕ) → StandsForJournal (reads old) journal → images new file → SyncsFirst reads images moment since old new → StandsForJournal file journal
  kept_since_sync journal file stands image first =
      kept_journal (reads old) file journal stands (first.then.each file (now (moment first.synced) file first.then.later image))

  -- what a stop leaves after an opening, and could not leave before, stands for the journal that the opening found
  pub left_by_opening : (failed : Bool) (journal : List Receipt) (file : List ℕ) → StandsForJournal (reads old) journal → AnswersSynced reads images moment since old new failed
      → LeftNewly failed (images old) (images new) file → StandsForJournal file journal
  left_by_opening true journal file stands answers left = ⊎_elim
      (λ none. absurd (left.1 (none.each file (now (moment old) file none.later left.0))))
      (λ first. kept_since_sync journal file stands left.0 first) answers
  left_by_opening false journal file stands answers left = kept_since_sync journal file stands left answers

pub left_of : (failed : Bool) (before now : List ℕ → Type 0) (file : List ℕ) → LeftNewly failed before now file → now file
left_of true before now file left = left.0
left_of false before now file left = left

-- where the source failed or gave too much, the disk did not
pub cut_by_source : (s : Status) → (s ≡ status.ReadFault) ⊎ (s ≡ status.InputTooLong) → disk_fault s ≡ false
cut_by_source s (inl read) = ap disk_fault read
cut_by_source s (inr long) = ap disk_fault long

-- nothing is done, and each image stands for the journal that was held
pub early_unopened : (held : Held) (known : Option (List DayMinute)) (w : Option (List ℕ)) (images : List ℕ → Type 0) (requests : List Request)
    → known ≡ Some held.ticks → ((file : List ℕ) → images file → StandsForJournal file held.journal) → EndsEarly OnDisk held known w w images requests
early_unopened held known w images requests clock stands =
    early_before OnDisk held known w images images requests (record { ticks = clock; stands = stands; stands_now = stands })
