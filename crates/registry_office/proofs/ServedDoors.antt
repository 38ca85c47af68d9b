-- What serving the office comes to: an opening, and then a door that was served; or no book was opened.
use Rattle.std.proofs.Common.{◌≡◌, ◌∙◌, ◌+◌, inl, inr, ⊎_elim, ℕ, ◌≤◌, Bool, true, false, List, [], ◌++◌, Option, Some, None, Err, IfSome, IsSome, refl, sym, ap, subst, arith, append-nil}
use Rattle.gb_base.specs.DayMinute.{DayMinute}
use Rattle.gb_outside.specs.Faults.{Counts, Rose}
use Rattle.gb_outside.specs.Images.{LeavesOnly, Torn}
use Rattle.gb_outside.proofs.Moments.{followed, weakened}
use Rattle.journal_disk.specs.Layout.{the_heading, first_gate, IsMade, IsUnmade, made_from}
use Rattle.journal_disk.specs.Opening.{AnswersSynced, IsKept, MakesUnmade, SyncsFirst}
use Rattle.receipt_journal.specs.BookState.{BookState}
use Rattle.receipt_journal.specs.Opening.{book_opening_disk_failed}
use Rattle.receipt_journal.specs.Standing.{Stands, StandsForJournal, records}
use Rattle.receipt_journal.specs.declared.faults.BookFault.{BookFault}
use Rattle.intake.specs.Requests.{Held}
use Rattle.intake.proofs.Replies.{grown_at}
use Rattle.settled_book.specs.SettledBookState.{SettledBookState}
use Rattle.connections.specs.Answering.{LeavesOldThen}
use Rattle.connections.specs.Doors.{LinkRequests, ServesDoor, turns_taken}
use Rattle.connections.specs.Holding.{Holds, StandsOpen, working}
use Rattle.connections.specs.Served.{IsLeftIn}
use Rattle.connections.specs.Serving.{ServesLink, TakesTurns}
use Rattle.connections.specs.Turns.{Turn, Taken}
use Rattle.connections.specs.declared.doors.DoorEnd.{DoorEnd}
use Rattle.connections.specs.declared.doors.DoorEnd.TheVariants as door
use Rattle.connections.specs.declared.serving.Served.{Served}
use Rattle.registry_office.specs.Disks.{FindsBy, IsJournalFile, KeepsSynced, LeavesSynced}
use Rattle.registry_office.specs.Servings.{IsHeld, ServesOffice}
use Rattle.registry_office.specs.Statuses.{disk_fault, status_of_door, status_of_fault}
use Rattle.registry_office.specs.declared.statuses.Status.{Status}
use Rattle.registry_office.specs.declared.statuses.Status.TheVariants as status
use Rattle.registry_office.proofs.Opened.{disk_at_opening, kept_journal, made_of_journal, opening_status}

-- a file that stands for the journal that is held is one that a stop leaves before all turns
left_before_turns : (held : Held) (taken : List Taken) (file : List ℕ) → StandsForJournal file held.journal → IsLeftIn held taken file
left_before_turns held taken file stands = record { done = []; next = []; rest = taken; all = refl; one = omega arith; left = grown_at held.journal file stands }

-- a count that the opening left, and that did not rise in all, did not rise after it
rose_on : (before mid now : ℕ) → Counts before mid false → (Rose before now → ⊥) → Rose mid now → ⊥
rose_on before mid now first never = subst (λ n. Rose n now → ⊥) (sym (first.else_same refl)) never

-- where no link came, what the door tells as served stays
none_told : (served : Option (List (List ℕ × ℕ))) → IfSome served (λ before. served ≡ Some (before ++ []))
none_told None = tt
none_told (Some before) = ap (λ (l : List (List ℕ × ℕ)). Some l) (sym (append-nil before))

-- where a book is open that works, its file is made
pub made_open : (at_hand : Option SettledBookState) (reads : List ℕ) (images : List ℕ → Type 0) → IsSome (working at_hand) → StandsOpen at_hand reads images → IsMade the_heading reads
made_open at_hand reads images some stands = by (working at_hand) some stands
  where
    by : (book : Option SettledBookState) → IsSome book → IfSome book (λ settled. Stands settled.book reads images) → IsMade the_heading reads
    by None some stands = absurd cc
    by (Some settled) some stands = made_of_journal (records settled.book.journal) reads stands.journal

-- ---- the status of a door that was served

-- what it says of the file
pub found_by_door : (s : Status) (end : DoorEnd) (file : List ℕ) → s ≡ status_of_door end → IsJournalFile file → FindsBy file s
found_by_door s door.Done file is found = rw is found
found_by_door s door.DoorFault file is found = rw is found
found_by_door s door.Memory file is found = rw is tt

no_disk_fault : (e : DoorEnd) → disk_fault (status_of_door e) ≡ false
no_disk_fault door.Done = refl
no_disk_fault door.DoorFault = refl
no_disk_fault door.Memory = refl

is_done : (e : DoorEnd) → status_of_door e ≡ status.Ok → e ≡ door.Done
is_done door.Done is = refl
is_done door.DoorFault is = absurd cc
is_done door.Memory is = absurd cc

lacks_memory : (e : DoorEnd) → status_of_door e ≡ status.Memory → e ≡ door.Memory
lacks_memory door.Done is = absurd cc
lacks_memory door.DoorFault is = absurd cc
lacks_memory door.Memory is = refl

module _ {D : Type 0} (reads : D → List ℕ) (images : D → List ℕ → Type 0) (moment : D → ℕ) (since : D → ℕ → List ℕ → Type 0) (faults : D → ℕ) where
  -- what might be left before is of the kind that is left then
  left_of_both : (mid new : D) (P : List ℕ → Type 0) → ((file : List ℕ) → images mid file → P file) → LeavesOldThen images moment since mid new P → LeavesOnly moment since mid new P
  left_of_both mid new P has (inl before) = weakened moment since mid new (images mid) P has before
  left_of_both mid new P has (inr run) = followed moment since mid run.from new P (weakened moment since mid run.from (images mid) P has run.until) run.then

  left_on : (old mid new : D) (held : Held) (taken : List Taken) → ((t : ℕ) (c : List ℕ) → t ≤ moment mid → images mid c → since mid t c) → StandsForJournal (reads old) held.journal
      → SyncsFirst reads images moment since old mid → LeavesOldThen images moment since mid new (IsLeftIn held taken) → LeavesSynced reads images moment since old new (IsLeftIn held taken)
  left_on old mid new held taken counts stands first second =
      let kept : LeavesOnly moment since first.synced mid (IsLeftIn held taken) = weakened moment since first.synced mid (IsKept (reads old)) (IsLeftIn held taken)
      (λ c kept. left_before_turns held taken c (kept_journal (reads old) c held.journal stands kept)) first.then in record {
        synced = first.synced;
        until = first.until;
        only = first.only;
        then = followed moment since first.synced mid new (IsLeftIn held taken) kept (left_of_both mid new (IsLeftIn held taken) (λ file image. kept.each file (counts (moment first.synced) file kept.later image)) second);
      }

  module _ (old new : D) (held : Held) (most : ℕ) (waiting : List (List ℕ)) (asked : List LinkRequests) (served_old : Option (List (List ℕ × ℕ))) (known : Option (List DayMinute)) where
    abbrev Office : Option (List (List ℕ)) → Option (List (List ℕ × ℕ)) → Status → Type 0
    Office waits served result = ServesOffice reads images moment since faults old new held most waiting asked waits served_old served known result

    abbrev Door : D → Option (List (List ℕ)) → Option (List (List ℕ × ℕ)) → Option SettledBookState → DoorEnd → Type 0
    Door mid waits served at_hand end = ServesDoor (TakesTurns reads images moment since faults) mid new held most waiting asked waits served_old served end (λ h. Holds at_hand (reads new) (images new) known h)

    -- the door was served on a book that was opened
    pub served_opened : (mid : D) (waits : Option (List (List ℕ))) (served : Option (List (List ℕ × ℕ))) (at_hand : Option SettledBookState) (end : DoorEnd) (result : Status)
        → ((t : ℕ) (c : List ℕ) → t ≤ moment mid → images mid c → since mid t c) → StandsForJournal (reads old) held.journal → SyncsFirst reads images moment since old mid → Counts (faults old) (faults mid) false
        → IsKept (reads old) (reads mid) → (IsUnmade (reads old) → reads mid ≡ made_from the_heading (reads old)) → Torn 0 (first_gate the_heading + 1) (reads old) (reads mid)
        → Door mid waits served at_hand end → result ≡ status_of_door end → Office waits served result
    served_opened mid waits served at_hand end result counts stands first quiet keeps makes torn d ends =
        let office : Office waits served (status_of_door end) = record {
          links = d.links;
          are = d.serves.are;
          few = d.few;
          waits = d.serves.waits;
          told = d.serves.told;
          holds = record { stands = d.serves.holds.file; clock = d.serves.holds.clock };
          left = subst (λ (b : Bool). KeepsSynced reads images moment since old new b (IsLeftIn held (turns_taken d.links))) (sym (no_disk_fault end))
              (left_on old mid new held (turns_taken d.links) counts stands first d.serves.disk.left);
          opened = mid;
          same = keeps.same;
          made = λ unmade told. makes unmade;
          unmade = λ unmade. torn;
          written = d.serves.disk.written;
          kept = d.serves.disk.told;
          opening = subst (Counts (faults old) (faults mid)) (sym (no_disk_fault end)) quiet;
          disk = d.serves.disk.disk;
          journal = d.serves.disk.journal;
          stays = d.serves.disk.stays;
          may_lack = d.serves.disk.memory;
          done = λ ok. d.done (is_done end ok);
          memory = λ lacks. ap status_of_door (d.memory lacks);
          ran_out = λ is. inr (d.wanting (lacks_memory end is));
          answered = λ never. d.serves.disk.answered (rose_on (faults old) (faults mid) (faults new) quiet never);
        } in subst (λ s. Office waits served s) (sym ends) office

    -- no book was opened, and nothing was accepted
    pub served_none : (f : BookFault) (result : Status) → AnswersSynced reads images moment since old new (book_opening_disk_failed {A = BookState} (Err f))
        → Counts (faults old) (faults new) (book_opening_disk_failed {A = BookState} (Err f)) → IsKept (reads old) (reads new) → MakesUnmade (book_opening_disk_failed {A = BookState} (Err f)) (reads old) (reads new) → Torn 0 (first_gate the_heading + 1) (reads old) (reads new) → IsHeld (reads old) known held
        → (waits : Option (List (List ℕ))) → waits ≡ Some waiting → result ≡ status_of_fault f → Office waits served_old result
    served_none f result answers counts kept makes torn is waits stay ends =
        let opens = opening_status result f ends in
        let blames = disk_at_opening result f ends in record {
          links = [];
          are = tt;
          few = omega arith;
          waits = stay;
          told = none_told served_old;
          holds = record { stands = kept_journal (reads old) (reads new) held.journal is.stands kept; clock = is.clock };
          left = subst (λ (b : Bool). KeepsSynced reads images moment since old new b (IsLeftIn held [])) (sym blames) (first_left (book_opening_disk_failed {A = BookState} (Err f)) answers);
          opened = new;
          same = kept.same;
          made = λ unmade told. ⊎_elim (λ (no : disk_fault result ≡ false). makes (sym blames ∙ no) unmade) (λ some. absurd (some refl)) told;
          unmade = λ unmade. torn;
          written = refl;
          kept = tt;
          opening = subst (Counts (faults old) (faults new)) (sym blames) counts;
          disk = refl;
          journal = refl;
          stays = λ none. refl;
          may_lack = tt;
          done = λ ok. absurd (opens.not_ok ok);
          memory = λ lacks. absurd lacks;
          ran_out = λ is. inl refl;
          answered = λ never none. refl;
        }
      where
        synced : SyncsFirst reads images moment since old new → LeavesSynced reads images moment since old new (IsLeftIn held [])
        synced first = record {
          synced = first.synced;
          until = first.until;
          only = first.only;
          then = weakened moment since first.synced new (IsKept (reads old)) (IsLeftIn held []) (λ c kept. left_before_turns held [] c (kept_journal (reads old) c held.journal is.stands kept)) first.then;
        }

        first_left : (failed : Bool) → AnswersSynced reads images moment since old new failed → KeepsSynced reads images moment since old new failed (IsLeftIn held [])
        first_left true answers = ⊎_elim (λ none. inl none) (λ first. inr (synced first)) answers
        first_left false answers = synced answers

-- what a served link leaves is held, whatever book is open
pub link_held : {D : Type 0} (Takes : D → D → Held → List Taken → Type 0) (old new : D) (held : Held) (w v : Option (List ℕ)) (turns : List Turn) (served : Served) (at_hand : Option SettledBookState) (reads : List ℕ)
    (images : List ℕ → Type 0) (known : Option (List DayMinute)) → ServesLink Takes old new held w v turns served (λ h. Holds at_hand reads images known h) → ServesLink Takes old new held w v turns served (IsHeld reads known)
link_held Takes old new held w v turns served at_hand reads images known s = record {
  became = s.became;
  of_turns = s.of_turns;
  written = s.written;
  holds = record { stands = s.holds.file; clock = s.holds.clock };
  disk = s.disk;
  finished = s.finished;
  unfinished = s.unfinished;
  cut_off = s.cut_off;
  unwritten = s.unwritten;
}
