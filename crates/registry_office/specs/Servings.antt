-- What serving the office does: the links that came through the door, and the disk.
use Rattle.std.specs.Prelude.{◌≡◌, ◌⊎◌, ℕ, ◌+◌, ◌≤◌, Bool, true, false, List, [], ◌++◌, drop, length, Option, Some, IfSome, IsTrue}
use Rattle.std.specs.List.{list_all, list_any}
use Rattle.gb_base.specs.DayMinute.{DayMinute}
use Rattle.gb_outside.specs.Faults.{Counts, Rose}
use Rattle.gb_outside.specs.Images.{Torn}
use Rattle.journal_disk.specs.Layout.{the_heading, first_gate, IsUnmade, made_from}
use Rattle.journal_disk.specs.Opening.{IsKept, MakesUnmade}
use Rattle.receipt_journal.specs.Opening.{BookRefuses}
use Rattle.receipt_journal.specs.Standing.{StandsForJournal}
use Rattle.receipt_journal.specs.declared.faults.BookFault.{BookFault}
use Rattle.registrar.specs.HasSettled.{IsRegisterOf}
use Rattle.intake.specs.Requests.{Held}
use Rattle.settled_book.specs.SettledBookState.{SettledBookState}
use Rattle.connections.specs.Answering.{AnswersTurn, OpensBook}
use Rattle.connections.specs.DoorOrder.{ServesDoorInOrder}
use Rattle.connections.specs.Doors.{AreServed, LacksReply, LinkRequests, LinkServed, left_after, pairs_of, turns_taken}
use Rattle.connections.specs.LinkOrder.{stage}
use Rattle.connections.specs.Served.{IsLeftIn}
use Rattle.connections.specs.Serving.{AllMayLack, AllTold, CountsTurns, WritesTurns, fate_of, is_answered, lacks_journal, lacks_memory}
use Rattle.connections.specs.Tools.{tools}
use Rattle.connections.specs.Turns.{calls_disk, held_after}
use Rattle.connections.specs.declared.doors.DoorEnd.{DoorEnd}
use Rattle.registry_office.specs.Disks.{KeepsSynced}
use Rattle.registry_office.specs.Statuses.{disk_fault, status_of_door, status_of_fault}
use Rattle.registry_office.specs.declared.statuses.Status.{Status}
use Rattle.registry_office.specs.declared.statuses.Status.TheVariants as status

-- the disk's file stands for this journal, and the clock will still give these ticks
pub record IsHeld (file : List ℕ) (known : Option (List DayMinute)) (held : Held) : Type 0 where
  pub stands : StandsForJournal file held.journal
  pub clock : known ≡ Some held.ticks

-- The office was served, at whose door links waited that ask so, up to so many replies and as many links.
pub record ServesOffice {D : Type 0} (reads : D → List ℕ) (images : D → List ℕ → Type 0) (moment : D → ℕ) (since : D → ℕ → List ℕ → Type 0) (faults : D → ℕ) (old new : D) (held : Held) (most : ℕ)
    (waiting : List (List ℕ)) (asked : List LinkRequests) (waiting_new : Option (List (List ℕ))) (served_old served_new : Option (List (List ℕ × ℕ))) (known_new : Option (List DayMinute)) (result : Status) : Type 0 where
  -- what became of each link that came
  pub links : List LinkServed
  pub are : AreServed held most asked links
  pub few : length links ≤ most
  -- what the door tells of them
  pub waits : waiting_new ≡ Some (drop (length links) waiting)
  pub told : IfSome served_old (λ before. served_new ≡ Some (before ++ pairs_of held links))
  -- what is held after them
  pub holds : IsHeld (reads new) known_new (held_after held (turns_taken links))
  -- at each moment since the first sync a stop leaves the journal as it is after some of the turns that were taken, with the receipt of the next or without it
  pub left : KeepsSynced reads images moment since old new (disk_fault result) (IsLeftIn held (turns_taken links))
  -- the file once it was opened: an unmade one is made, or in part where the opening failed by the disk; each other is as it was
  pub opened : D
  pub same : (IsUnmade (reads old) → ⊥) → reads opened ≡ reads old
  pub made : IsUnmade (reads old) → (disk_fault result ≡ false) ⊎ (links ≡ [] → ⊥) → reads opened ≡ made_from the_heading (reads old)
  pub unmade : IsUnmade (reads old) → Torn 0 (first_gate the_heading + 1) (reads old) (reads opened)
  -- after the opening only the frames of items that were received are written
  pub written : WritesTurns held (turns_taken links) (reads opened) (reads new)
  -- each file that a stop may leave after the run begins with each journal that a text was read of or an item received into
  pub kept : AllTold (images new) held (turns_taken links)
  -- the disk's count of faults rises in the opening just where that failed by the disk; after it, in sum, by one at least for each turn in which a call of the disk failed, and not where none did
  pub opening : Counts (faults old) (faults opened) (disk_fault result)
  pub disk : CountsTurns (faults opened) (turns_taken links) (faults new)
  -- no turn found that the file is no journal
  pub journal : list_any (λ turn. lacks_journal (fate_of turn)) (turns_taken links) ≡ false
  -- the disk stays as the opening left it where it is called in no turn
  pub stays : list_any calls_disk (turns_taken links) ≡ false → new ≡ opened
  -- memory ran out in a turn only where it may
  pub may_lack : AllMayLack held (turns_taken links)
  -- it is done where all replies were written, as many links were served, or no more came
  pub done : result ≡ status.Ok → (left_after most links ≡ 0) ⊎ ((length links ≡ most) ⊎ (drop (length links) waiting ≡ []))
  -- memory that runs out ends it before the first link, or where none was found for a reply to the last
  pub memory : LacksReply links → result ≡ status.Memory
  pub ran_out : result ≡ status.Memory → (links ≡ []) ⊎ LacksReply links
  -- where the disk's count did not rise and memory did not run out, each turn was answered as it asks
  pub answered : (Rose (faults old) (faults new) → ⊥) → list_any (λ turn. lacks_memory (fate_of turn)) (turns_taken links) ≡ false
      → list_all (λ turn. is_answered (fate_of turn)) (turns_taken links) ≡ true

-- ---- in which order the door was served

-- The journal was opened, and settled unless memory ran out for that, and then the door was served in order, up to so many replies and as many links.
pub record OpensThenServes {P L D C : Type 0} (waiting : P → Option (List (List ℕ))) (served : P → Option (List (List ℕ × ℕ))) (door_faults : P → ℕ) (left written : L → Option (List ℕ)) (link_faults : L → ℕ)
    (tells : Bool) (reads : D → List ℕ) (images : D → List ℕ → Type 0) (faults : D → ℕ) (ticks : C → Option (List DayMinute))
    (most : ℕ) (door_old door_new : P) (disk_old disk_new : D) (clock_old clock_new : C) (result : Status) : Type 0 where
  pub opening : OpensBook tells reads images faults disk_old
  -- an unmade file is made by it, and each other is as it was
  pub made : IsTrue tells → MakesUnmade false (reads disk_old) (reads opening.opened)
  pub kept : IsTrue tells → IsKept (reads disk_old) (reads opening.opened)
  -- the book once it was settled; where no memory was found for that, it has no register yet
  pub settled : SettledBookState
  pub book : settled.book ≡ opening.book
  pub register : IfSome settled.register (IsRegisterOf settled.book.journal)
  -- the book after the last link
  pub at_hand : Option SettledBookState
  pub end : DoorEnd
  -- neither door nor clock were touched before
  pub in_order : ServesDoorInOrder waiting served door_faults left written link_faults (AnswersTurn tells reads images faults ticks) most
      (stage door_old (tools opening.opened (Some settled) clock_old)) (stage door_new (tools disk_new at_hand clock_new)) end
  pub is : result ≡ status_of_door end

-- The journal was not opened: the status says why, and neither door nor clock was touched. An unmade file is made unless the disk failed, and then perhaps in part; each other is as it was.
pub record StaysUnopened {P D C : Type 0} (tells : Bool) (reads : D → List ℕ) (faults : D → ℕ) (door_old door_new : P) (disk_old disk_new : D) (clock_old clock_new : C) (result : Status) : Type 0 where
  pub fault : BookFault
  pub is : result ≡ status_of_fault fault
  pub refused : IsTrue tells → BookRefuses (reads disk_old) fault
  pub cause : Counts (faults disk_old) (faults disk_new) (disk_fault result)
  pub made : IsTrue tells → MakesUnmade (disk_fault result) (reads disk_old) (reads disk_new)
  pub kept : IsTrue tells → IsKept (reads disk_old) (reads disk_new)
  pub torn : IsTrue tells → Torn 0 (first_gate the_heading + 1) (reads disk_old) (reads disk_new)
  pub door : door_new ≡ door_old
  pub clock : clock_new ≡ clock_old

-- the office served its door in order, after the journal was opened, or it was not opened
abbrev pub ServesInTurn : {P L D C : Type 0} → (P → Option (List (List ℕ))) → (P → Option (List (List ℕ × ℕ))) → (P → ℕ) → (L → Option (List ℕ)) → (L → Option (List ℕ)) → (L → ℕ)
    → Bool → (D → List ℕ) → (D → List ℕ → Type 0) → (D → ℕ) → (C → Option (List DayMinute)) → ℕ → P → P → D → D → C → C → Status → Type 0
ServesInTurn waiting served door_faults left written link_faults tells reads images faults ticks most door_old door_new disk_old disk_new clock_old clock_new result =
    OpensThenServes waiting served door_faults left written link_faults tells reads images faults ticks most door_old door_new disk_old disk_new clock_old clock_new result
    ⊎ StaysUnopened tells reads faults door_old door_new disk_old disk_new clock_old clock_new result
