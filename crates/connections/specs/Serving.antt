-- What serving a connection does.
use Rattle.std.specs.Prelude.{◌≡◌, ℕ, Bool, true, false, List, [], ◌∷◌, length, Option, All}
use Rattle.std.specs.Io.KnownBytes.{Appends}
use Rattle.std.specs.List.{list_all, list_any}
use Rattle.gb_outside.specs.Faults.{Counts, Rose}
use Rattle.act_model.specs.declared.receipts.Receipt.{Receipt}
use Rattle.intake.specs.Requests.{Held}
use Rattle.connections.specs.Answering.{AllBegin, LeavesOldThen, WritesBy, may_call_disk, tells_of_file}
use Rattle.connections.specs.Fates.{Failure, Fate, Answered, Failed, DiskFailed, NoJournal, NotBegun, OutOfMemory, has_disk_failed, may_lack_memory}
use Rattle.connections.specs.Served.{Connection, IsCutOff, IsLeftIn, IsOfTurns, IsUnwritten, IsWhole, held_by, replies_of, taken_of, unfailed, written_by}
use Rattle.connections.specs.Turns.{Turn, Taken, Answering, Refusing, answer_in, calls_disk}
use Rattle.connections.specs.declared.serving.Ended.{Ended}
use Rattle.connections.specs.declared.serving.Ended.TheVariants as ended
use Rattle.connections.specs.declared.serving.Served.{Served}

-- the link failed
abbrev pub is_link_fault : Ended → Bool
is_link_fault ended.Finished = false
is_link_fault ended.LinkFault = true
is_link_fault ended.Memory = false

-- it was answered as it asks
abbrev pub is_answered : Fate → Bool
is_answered Answered = true
is_answered (Failed failure progress) = false

-- no memory was found for it
abbrev pub lacks_memory : Fate → Bool
lacks_memory Answered = false
lacks_memory (Failed DiskFailed progress) = false
lacks_memory (Failed NoJournal progress) = false
lacks_memory (Failed OutOfMemory progress) = true

-- its file was found to be no journal
abbrev pub lacks_journal : Fate → Bool
lacks_journal Answered = false
lacks_journal (Failed DiskFailed progress) = false
lacks_journal (Failed NoJournal progress) = true
lacks_journal (Failed OutOfMemory progress) = false

-- the fate of a turn; bytes that are refused are answered so
abbrev pub fate_of : Taken → Fate
fate_of (Answering request wants fate) = fate
fate_of (Refusing reply) = Answered

-- The disk's count of faults rises, in sum, by one at least for each of these turns in which a call of it failed, and not where none did.
abbrev pub CountsTurns : ℕ → List Taken → ℕ → Type 0
CountsTurns before [] now = now ≡ before
CountsTurns before (turn ∷ turns) now = (mid : ℕ) × Counts before mid (has_disk_failed (fate_of turn)) × CountsTurns mid turns now

-- Of the file each of these turns writes what its fate says.
abbrev pub WritesTurns : Held → List Taken → List ℕ → List ℕ → Type 0
WritesTurns held [] file new = new ≡ file
WritesTurns held (turn ∷ turns) file new =
    (mid : List ℕ) × WritesBy (calls_disk turn) (fate_of turn) held.journal (answer_in held (unfailed turn)).held.journal file mid × WritesTurns (answer_in held turn).held turns mid new

-- Each image begins with each journal that a text of these turns was read of, or an item received into, also where no memory was found for the words of the reply.
abbrev pub AllTold : (List ℕ → Type 0) → Held → List Taken → Type 0
AllTold images held [] = Unit {0}
AllTold images held (turn ∷ turns) =
    (tells_of_file (fate_of turn) (answer_in held turn).reply ≡ true → AllBegin (answer_in held turn).held.journal images) × AllTold images (answer_in held turn).held turns

-- Memory ran out in these turns only where it may.
abbrev pub AllMayLack : Held → List Taken → Type 0
AllMayLack held [] = Unit {0}
AllMayLack held (turn ∷ turns) = (may_lack_memory (fate_of turn) (answer_in held (unfailed turn)).reply ≡ true) × AllMayLack (answer_in held turn).held turns

-- What these turns did to a disk whose file stood for the journal that was held.
pub record TakesTurns {D : Type 0} (reads : D → List ℕ) (images : D → List ℕ → Type 0) (moment : D → ℕ) (since : D → ℕ → List ℕ → Type 0) (faults : D → ℕ) (old new : D) (held : Held) (taken : List Taken) : Type 0 where
  -- a stop leaves what it might have left before, or, from some moment on, only files that it leaves in these turns
  pub left : LeavesOldThen images moment since old new (IsLeftIn held taken)
  -- of the file each turn writes what its fate says
  pub written : WritesTurns held taken (reads old) (reads new)
  -- the receipts that every image began with, each begins with still
  pub kept : (front : List Receipt) → AllBegin front (images old) → AllBegin front (images new)
  -- each image begins with all that a text was read of or an item received into
  pub told : AllTold (images new) held taken
  -- the disk stays where it is called in no turn
  pub stays : list_any calls_disk taken ≡ false → new ≡ old
  -- its count of faults rises, in sum, by one at least for each turn in which a call of it failed, and not where none did
  pub disk : CountsTurns (faults old) taken (faults new)
  -- no turn finds that the file is no journal
  pub journal : list_any (λ turn. lacks_journal (fate_of turn)) taken ≡ false
  -- memory ran out in a turn only where it may
  pub memory : AllMayLack held taken
  -- where no count rose and memory did not run out, each turn was answered as it asks
  pub answered : (Rose (faults old) (faults new) → ⊥) → list_any (λ turn. lacks_memory (fate_of turn)) taken ≡ false → list_all (λ turn. is_answered (fate_of turn)) taken ≡ true

-- Where the disk may be called for it, something failed in it, and nothing was begun.
abbrev pub FailsUnbegun : Taken → Type 0
FailsUnbegun (Answering request wants fate) = may_call_disk wants request.body ≡ true → (failure : Failure) × (fate ≡ Failed failure NotBegun)
FailsUnbegun (Refusing reply) = Unit {0}

-- What these turns did to a disk whose file stands for no journal, where no book is open.
pub record TakesNone {D : Type 0} (faults : D → ℕ) (old new : D) (held : Held) (taken : List Taken) : Type 0 where
  -- each turn failed for which the disk may be called
  pub failed : All FailsUnbegun taken
  -- the disk stays where it is called in no turn
  pub stays : list_any calls_disk taken ≡ false → new ≡ old
  -- its count of faults rises, in sum, by one at least for each turn in which a call of it failed, and not where none did
  pub disk : CountsTurns (faults old) taken (faults new)

-- A connection of these turns was served.
pub record ServesLink {D : Type 0} (Takes : D → D → Held → List Taken → Type 0) (old new : D) (held : Held)
    (written_old written_new : Option (List ℕ)) (turns : List Turn) (served : Served) (HoldsNow : Held → Type 0) : Type 0 where
  -- what became of it
  pub became : Connection
  pub of_turns : IsOfTurns held turns became
  -- what was written, what is held after it, and what was done to the disk
  pub written : Appends written_old written_new (written_by held became)
  pub holds : HoldsNow (held_by held became)
  pub disk : Takes old new held (taken_of became)
  -- where it is finished it is whole; else it is cut off, and its whole replies alone are counted
  pub finished : served.ended ≡ ended.Finished → IsWhole turns became × (served.replies ≡ replies_of became)
  pub unfinished : (served.ended ≡ ended.Finished → ⊥) → served.replies ≡ length became.replied
  pub cut_off : (served.ended ≡ ended.Finished → ⊥) → IsCutOff held turns became
  -- where no memory was found for a reply nothing of it was written
  pub unwritten : served.ended ≡ ended.Memory → IsUnwritten held became
