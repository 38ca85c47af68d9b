-- What is told of what receives items, and what a call of it does.
use Rattle.std.specs.Prelude.{◌≡◌, ℕ, Bool, true, false, List, [], ◌∷◌, ◌++◌, Option, Some, None, IsTrue}
use Rattle.gb_base.specs.DayMinute.{DayMinute}
use Rattle.act_model.specs.declared.receipts.Receipt.{Receipt}
use Rattle.receipt_journal.specs.BookState.{BookState}
use Rattle.receipt_journal.specs.Standing.{StandsForJournal}
use Rattle.receipt_journal.specs.declared.received.Received.{Received}
use Rattle.intake.specs.Grown.{GrownFrom, DiskGrows, IsDurable}
use Rattle.intake.specs.Requests.{Held, Replied, holding, received_text, is_fault}

-- what is held, where the disk tells its bytes and the clock its ticks
abbrev pub held_by : Bool → Option (List DayMinute) → List Receipt → Option Held
held_by true (Some ticks) journal = Some (holding journal ticks)
held_by true None journal = None
held_by false known journal = None

-- A book works, and where its disk tells its bytes it stands there, with its journal in every image.
pub record IsReady (tells : Bool) (book : BookState) (reads : List ℕ) (images : List ℕ → Type 0) : Type 0 where
  pub works : book.log.failed ≡ false
  pub durable : IsTrue tells → IsDurable book reads images
  pub stands : IsTrue tells → (file : List ℕ) → images file → StandsForJournal file book.journal

-- It shows that this is held: its clock has these ticks, and each image of its disk, and each since now, stands for this journal.
pub record Shows (known : Option (List DayMinute)) (images since_now : List ℕ → Type 0) (held : Held) : Type 0 where
  pub ticks : known ≡ Some held.ticks
  pub stands : (file : List ℕ) → images file → StandsForJournal file held.journal
  pub stands_now : (file : List ℕ) → since_now file → StandsForJournal file held.journal

-- An item was received, for which this is the reply. Unless the answer is a fault it is that reply, and what is held then is what the reply leaves. A fault comes only where the reply would add a receipt, and after it the journal is still held that was held before. However the item is answered, the clock is asked as the reply has it, and the journal on the disk grows by no other receipt.
pub record TakesItem {R : Type 0} (reads : R → List ℕ) (images : R → List ℕ → Type 0) (moment : R → ℕ) (since : R → ℕ → List ℕ → Type 0) (old new : R) (held : Held) (reply : Replied) (answer : Received) (holds1 : Option Held) (known1 : Option (List DayMinute)) : Type 0 where
  pub text : is_fault answer ≡ false → received_text answer ++ 10 ∷ [] ≡ reply.text
  pub holds : is_fault answer ≡ false → holds1 ≡ Some reply.held
  pub fault : is_fault answer ≡ true → held.journal ≡ reply.held.journal → ⊥
  pub kept : is_fault answer ≡ true → holds1 ≡ Some (holding held.journal reply.held.ticks)
  pub ticks : known1 ≡ Some reply.held.ticks
  pub left : (file : List ℕ) → images new file → GrownFrom held.journal reply.held.journal file
  pub grows : DiskGrows reads moment since old new held.journal reply.held.journal
