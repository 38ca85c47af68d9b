-- Journals that grow, and what is written of the files that stand for them.
use Rattle.std.specs.Prelude.{◌≡◌, ℕ, ◌+◌, ◌-◌, List, ◌++◌}
use Rattle.gb_outside.specs.Images.{Torn, LeavesOnly}
use Rattle.act_model.specs.declared.receipts.Receipt.{Receipt}
use Rattle.receipt_journal.specs.BookState.{BookState}
use Rattle.receipt_journal.specs.Standing.{IsKeepable, Stands, StandsForJournal, gate_after}

-- the list begins with this one
abbrev pub IsFront : {A : Type 0} → List A → List A → Type 0
IsFront {A} front whole = (rest : List A) × (whole ≡ front ++ rest)

-- the file stands for a journal that has grown from the first of these two to the second, or part of the way there
pub record GrownFrom (from to : List Receipt) (file : List ℕ) : Type 0 where
  pub journal : List Receipt
  pub stands : StandsForJournal file journal
  pub begins : IsFront from journal
  pub ends : IsFront journal to

-- no other bytes of the file are written than those from the gate after the first of these journals to the gate after the second, with both gates
abbrev pub WritesFrames : List Receipt → List Receipt → List ℕ → List ℕ → Type 0
WritesFrames from to old new = Torn (gate_after from) (gate_after to + 1 - gate_after from) old new

-- What is done to a disk while its journal grows from the first of these two to the second, or part of the way there: a stop at any moment leaves a file that stands for such a journal, and only the frames between the two are written.
pub record DiskGrows {D : Type 0} (reads : D → List ℕ) (moment : D → ℕ) (since : D → ℕ → List ℕ → Type 0) (old new : D) (from to : List Receipt) : Type 0 where
  pub left : LeavesOnly moment since old new (GrownFrom from to)
  pub written : WritesFrames from to (reads old) (reads new)

-- A book stands on a disk, and its journal is one that frames can keep.
pub record IsDurable (book : BookState) (reads : List ℕ) (images : List ℕ → Type 0) : Type 0 where
  pub keepable : IsKeepable book.journal
  pub stands : Stands book reads images
