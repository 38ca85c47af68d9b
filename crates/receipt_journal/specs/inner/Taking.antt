-- Taking the records of a file's frames into a journal.
use Rattle.std.specs.Prelude.{◌≡◌, ℕ, List, [], ◌∷◌, ◌++◌}
use Rattle.act_model.specs.declared.receipts.Receipt.{Receipt}
use Rattle.journal_disk.specs.FrameAt.{FrameAt}
use Rattle.receipt_journal.specs.Standing.{records, IsKeepable, IsNoRecord, gate_after}
use Rattle.receipt_journal.specs.declared.faults.BookFault.{BookFault}
use Rattle.receipt_journal.specs.declared.faults.BookFault.TheVariants.{Disk, NotJournal, BadRecord, Memory}

-- A frame's body is taken: it is the record of one receipt more.
pub record Takes (old : List Receipt) (body : List ℕ) (new : List Receipt) : Type 0 where
  pub keepable : IsKeepable new
  pub frames : records new ≡ records old ++ body ∷ []

-- why a frame is refused after a journal
abbrev pub RefusesFrame : List Receipt → FrameAt → BookFault → Type 0
RefusesFrame journal frame (BadRecord at) = IsNoRecord journal frame.body × (at ≡ frame.at)
RefusesFrame journal frame Memory = Unit {0}
RefusesFrame journal frame Disk = ⊥
RefusesFrame journal frame NotJournal = ⊥

-- The first of these bodies that is no record of the journal before it, and the offset of its gate.
pub record IsFirstBad (bodies : List (List ℕ)) (at : ℕ) : Type 0 where
  pub ahead : List Receipt
  pub body : List ℕ
  pub rest : List (List ℕ)
  pub keepable : IsKeepable ahead
  pub none : IsNoRecord ahead body
  pub whole : bodies ≡ records ahead ++ body ∷ rest
  pub offset : at ≡ gate_after ahead

-- why frames with these bodies are refused
abbrev pub RefusesFrames : List (List ℕ) → BookFault → Type 0
RefusesFrames bodies (BadRecord at) = IsFirstBad bodies at
RefusesFrames bodies Memory = Unit {0}
RefusesFrames bodies Disk = ⊥
RefusesFrames bodies NotJournal = ⊥
