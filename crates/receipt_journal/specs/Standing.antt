-- What a journal's file stands for: the receipts that its frames spell, or where it is bad.
use Rattle.std.specs.Prelude.{◌≡◌, ◌⊎◌, ℕ, List, [], ◌∷◌, ◌++◌, All, map}
use Rattle.act_model.specs.declared.receipts.Receipt.{Receipt}
use Rattle.act_model.specs.Receiving.{IsJournal}
use Rattle.act_codec.specs.Spelling.{spelling}
use Rattle.act_codec.specs.Values.{IsReceipt}
use Rattle.journal_disk.specs.Standing.{Standing}
use Rattle.journal_disk.specs.Standing as standing
use Rattle.journal_disk.specs.Layout.{the_heading, IsUnmade, IsForeign, IsBad, HasStanding, StandsFor, end_of}
use Rattle.journal_disk.specs.Appending.{StandsOn}
use Rattle.receipt_journal.specs.BookState.{BookState}

-- the bodies of the frames that keep a journal
abbrev pub records : List Receipt → List (List ℕ)
records journal = map spelling journal

-- the offset of the gate after a journal's records
abbrev pub gate_after : List Receipt → ℕ
gate_after journal = end_of the_heading (records journal)

-- A journal that frames can keep.
pub record IsKeepable (receipts : List Receipt) : Type 0 where
  pub journal : IsJournal receipts
  pub spelled : All IsReceipt receipts

-- After this journal the body is no record: it is no spelling, or repeats a sender and reference, or lowers the stamp, or is one receipt too many.
abbrev pub IsNoRecord : List Receipt → List ℕ → Type 0
IsNoRecord journal body = (r : Receipt) → IsReceipt r → body ≡ spelling r → IsJournal (journal ++ r ∷ []) → ⊥

-- after these bodies the file has one more frame, whatever follows it
pub record HasFrameBehind (file : List ℕ) (ahead : List (List ℕ)) (body : List ℕ) : Type 0 where
  pub rest : List (List ℕ)
  pub frames : StandsFor the_heading file (ahead ++ body ∷ rest) ⊎ IsBad the_heading file (ahead ++ body ∷ rest)

-- The file is bad after a journal: the next frame is no record of it, or an open gate is followed by no whole frame.
pub record IsBadBehind (file : List ℕ) (journal : List Receipt) : Type 0 where
  pub keepable : IsKeepable journal
  pub bad : ((body : List ℕ) × HasFrameBehind file (records journal) body × IsNoRecord journal body) ⊎ IsBad the_heading file (records journal)

-- the standing of a file, where a journal is the receipts that its frames spell
abbrev pub HasBookStanding : List ℕ → Standing (List Receipt) → Type 0
HasBookStanding file standing.Unmade = IsUnmade file
HasBookStanding file standing.Foreign = IsForeign the_heading file
HasBookStanding file (standing.Bad at) = (journal : List Receipt) × IsBadBehind file journal × (at ≡ gate_after journal)
HasBookStanding file (standing.Journal journal) = IsKeepable journal × HasStanding the_heading file (standing.Journal (records journal))

-- The file stands for a journal; an unmade one stands for the empty journal.
abbrev pub StandsForJournal : List ℕ → List Receipt → Type 0
StandsForJournal file journal = (HasBookStanding file standing.Unmade × (journal ≡ [])) ⊎ HasBookStanding file (standing.Journal journal)

-- Frames can keep the journal, and this is the offset of the gate after them.
pub record AreRecordsTo (journal : List Receipt) (gate : ℕ) : Type 0 where
  pub keepable : IsKeepable journal
  pub ends : gate ≡ gate_after journal

-- A book stands on a disk: its log does, with the records of its journal.
abbrev pub Stands : BookState → List ℕ → (List ℕ → Type 0) → Type 0
Stands book reads images = StandsOn the_heading book.log.gate (records book.journal) reads images
