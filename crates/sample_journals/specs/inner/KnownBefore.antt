-- What the generator keeps of a folio names receipts before the next one.
use Rattle.std.specs.Prelude.{ℕ, ◌<◌, Option, Some, None}
use Rattle.sample_journals.specs.declared.folio_notes.FolioNotes.{FolioNotes}
use Rattle.sample_journals.specs.declared.folio_notes.KnownRight.{KnownRight}

-- the right, if there is one, was created before receipt k
abbrev pub IsBefore : ℕ → Option KnownRight → Type 0
IsBefore k None = Unit {0}
IsBefore k (Some known) = known.right.receipt < k

-- the second right, if there are two, was created before the newest
abbrev pub AreInOrder : Option KnownRight → Option KnownRight → Type 0
AreInOrder None newest = Unit {0}
AreInOrder (Some second) None = Unit {0}
AreInOrder (Some second) (Some newest) = second.right.receipt < newest.right.receipt

-- both rights were created before receipt k, the second one first
pub record AreBefore (k : ℕ) (notes : FolioNotes) : Type 0 where
  pub newest : IsBefore k notes.newest
  pub second : IsBefore k notes.second
  pub in_order : AreInOrder notes.second notes.newest
