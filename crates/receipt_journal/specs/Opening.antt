-- Opening a book.
use Rattle.std.specs.Prelude.{ℕ, Bool, true, false, List, Result, Ok, Err}
use Rattle.journal_disk.specs.Standing as standing
use Rattle.receipt_journal.specs.BookState.{BookState}
use Rattle.receipt_journal.specs.Standing.{HasBookStanding, StandsForJournal, Stands}
use Rattle.receipt_journal.specs.declared.faults.BookFault.{BookFault}
use Rattle.receipt_journal.specs.declared.faults.BookFault.TheVariants.{Disk, NotJournal, BadRecord, Memory}

-- The file stood for the book's journal, and the book now stands on the disk.
pub record BookOpens (file : List ℕ) (book : BookState) (reads : List ℕ) (images : List ℕ → Type 0) : Type 0 where
  pub found : StandsForJournal file book.journal
  pub stands : Stands book reads images

-- a fault says the standing of the file that was found
abbrev pub BookRefuses : List ℕ → BookFault → Type 0
BookRefuses file NotJournal = HasBookStanding file standing.Foreign
BookRefuses file (BadRecord at) = HasBookStanding file (standing.Bad at)
BookRefuses file Disk = Unit {0}
BookRefuses file Memory = Unit {0}

-- whether an opening of a book answers that the disk failed
abbrev pub book_opening_disk_failed : {A : Type 0} → Result A BookFault → Bool
book_opening_disk_failed (Ok book) = false
book_opening_disk_failed (Err Disk) = true
book_opening_disk_failed (Err NotJournal) = false
book_opening_disk_failed (Err (BadRecord at)) = false
book_opening_disk_failed (Err Memory) = false
