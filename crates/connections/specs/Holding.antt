-- What is held between two requests.
use Rattle.std.specs.Prelude.{◌≡◌, ◌⊎◌, ℕ, List, Option, Some, None, IfSome, IsSomeAnd, if◌then◌else◌}
use Rattle.gb_base.specs.DayMinute.{DayMinute}
use Rattle.act_model.specs.declared.receipts.Receipt.{Receipt}
use Rattle.intake.specs.Grown.{IsDurable, IsFront}
use Rattle.intake.specs.Requests.{Held}
use Rattle.journal_disk.specs.Standing as standing
use Rattle.receipt_journal.specs.Standing.{HasBookStanding, Stands, StandsForJournal}
use Rattle.registrar.specs.HasSettled.{IsRegisterOf}
use Rattle.registrar.specs.RegisterState.{RegisterState}
use Rattle.settled_book.specs.SettledBookState.{SettledBookState}

-- the book that is open, and has not failed
abbrev pub working : Option SettledBookState → Option SettledBookState
working None = None
working (Some settled) = if settled.book.log.failed then None else Some settled

-- the register of the book at hand, as far as it is settled
abbrev pub register_in : Option SettledBookState → Option RegisterState
register_in None = None
register_in (Some settled) = settled.register

-- the book is at hand, and all of its journal is settled
abbrev pub IsAllSettled : Option SettledBookState → Type 0
IsAllSettled at_hand = IsSomeAnd at_hand (λ settled. IsSomeAnd settled.register (IsRegisterOf settled.book.journal))

-- An open book that works stands on the disk, which has this journal in every image.
pub record IsOpenOn (settled : SettledBookState) (reads : List ℕ) (images : List ℕ → Type 0) (journal : List Receipt) : Type 0 where
  pub journal_is : settled.book.journal ≡ journal
  pub durable : IsDurable settled.book reads images
  pub stands : (file : List ℕ) → images file → StandsForJournal file journal

-- The disk's file stands for this journal, and the clock will still give these ticks; a book that is open and works stands there with it.
pub record Holds (at_hand : Option SettledBookState) (reads : List ℕ) (images : List ℕ → Type 0) (known : Option (List DayMinute)) (held : Held) : Type 0 where
  pub file : StandsForJournal reads held.journal
  pub clock : known ≡ Some held.ticks
  pub book : IfSome (working at_hand) (λ settled. IsOpenOn settled reads images held.journal)

-- a book that is open and works stands on the disk
abbrev pub StandsOpen : Option SettledBookState → List ℕ → (List ℕ → Type 0) → Type 0
StandsOpen at_hand reads images = IfSome (working at_hand) (λ settled. Stands settled.book reads images)

-- the file is no journal, or has a bad record
abbrev pub IsNoJournal : List ℕ → Type 0
IsNoJournal file = HasBookStanding file standing.Foreign ⊎ ((at : ℕ) × HasBookStanding file (standing.Bad at))

-- the file stands for no journal
abbrev pub StandsForNone : List ℕ → Type 0
StandsForNone file = (journal : List Receipt) → StandsForJournal file journal → ⊥

-- the file stands for a journal that begins with these receipts
pub record Begins (front : List Receipt) (file : List ℕ) : Type 0 where
  pub journal : List Receipt
  pub stands : StandsForJournal file journal
  pub begins : IsFront front journal
