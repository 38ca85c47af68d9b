-- What is seen of a book with the register of its journal.
use Rattle.std.specs.Prelude.{◌≤◌, List, length, Option, IfSome}
use Rattle.act_model.specs.declared.receipts.Receipt.{Receipt}
use Rattle.receipt_journal.specs.BookState.{BookState}
use Rattle.registrar.specs.HasSettled.{HasSettled}
use Rattle.registrar.specs.RegisterState.{RegisterState}

-- the book, and the register of its first receipts; none where none is settled yet, or where memory ran out while it went on
pub record SettledBookState : Type 0 where
  pub book : BookState
  pub register : Option RegisterState

-- The register is that of the one registrar after the first receipts of a journal, all of them or fewer.
pub record HasSettledFirst (journal : List Receipt) (register : RegisterState) : Type 0 where
  pub settled : HasSettled journal register
  pub few : length register.verdicts ≤ length journal

-- a register, where there is one, is that of the one registrar after the first receipts of the journal
abbrev pub MayHaveSettled : List Receipt → Option RegisterState → Type 0
MayHaveSettled journal register = IfSome register (HasSettledFirst journal)
