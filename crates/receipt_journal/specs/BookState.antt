-- What is seen of a book.
use Rattle.std.specs.Prelude.{List}
use Rattle.act_model.specs.declared.receipts.Receipt.{Receipt}
use Rattle.journal_disk.specs.LogState.{LogState}

-- the receipts of its journal, and the log that keeps them
pub record BookState : Type 0 where
  pub journal : List Receipt
  pub log : LogState
