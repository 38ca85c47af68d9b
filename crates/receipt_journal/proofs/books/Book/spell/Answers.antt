use Rattle.receipt_journal.specs.Receiving.{next_receipt}
use Rattle.receipt_journal.proofs.ShortSpellings.{receipt_len}
use Rattle.receipt_journal.proofs.books.Book.spell.Goals as goal

pub returns-clause-short : goal.returns-clause-short
returns-clause-short c = receipt_len (next_receipt c.args.self.now.journal c.args.stamp c.args.sender c.args.reference c.args.item.now) c.is_short-short.ensures.lists
