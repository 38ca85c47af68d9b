use Rattle.std.proofs.Common.{ap, sym, ◌∙◌}
use Rattle.settled_book.proofs.RegisterTold.{nothing_is_read}
use Rattle.settled_book.specs.Texts.{text_of}
use Rattle.settled_book.proofs.books.SettledBook.text.Goals as goal

pub returns-in-Post-clause-text : goal.returns-in-Post-clause-text
returns-in-Post-clause-text c = nothing_is_read c.args.self.now.book.journal ∙ ap (text_of c.args.self.now.book.journal) (sym c.in-Post.is)
