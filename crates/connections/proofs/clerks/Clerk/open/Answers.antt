use Rattle.std.proofs.Common.{Ok, refl}
use Rattle.receipt_journal.specs.Standing.{Stands}
use Rattle.connections.specs.Holding.{IsOpenOn}
use Rattle.connections.proofs.ItemEnds.{some_works}
use Rattle.connections.proofs.TakenBooks.{finds_by_opening, to_working}
use Rattle.connections.proofs.clerks.Clerk.open.Goals as goal

pub returns-clause-opened : goal.returns-clause-opened
returns-clause-opened g c = some_works c.in_ok-book.book c.in_ok-book.ensures.works

pub returns-clause-holds : goal.returns-clause-holds
returns-clause-holds g c = λ tells held stands.
    let finds = finds_by_opening g.D.Disk.reads g.D.Disk.images g.D.Disk.moment g.D.Disk.since c.args.disk.now c.open.new.disk held.journal (Ok c.in_ok-book.book) stands (c.in_ok-book.ensures.opened tells)
    c.in_ok-book.ensures.records (c.in_ok-book.ensures.made tells) (c.in_ok-book.ensures.kept tells) (c.in_ok-book.ensures.torn tells) tt (c.in_ok-book.ensures.any_moment tells) in record {
      file = finds.file;
      clock = refl;
      book = to_working c.in_ok-book.book (λ s. IsOpenOn s (g.D.Disk.reads c.open.new.disk) (g.D.Disk.images c.open.new.disk) held.journal) finds.there;
    }

pub returns-clause-stands_open : goal.returns-clause-stands_open
returns-clause-stands_open g c = λ tells.
    to_working c.in_ok-book.book (λ s. Stands s.book (g.D.Disk.reads c.open.new.disk) (g.D.Disk.images c.open.new.disk)) (c.in_ok-book.ensures.opened tells).stands

pub returns-clause-journal : goal.returns-clause-journal
returns-clause-journal g c = λ tells. (c.in_ok-book.book.book.journal, (c.in_ok-book.ensures.opened tells).found)
