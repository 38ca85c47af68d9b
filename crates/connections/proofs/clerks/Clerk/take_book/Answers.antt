use Rattle.std.proofs.Common.{◌∙◌, sym, subst, Option, IfSome}
use Rattle.settled_book.specs.SettledBookState.{SettledBookState}
use Rattle.connections.specs.Holding.{IsOpenOn}
use Rattle.receipt_journal.specs.Opening.{book_opening_disk_failed}
use Rattle.connections.proofs.MadeFiles.{made_kept}
use Rattle.connections.proofs.NoBook.{none_opened, one_open}
use Rattle.connections.proofs.TakenBooks.{finds_at_hand, finds_by_opening, opened_journal, opens_book, working_register}
use Rattle.connections.proofs.clerks.Clerk.take_book.Goals as goal

pub returns-in-Some-clause-finds : goal.returns-in-Some-clause-finds
returns-in-Some-clause-finds g c = λ tells journal stands on.
    finds_at_hand g.D.Disk.reads g.D.Disk.images g.D.Disk.moment g.D.Disk.since c.args.disk.now journal c.in-Some.book (λ file left. g.met.D.Disk.only_now c.args.disk.now file tells left) stands
    (subst (λ (o : Option SettledBookState). IfSome o (λ settled. IsOpenOn settled (g.D.Disk.reads c.args.disk.now) (g.D.Disk.images c.args.disk.now) journal))
    (sym c.take_working.ensures.value ∙ c.in-Some.is) on)

pub returns-clause-finds : goal.returns-clause-finds
returns-clause-finds g c = λ tells journal stands on.
    finds_by_opening g.D.Disk.reads g.D.Disk.images g.D.Disk.moment g.D.Disk.since c.args.disk.now c.open.new.disk journal c.open.result stands (c.open.ensures.opened tells)
    c.open.ensures.records (c.open.ensures.made tells) (c.open.ensures.kept tells) (c.open.ensures.torn tells) (c.open.ensures.refused tells) (c.open.ensures.any_moment tells)

pub returns-clause-journal : goal.returns-clause-journal
returns-clause-journal g c = λ tells none. opened_journal _ _ _ c.open.result (c.open.ensures.opened tells)

pub returns-in-Some-clause-register : goal.returns-in-Some-clause-register
returns-in-Some-clause-register g c = λ some. working_register c.args.self.now c.in-Some.book (sym c.take_working.ensures.value ∙ c.in-Some.is)

pub returns-in-Some-clause-opens : goal.returns-in-Some-clause-opens
returns-in-Some-clause-opens g c = λ was. one_open c.args.self.now c.in-Some.book _ (sym c.take_working.ensures.value ∙ c.in-Some.is) was

pub returns-clause-opens : goal.returns-clause-opens
returns-clause-opens g c = λ was. opens_book g.D.Disk.tells g.D.Disk.reads g.D.Disk.images g.D.Disk.faults c.args.disk.now c.open.new.disk c.open.result c.open.ensures.works c.open.ensures.opened c.open.ensures.cause

pub returns-in-Some-clause-no_book : goal.returns-in-Some-clause-no_book
returns-in-Some-clause-no_book g c = λ tells was none. one_open c.args.self.now c.in-Some.book _ (sym c.take_working.ensures.value ∙ c.in-Some.is) was

pub returns-clause-no_book : goal.returns-clause-no_book
returns-clause-no_book g c = λ tells was none.
    none_opened g.D.Disk.reads g.D.Disk.images g.D.Disk.moment g.D.Disk.since c.args.disk.now c.open.new.disk c.take_working.new.self (book_opening_disk_failed c.open.result)
    (g.met.D.Disk.reads_is_image c.args.disk.now tells) c.take_working.ensures.taken (c.open.ensures.kept tells) (c.open.ensures.any_moment tells) none

pub returns-clause-made : goal.returns-clause-made
returns-clause-made g c = λ tells was. made_kept (g.D.Disk.reads c.args.disk.now) (g.D.Disk.reads c.open.new.disk) (c.open.ensures.kept tells) was
