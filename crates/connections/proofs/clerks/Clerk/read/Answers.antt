use Rattle.std.proofs.Common.{◌==◌, ap, false, sym, subst, ◌∙◌}
use Rattle.gb_outside.specs.Faults.{Counts}
use Rattle.intake.proofs.Durable.{front_refl}
use Rattle.receipt_journal.specs.BookState.{BookState}
use Rattle.receipt_journal.specs.Standing.{Stands}
use Rattle.connections.specs.Answers.{only, read_reply}
use Rattle.connections.specs.inner.Taking.{failure_of}
use Rattle.connections.proofs.BookEnds.{ends_read, ends_unopened, read_settled, read_status, text_status}
use Rattle.connections.proofs.EndsBy.{never_true}
use Rattle.connections.proofs.ItemEnds.{some_works}
use Rattle.connections.proofs.ByDiskAlone.{failed_so, failure_to_text, opened, stands_after, unopened}
use Rattle.connections.proofs.clerks.Clerk.read.Goals as goal

pub returns-in-Err-clause-ends : goal.returns-in-Err-clause-ends
returns-in-Err-clause-ends g c = λ tells known held holds.
    ends_unopened g.D.Disk.reads g.D.Disk.images g.D.Disk.moment g.D.Disk.since c.args.disk.now c.take_book.new.disk held known holds.clock
    (only held (read_reply held.journal c.args.route)) c.in-Err.fault c.unopened.result c.take_book.new.self c.unopened.ensures c.take_book.ensures.taken
    (c.in-Err.ensures.finds tells held.journal holds.file holds.book) (front_refl held.journal)

pub returns-in-Err-clause-serves : goal.returns-in-Err-clause-serves
returns-in-Err-clause-serves g c =
    unopened g.D.Disk.tells g.D.Disk.reads g.D.Disk.images g.D.Disk.moment g.D.Disk.since g.D.Disk.faults c.args.disk.now c.take_book.new.disk c.args.self.now
    c.unopened.result c.take_book.new.self c.in-Err.fault c.unopened.ensures c.take_book.ensures.taken c.take_book.ensures.no_book c.take_book.ensures.made
    (λ told. c.in-Err.ensures.refused told) c.in-Err.ensures.had_none c.in-Err.ensures.cause

pub returns-clause-ends : goal.returns-clause-ends
returns-clause-ends g c = λ tells known held holds.
    ends_read g.D.Disk.reads g.D.Disk.images g.D.Disk.moment g.D.Disk.since c.args.disk.now c.take_book.new.disk held known holds.clock
    (λ t. t.items) c.args.route c.in-Ok.book c.text-text.new.self c.text-text.result c.read.result (g.met.D.Disk.reads_is_image c.take_book.new.disk tells)
    (c.in-Ok.ensures.finds tells held.journal holds.file holds.book) c.in-Ok.ensures.works c.text-text.ensures.book c.text-text.ensures.text c.read.ensures.found c.read.ensures.fault

pub returns-clause-serves : goal.returns-clause-serves
returns-clause-serves g c =
    let status = read_status (λ t. t.items) c.text-text.result c.read.result c.read.ensures.found c.read.ensures.fault in
    opened g.D.Disk.tells g.D.Disk.reads g.D.Disk.images g.D.Disk.moment g.D.Disk.since g.D.Disk.faults c.args.disk.now c.take_book.new.disk c.args.self.now c.read.result c.text-text.new.self
    (λ sound. some_works c.text-text.new.self (ap (λ (b : BookState). b.log.failed) c.text-text.ensures.book ∙ c.in-Ok.ensures.works))
    (λ is. never_true (c.read.result.status == 503) _ status.disk is)
    (λ told. stands_after c.text-text.new.self (g.D.Disk.reads c.take_book.new.disk) (g.D.Disk.images c.take_book.new.disk) false
    (ap (λ (b : BookState). b.log.failed) c.text-text.ensures.book ∙ c.in-Ok.ensures.works)
    (λ sound. subst (λ (b : BookState). Stands b (g.D.Disk.reads c.take_book.new.disk) (g.D.Disk.images c.take_book.new.disk)) (sym c.text-text.ensures.book) (c.in-Ok.ensures.stands told)))
    (subst (λ b. Counts (g.D.Disk.faults c.args.disk.now) (g.D.Disk.faults c.take_book.new.disk) b) (sym status.disk) c.in-Ok.ensures.cause)
    status.no_journal status.known c.take_book.ensures.made (λ told none. c.in-Ok.ensures.journal told none)

pub returns-in-Err-clause-says : goal.returns-in-Err-clause-says
returns-in-Err-clause-says g c = failure_to_text c.unopened.result (failure_of c.in-Err.fault, c.unopened.ensures)

pub returns-clause-says : goal.returns-clause-says
returns-clause-says g c = text_status (λ t. t.items) c.text-text.result c.read.result c.read.ensures.found c.read.ensures.fault

pub returns-in-Err-clause-unfound : goal.returns-in-Err-clause-unfound
returns-in-Err-clause-unfound g c = λ tells was none. (failure_of c.in-Err.fault, c.unopened.ensures)

pub returns-clause-unfound : goal.returns-clause-unfound
returns-clause-unfound g c = λ tells was none. let found = c.in-Ok.ensures.journal tells was in absurd (none found.0 found.1)

pub returns-in-Err-clause-settled : goal.returns-in-Err-clause-settled
returns-in-Err-clause-settled g c = λ reads sound. failed_so c.unopened.result _ (failure_of c.in-Err.fault, c.unopened.ensures) sound

pub returns-clause-settled : goal.returns-clause-settled
returns-clause-settled g c = λ reads sound.
    read_settled c.args.route c.in-Ok.book c.text-text.new.self c.text-text.result c.read.result c.text-text.ensures.book c.text-text.ensures.settled c.read.ensures.fault reads sound

pub returns-in-Err-clause-works : goal.returns-in-Err-clause-works
returns-in-Err-clause-works g c = λ sound. failed_so c.unopened.result _ (failure_of c.in-Err.fault, c.unopened.ensures) sound

pub returns-clause-works : goal.returns-clause-works
returns-clause-works g c = λ sound. some_works c.text-text.new.self (ap (λ (b : BookState). b.log.failed) c.text-text.ensures.book ∙ c.in-Ok.ensures.works)
