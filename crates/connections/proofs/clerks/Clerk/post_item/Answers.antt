use Rattle.std.proofs.Common.{◌∙◌, ap, inl, inr, refl, sym, subst, true}
use Rattle.gb_outside.specs.Faults.{Counts}
use Rattle.receipt_journal.specs.Receiving.{receiving_disk_failed}
use Rattle.connections.specs.Answers.{item_answer}
use Rattle.connections.specs.Holding.{working}
use Rattle.connections.specs.inner.Taking.{failure_of}
use Rattle.connections.proofs.BookEnds.{ends_unopened}
use Rattle.connections.proofs.Grows.{item_grows}
use Rattle.connections.proofs.ItemEnds.{item_ends, some_works}
use Rattle.connections.proofs.ByDiskAlone.{counts_then, failed_so, item_status, no_disk_failed_in, none_open, not_received, opened, some_or, stands_after, status_of_item, unopened}
use Rattle.connections.proofs.TakenBooks.{failed_is}
use Rattle.connections.proofs.clerks.Clerk.post_item.Goals as goal

pub returns-in-Err-clause-ends : goal.returns-in-Err-clause-ends
returns-in-Err-clause-ends g c = λ tells held holds.
    ends_unopened g.D.Disk.reads g.D.Disk.images g.D.Disk.moment g.D.Disk.since c.args.disk.now c.take_book.new.disk held (g.C.Clock.ticks c.args.clock.now) holds.clock
    (item_answer held c.args.from c.args.item.now) c.in-Err.fault c.unopened.result c.take_book.new.self c.unopened.ensures c.take_book.ensures.taken
    (c.in-Err.ensures.finds tells held.journal holds.file holds.book) (item_grows held c.args.from c.args.item.now)

pub returns-in-Err-clause-serves : goal.returns-in-Err-clause-serves
returns-in-Err-clause-serves g c =
    unopened g.D.Disk.tells g.D.Disk.reads g.D.Disk.images g.D.Disk.moment g.D.Disk.since g.D.Disk.faults c.args.disk.now c.take_book.new.disk c.args.self.now
    c.unopened.result c.take_book.new.self c.in-Err.fault c.unopened.ensures c.take_book.ensures.taken c.take_book.ensures.no_book c.take_book.ensures.made
    (λ told. c.in-Err.ensures.refused told) c.in-Err.ensures.had_none c.in-Err.ensures.cause

pub returns-clause-ends : goal.returns-clause-ends
returns-clause-ends g c = λ tells held holds.
    let finds = c.in-Ok.ensures.finds tells held.journal holds.file holds.book in
    item_ends g.D.Disk.reads g.D.Disk.images g.D.Disk.moment g.D.Disk.since c.args.disk.now c.take_book.new.disk c.receive-answer.new.disk (g.met.D.Disk.reads_is_image c.receive-answer.new.disk tells)
    held c.args.from c.args.item.now c.received.result c.receive-answer.new.book (g.C.Clock.ticks c.receive-answer.new.clock) finds.left finds.written
    c.receive-answer.result (c.receive-answer.ensures.receives tells held holds.clock finds.there) c.receive-answer.ensures.opened c.receive-answer.ensures.failed c.received.ensures

pub returns-clause-serves : goal.returns-clause-serves
returns-clause-serves g c =
    let status = status_of_item c.receive-answer.result c.received.result c.receive-answer.ensures.opened c.received.ensures in
    opened g.D.Disk.tells g.D.Disk.reads g.D.Disk.images g.D.Disk.moment g.D.Disk.since g.D.Disk.faults c.args.disk.now c.receive-answer.new.disk c.args.self.now c.received.result c.receive-answer.new.book
    (λ sound. some_works c.receive-answer.new.book (c.receive-answer.ensures.failed ∙ sym status.disk ∙ sound))
    (λ is. failed_is c.receive-answer.new.book (c.receive-answer.ensures.failed ∙ sym status.disk ∙ is))
    (λ told. stands_after c.receive-answer.new.book (g.D.Disk.reads c.receive-answer.new.disk) (g.D.Disk.images c.receive-answer.new.disk) (receiving_disk_failed c.receive-answer.result)
    c.receive-answer.ensures.failed (λ sound. c.receive-answer.ensures.stands told sound))
    (subst (λ b. Counts (g.D.Disk.faults c.args.disk.now) (g.D.Disk.faults c.receive-answer.new.disk) b) (sym status.disk)
    (counts_then (g.D.Disk.faults c.args.disk.now) (g.D.Disk.faults c.take_book.new.disk) (g.D.Disk.faults c.receive-answer.new.disk) (receiving_disk_failed c.receive-answer.result)
    c.in-Ok.ensures.cause c.receive-answer.ensures.cause))
    status.no_journal status.known (λ told was. c.receive-answer.ensures.made told (c.take_book.ensures.made told was)) (λ told none. c.in-Ok.ensures.journal told none)

pub returns-in-Err-clause-unfound : goal.returns-in-Err-clause-unfound
returns-in-Err-clause-unfound g c = λ tells was none. (failure_of c.in-Err.fault, c.unopened.ensures)

pub returns-clause-unfound : goal.returns-clause-unfound
returns-clause-unfound g c = λ tells was none. let found = c.in-Ok.ensures.journal tells was in absurd (none found.0 found.1)

pub returns-in-Err-clause-works : goal.returns-in-Err-clause-works
returns-in-Err-clause-works g c = λ sound. failed_so c.unopened.result _ (failure_of c.in-Err.fault, c.unopened.ensures) sound

pub returns-clause-works : goal.returns-clause-works
returns-clause-works g c = λ sound.
    let status = status_of_item c.receive-answer.result c.received.result c.receive-answer.ensures.opened c.received.ensures in
    some_works c.receive-answer.new.book (c.receive-answer.ensures.failed ∙ sym status.disk ∙ no_disk_failed_in c.received.result sound)

pub returns-in-Err-clause-unreceived : goal.returns-in-Err-clause-unreceived
returns-in-Err-clause-unreceived g c = λ works other sound. failed_so c.unopened.result _ (failure_of c.in-Err.fault, c.unopened.ensures) sound

pub returns-clause-unreceived : goal.returns-clause-unreceived
returns-clause-unreceived g c = λ works other sound.
    let status = status_of_item c.receive-answer.result c.received.result c.receive-answer.ensures.opened c.received.ensures in
    c.receive-answer.ensures.untouched (not_received c.receive-answer.result c.received.result c.received.ensures other sound) (sym status.disk ∙ no_disk_failed_in c.received.result sound)
    ∙ c.take_book.ensures.untouched works

pub returns-clause-same_clock : goal.returns-clause-same_clock
returns-clause-same_clock g c = λ tells was none. let found = c.in-Ok.ensures.journal tells was in absurd (none found.0 found.1)

-- ---- the clock, and what is settled

pub returns-in-Err-clause-asked : goal.returns-in-Err-clause-asked
returns-in-Err-clause-asked g c = inl (record { had_none = c.in-Err.ensures.had_none; none = ap working c.take_book.ensures.taken; clock = refl; failed = (failure_of c.in-Err.fault, c.unopened.ensures) })

pub returns-clause-asked : goal.returns-clause-asked
returns-clause-asked g c =
    let status = status_of_item c.receive-answer.result c.received.result c.receive-answer.ensures.opened c.received.ensures in
    inr (record {
      book = some_or (working c.args.self.now) _ c.in-Ok.ensures.opens;
      stamp = c.receive-answer.ensures.asked.0;
      asked = c.receive-answer.ensures.asked.1;
      says = item_status c.receive-answer.result c.received.result c.received.ensures;
      there = refl {a = true};
      works = λ sound. some_works c.receive-answer.new.book (c.receive-answer.ensures.failed ∙ sym status.disk ∙ sound);
    })

pub returns-in-Err-clause-unread : goal.returns-in-Err-clause-unread
returns-in-Err-clause-unread g c = λ some. none_open (working c.args.self.now) _ c.in-Err.ensures.had_none some

pub returns-clause-unread : goal.returns-clause-unread
returns-clause-unread g c = λ some. c.receive-answer.ensures.register ∙ c.in-Ok.ensures.register some
