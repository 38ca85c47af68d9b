use Rattle.std.proofs.Common.{rules, sym, ◌∙◌, subst}
use Rattle.gb_outside.specs.Faults.{Counts}
use Rattle.intake.specs.Intakes.{whole_of, cut_of}
use Rattle.intake.specs.declared.intakes.Intake.TheVariants.{OpeningList}
use Rattle.intake.specs.Requests.{holding}
use Rattle.intake.proofs.Durable.{durable_stands}
use Rattle.intake.proofs.TakenItems.{holds_by}
use Rattle.registry_office.specs.Statuses.{disk_fault}
use Rattle.registry_office.proofs.Lent.{first_name, second_name, third_name, failed_alike, receipts_alike, failed_there, durable_there, counts_there, received_there}
use Rattle.registry_office.proofs.Takings.{begins_of, failed_as, session_of_input, ok_by_status, long_by_status, short_by_status, of_session}
use Rattle.registry_office.proofs.Whole.{end_of_input}
use Rattle.registry_office.proofs.taking.take_list.Goals as goal

pub answer_list-requires-clause-ready : goal.answer_list-requires-clause-ready
answer_list-requires-clause-ready g c = record { works = c.requires.works; durable = c.requires.stands; stands = λ tells file image. durable_stands _ _ _ file (c.requires.stands tells) image }

pub returns-clause-session : goal.returns-clause-session
returns-clause-session g c = λ ticks input told.
    let held = holding c.args.book.now.journal ticks in
    let is = holds_by g.D.Disk.tells (g.C.Clock.ticks c.args.clock.now) c.args.book.now.journal ticks told.disk told.clock in
    received_there g.C.Clock.ticks _ _ _ _ _ _ _ _ _ c.answer_list.new.receiver.book.now.journal _ _ _ _ _ _ c.answer_list.new.receiver.disk.now _ c.answer_list.new.receiver.clock.now _ (search (rules, first_name, receipts_alike)) (search (rules, second_name)) (search (rules, third_name))
    (session_of_input (whole_of (OpeningList c.args.sender)) (cut_of (OpeningList c.args.sender)) (begins_of (OpeningList c.args.sender)) g.D.Disk.tells (g.C.Clock.ticks c.answer_list.new.receiver.clock.now) c.answer_list.new.receiver.book.now
    (g.S.Source.left c.args.source.now) (g.S.Source.left c.answer_list.new.source) (g.K.Sink.written c.args.sink.now) (g.K.Sink.written c.answer_list.new.sink)
    g.D.Disk.reads g.D.Disk.images g.D.Disk.moment g.D.Disk.since (λ r. r.disk.now) _ c.answer_list.new.receiver held input told.source (λ file tells left. g.met.D.Disk.only_now c.answer_list.new.receiver.disk.now file tells left)
    c.answer_list.result c.status_of.result c.status_of.ensures (c.answer_list.ensures.all held is) (c.answer_list.ensures.cut held is) (c.answer_list.ensures.part held is) c.answer_list.ensures.ready)

pub returns-clause-works : goal.returns-clause-works
returns-clause-works g c =
    failed_there _ c.answer_list.new.receiver.book.now.log.failed (disk_fault c.status_of.result) (search (rules, first_name, failed_alike))
    (failed_as _ (disk_fault c.status_of.result) (λ worked. (c.answer_list.ensures.ready (sym (of_session c.answer_list.result c.status_of.result c.status_of.ensures).3 ∙ worked)).works)
    (λ fault. c.answer_list.ensures.works (sym (of_session c.answer_list.result c.status_of.result c.status_of.ensures).3 ∙ fault)))

pub returns-clause-stands : goal.returns-clause-stands
returns-clause-stands g c = λ tells worked.
    durable_there g.D.Disk.reads g.D.Disk.images _ c.answer_list.new.receiver.book.now _ c.answer_list.new.receiver.disk.now (search (rules, first_name)) (search (rules, second_name))
    ((c.answer_list.ensures.ready (sym (of_session c.answer_list.result c.status_of.result c.status_of.ensures).3 ∙ worked)).durable tells)

pub returns-clause-at_end : goal.returns-clause-at_end
returns-clause-at_end g c = λ ok.
    end_of_input (g.S.Source.left c.args.source.now) (g.S.Source.left c.answer_list.new.source) (ok_by_status c.answer_list.result c.status_of.result _ c.status_of.ensures ok c.answer_list.ensures.at_end)

pub returns-clause-short : goal.returns-clause-short
returns-clause-short g c = λ other. c.answer_list.ensures.short (short_by_status c.answer_list.result c.status_of.result c.status_of.ensures other)

pub returns-clause-long : goal.returns-clause-long
returns-clause-long g c = λ long. c.answer_list.ensures.long (long_by_status c.answer_list.result (sym c.status_of.ensures ∙ long))

pub returns-clause-read : goal.returns-clause-read
returns-clause-read g c = subst (Counts (g.S.Source.faults c.args.source.now) (g.S.Source.faults c.answer_list.new.source)) (sym (of_session c.answer_list.result c.status_of.result c.status_of.ensures).1) c.answer_list.ensures.read_cause

pub returns-clause-write : goal.returns-clause-write
returns-clause-write g c = subst (Counts (g.K.Sink.faults c.args.sink.now) (g.K.Sink.faults c.answer_list.new.sink)) (sym (of_session c.answer_list.result c.status_of.result c.status_of.ensures).2) c.answer_list.ensures.write_cause

pub returns-clause-disk : goal.returns-clause-disk
returns-clause-disk g c =
    counts_there g.D.Disk.faults c.args.disk.now _ c.answer_list.new.receiver.disk.now (disk_fault c.status_of.result) (search (rules, second_name))
    (subst (Counts (g.D.Disk.faults c.args.disk.now) (g.D.Disk.faults c.answer_list.new.receiver.disk.now)) (sym (of_session c.answer_list.result c.status_of.result c.status_of.ensures).3) c.answer_list.ensures.disk_cause)

pub returns-clause-others : goal.returns-clause-others
returns-clause-others g c = (of_session c.answer_list.result c.status_of.result c.status_of.ensures).0
