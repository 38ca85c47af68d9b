use Rattle.std.proofs.Common.{sym, subst}
use Rattle.intake.specs.Intakes.{whole_of, cut_of}
use Rattle.registry_office.specs.Receivings.{SessionReceives}
use Rattle.intake.specs.Requests.{holding}
use Rattle.intake.specs.declared.intakes.Intake.{Intake}
use Rattle.registry_office.proofs.receiving.receive.Goals as goal

pub returns-in-Lines-clause-session : goal.returns-in-Lines-clause-session
returns-in-Lines-clause-session g c = λ ticks input told.
    subst (λ (intake : Intake). SessionReceives (whole_of intake) (cut_of intake) (holding c.args.book.now.journal ticks) input (g.S.Source.left c.args.source.now) (g.S.Source.left c.take.new.source) (g.C.Clock.ticks c.take.new.clock)
    (g.K.Sink.written c.args.sink.now) (g.K.Sink.written c.take.new.sink) c.take.new.book.journal g.D.Disk.reads g.D.Disk.images g.D.Disk.moment g.D.Disk.since c.args.disk.now c.take.new.disk c.take.result)
    (sym c.in-Lines.is) (c.take.ensures.session ticks input told)

pub returns-in-OpeningList-clause-session : goal.returns-in-OpeningList-clause-session
returns-in-OpeningList-clause-session g c = λ ticks input told.
    subst (λ (intake : Intake). SessionReceives (whole_of intake) (cut_of intake) (holding c.args.book.now.journal ticks) input (g.S.Source.left c.args.source.now) (g.S.Source.left c.take_list.new.source) (g.C.Clock.ticks c.take_list.new.clock)
    (g.K.Sink.written c.args.sink.now) (g.K.Sink.written c.take_list.new.sink) c.take_list.new.book.journal g.D.Disk.reads g.D.Disk.images g.D.Disk.moment g.D.Disk.since c.args.disk.now c.take_list.new.disk c.take_list.result)
    (sym c.in-OpeningList.is) (c.take_list.ensures.session ticks input told)
