use Rattle.std.proofs.Common.{sym, subst}
use Rattle.gb_outside.specs.Faults.{Counts}
use Rattle.registry_office.proofs.OnDisk.{ok_of_writing, of_writing, unwritten_by, any_front}
use Rattle.registry_office.proofs.disk_settling.settle.Goals as goal

pub returns-clause-written : goal.returns-clause-written
returns-clause-written g c = λ ok. ok_of_writing c.write_report.result c.status_of_writing.result _ c.status_of_writing.ensures ok c.write_report.ensures.whole

pub returns-clause-part : goal.returns-clause-part
returns-clause-part g c = any_front c.write_report.result (g.K.Sink.written c.args.sink.now) (g.K.Sink.written c.write_report.new.sink) _ c.write_report.ensures.whole c.write_report.ensures.part

pub returns-clause-unwritten : goal.returns-clause-unwritten
returns-clause-unwritten g c = λ other sound. unwritten_by c.write_report.result c.status_of_writing.result _ c.status_of_writing.ensures c.write_report.ensures.unwritten other sound

pub returns-clause-write : goal.returns-clause-write
returns-clause-write g c = subst (Counts (g.K.Sink.faults c.args.sink.now) (g.K.Sink.faults c.write_report.new.sink)) (sym (of_writing c.write_report.result c.status_of_writing.result c.status_of_writing.ensures).1) c.write_report.ensures.cause

pub returns-clause-others : goal.returns-clause-others
returns-clause-others g c = (of_writing c.write_report.result c.status_of_writing.result c.status_of_writing.ensures).0
