use Rattle.std.proofs.Common.{sym, subst}
use Rattle.gb_outside.specs.Faults.{Counts}
use Rattle.registry_office.proofs.OnDisk.{ok_of_writing, of_writing, unwritten_by, any_front, IsWriting, is_writing}
use Rattle.registry_office.proofs.sampling.settle_sample.Goals as goal

-- the status is one of writing
written : (g : _) (c : goal.After-status_of_writing g) → IsWriting c.status_of_writing.result
written g c = is_writing c.status_of_writing.result (of_writing c.write_summary.result c.status_of_writing.result c.status_of_writing.ensures).0

pub returns-clause-written : goal.returns-clause-written
returns-clause-written g c = λ ok. ok_of_writing c.write_summary.result c.status_of_writing.result _ c.status_of_writing.ensures ok c.write_summary.ensures.whole

pub returns-clause-part : goal.returns-clause-part
returns-clause-part g c = any_front c.write_summary.result (g.K.Sink.written c.args.sink.now) (g.K.Sink.written c.write_summary.new.sink) _ c.write_summary.ensures.whole c.write_summary.ensures.part

pub returns-clause-unwritten : goal.returns-clause-unwritten
returns-clause-unwritten g c = λ other sound. unwritten_by c.write_summary.result c.status_of_writing.result _ c.status_of_writing.ensures c.write_summary.ensures.unwritten other sound

pub returns-clause-write : goal.returns-clause-write
returns-clause-write g c = subst (Counts (g.K.Sink.faults c.args.sink.now) (g.K.Sink.faults c.write_summary.new.sink)) (sym (of_writing c.write_summary.result c.status_of_writing.result c.status_of_writing.ensures).1) c.write_summary.ensures.cause

pub returns-clause-no_usage : goal.returns-clause-no_usage
returns-clause-no_usage g c = (written g c).not_usage

pub returns-clause-no_disk : goal.returns-clause-no_disk
returns-clause-no_disk g c = ((written g c).no_disk, (written g c).opened)

pub returns-clause-no_input : goal.returns-clause-no_input
returns-clause-no_input g c = ((written g c).no_read, (written g c).not_long)

pub returns-clause-no_door : goal.returns-clause-no_door
returns-clause-no_door g c = (written g c).no_door
