use Rattle.std.proofs.Common.{◌≡◌, length, Some}
use Rattle.intake.specs.Answered.{Answered}
use Rattle.intake.specs.Grown.{DiskGrows}
use Rattle.intake.specs.Requests.{Held, held_after}
use Rattle.intake.proofs.RowsAnswered.{RowsSoFar}
use Rattle.intake.proofs.list_session.answer_rows.Given as goal

abbrev pub decreases-loop-request : goal.decreases-loop-request
decreases-loop-request g l = length l.list

abbrev pub invariant-loop-request : goal.invariant-loop-request
invariant-loop-request g l = record {
  so_far : RowsSoFar l.fn.list l.list (λ done. (held : Held) → g.J.Receiver.holds l.fn.receiver ≡ Some held
      → Answered g.J.Receiver.medium held (g.J.Receiver.holds l.receiver) (g.K.Sink.written l.fn.sink) (g.K.Sink.written l.sink) done
      × DiskGrows g.J.Receiver.reads g.J.Receiver.moment g.J.Receiver.since l.fn.receiver l.receiver held.journal (held_after g.J.Receiver.medium held done).journal);
  ready : g.J.Receiver.ready l.receiver;
  lent : g.J.Receiver.lent l.receiver ≡ g.J.Receiver.lent l.fn.receiver;
  quiet_sink : g.K.Sink.faults l.sink ≡ g.K.Sink.faults l.fn.sink;
  quiet_disk : g.J.Receiver.faults l.receiver ≡ g.J.Receiver.faults l.fn.receiver;
}
