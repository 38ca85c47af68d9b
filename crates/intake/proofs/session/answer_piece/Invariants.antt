use Rattle.std.proofs.Common.{◌≡◌, length, Some}
use Rattle.intake.specs.Answered.{Answered}
use Rattle.intake.specs.Grown.{DiskGrows}
use Rattle.intake.specs.Requests.{Held, held_after}
use Rattle.intake.specs.Sessions.{ended_requests}
use Rattle.intake.proofs.LineRequests.{SoFar}
use Rattle.intake.proofs.session.answer_piece.Given as goal

abbrev pub decreases-loop-end : goal.decreases-loop-end
decreases-loop-end g l = length l.rest

abbrev pub invariant-loop-end : goal.invariant-loop-end
invariant-loop-end g l = record {
  so_far : SoFar l.fn.piece l.rest l.fn.line.items l.line.items (λ done. (held : Held) → g.J.Receiver.holds l.fn.receiver ≡ Some held
      → Answered g.J.Receiver.medium held (g.J.Receiver.holds l.receiver) (g.K.Sink.written l.fn.sink) (g.K.Sink.written l.sink) (ended_requests l.fn.kind l.fn.line.items done)
      × DiskGrows g.J.Receiver.reads g.J.Receiver.moment g.J.Receiver.since l.fn.receiver l.receiver held.journal (held_after g.J.Receiver.medium held (ended_requests l.fn.kind l.fn.line.items done)).journal);
  ready : g.J.Receiver.ready l.receiver;
  lent : g.J.Receiver.lent l.receiver ≡ g.J.Receiver.lent l.fn.receiver;
  quiet_sink : g.K.Sink.faults l.sink ≡ g.K.Sink.faults l.fn.sink;
  quiet_disk : g.J.Receiver.faults l.receiver ≡ g.J.Receiver.faults l.fn.receiver;
}
