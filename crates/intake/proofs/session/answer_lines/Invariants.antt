use Rattle.std.proofs.Common.{◌≡◌, ◌≤◌, ◌^◌, [], length, vec_len, Some}
use Rattle.intake.specs.Answered.{Answered}
use Rattle.intake.specs.Grown.{DiskGrows}
use Rattle.intake.specs.Requests.{Held, held_after}
use Rattle.intake.specs.Sessions.{behind, ended_requests, Took}
use Rattle.intake.proofs.session.answer_lines.Given as goal

abbrev pub invariant-loop : goal.invariant-loop
invariant-loop g l = record {
  short : l.count ≤ 2 ^ 26;
  counted : l.counter ≤ l.count;
  room : vec_len l.block ≡ 65536;
  took : Took (g.S.Source.left l.fn.source) (g.S.Source.left l.source) (λ read. (length read ≡ l.count) × (l.line.items ≡ behind [] read)
      × ((held : Held) → g.J.Receiver.holds l.fn.receiver ≡ Some held
      → Answered g.J.Receiver.medium held (g.J.Receiver.holds l.receiver) (g.K.Sink.written l.fn.sink) (g.K.Sink.written l.sink) (ended_requests l.fn.kind [] read)
      × DiskGrows g.J.Receiver.reads g.J.Receiver.moment g.J.Receiver.since l.fn.receiver l.receiver held.journal (held_after g.J.Receiver.medium held (ended_requests l.fn.kind [] read)).journal));
  ready : g.J.Receiver.ready l.receiver;
  lent : g.J.Receiver.lent l.receiver ≡ g.J.Receiver.lent l.fn.receiver;
  quiet_source : g.S.Source.faults l.source ≡ g.S.Source.faults l.fn.source;
  quiet_sink : g.K.Sink.faults l.sink ≡ g.K.Sink.faults l.fn.sink;
  quiet_disk : g.J.Receiver.faults l.receiver ≡ g.J.Receiver.faults l.fn.receiver;
}
