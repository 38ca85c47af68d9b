use Rattle.std.proofs.Common.{◌≡◌, ◌≤◌, ◌^◌, length, vec_len}
use Rattle.intake.specs.Sessions.{Took}
use Rattle.intake.proofs.inputs.read_whole.Given as goal

abbrev pub invariant-loop : goal.invariant-loop
invariant-loop g l = record {
  short : l.count ≤ 2 ^ 26;
  counted : l.counter ≤ l.count;
  room : vec_len l.block ≡ 65536;
  took : Took (g.S.Source.left l.fn.source) (g.S.Source.left l.source) (λ read. (length read ≡ l.count) × (l.input.items ≡ read));
  quiet_source : g.S.Source.faults l.source ≡ g.S.Source.faults l.fn.source;
}
