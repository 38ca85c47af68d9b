-- The calls to come can be made, and lead to where all of them do.
use Rattle.std.proofs.Common.{◌≡◌, drop}
use Rattle.gb_outside.specs.inner.Remaking.{remade, CanRemake}
use Rattle.gb_outside.proofs.stops.Replay.make_all.Given as goal

abbrev pub invariant-loop-call : goal.invariant-loop-call
invariant-loop-call l = record {
  can : CanRemake l.fill l.self (drop l.call-index l.calls);
  so_far : remade l.fill l.self (drop l.call-index l.calls) ≡ remade l.fill l.fn.self l.calls;
}
