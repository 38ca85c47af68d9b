use Rattle.std.proofs.Common.{◌≡◌, ◌-◌, ◌≤◌, length, take}
use Rattle.std.specs.Io.KnownBytes.{Appends}
use Rattle.intake.proofs.writing.write_all.Given as goal

abbrev pub decreases-loop-done : goal.decreases-loop-done
decreases-loop-done g l = length l.initial.text - l.done

abbrev pub invariant-loop-done : goal.invariant-loop-done
invariant-loop-done g l =
    (l.done ≤ length l.text)
    × Appends (g.K.Sink.written l.fn.sink) (g.K.Sink.written l.sink) (take l.done l.text)
    × (g.K.Sink.faults l.sink ≡ g.K.Sink.faults l.fn.sink)
