use Rattle.std.proofs.Common.{◌≡◌, ◌-◌, ◌≤◌, length, take}
use Rattle.std.specs.Io.KnownBytes.{Appends}
use Rattle.registry_http.proofs.replies.write_all.Given as goal

abbrev pub decreases-loop-done : goal.decreases-loop-done
decreases-loop-done g l = length l.initial.bytes - l.done

abbrev pub invariant-loop-done : goal.invariant-loop-done
invariant-loop-done g l = record {
  fits : l.done ≤ length l.bytes;
  so_far : Appends (g.L.Link.written l.fn.link) (g.L.Link.written l.link) (take l.done l.bytes);
  left : g.L.Link.left l.link ≡ g.L.Link.left l.fn.link;
  quiet : g.L.Link.faults l.link ≡ g.L.Link.faults l.fn.link;
}
