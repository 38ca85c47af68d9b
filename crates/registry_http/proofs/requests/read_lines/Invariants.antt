use Rattle.std.proofs.Common.{◌≡◌, ◌-◌, length}
use Rattle.registry_http.specs.declared.lines.Lines.TheVariants.{Ahead}
use Rattle.registry_http.specs.inner.Lines.{after_bytes}
use Rattle.registry_http.specs.inner.Reading.{ReadsOn}
use Rattle.registry_http.proofs.requests.read_lines.Given as goal

abbrev pub decreases-loop-lines : goal.decreases-loop-lines
decreases-loop-lines g l = 8192 - length l.bytes.items

abbrev pub invariant-loop-lines : goal.invariant-loop-lines
invariant-loop-lines g l = record {
  block : length l.block ≡ 4096;
  lines : l.lines ≡ after_bytes Ahead l.bytes.items;
  reads : ReadsOn (g.L.Link.left l.fn.link) (g.L.Link.left l.link) l.fn.bytes.items l.bytes.items;
  written : g.L.Link.written l.link ≡ g.L.Link.written l.fn.link;
  quiet : g.L.Link.faults l.link ≡ g.L.Link.faults l.fn.link;
}
