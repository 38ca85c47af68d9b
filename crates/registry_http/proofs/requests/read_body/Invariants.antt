use Rattle.std.proofs.Common.{◌≡◌, ◌-◌, length}
use Rattle.registry_http.specs.inner.Reading.{HasHead, ReadsOn}
use Rattle.registry_http.proofs.requests.read_body.Given as goal

abbrev pub decreases-loop-link : goal.decreases-loop-link
decreases-loop-link g l = l.end - length l.bytes.items

abbrev pub invariant-loop-link : goal.invariant-loop-link
invariant-loop-link g l = record {
  block : length l.block ≡ 4096;
  head : HasHead l.bytes.items l.begun.method l.begun.path.items l.begun.len l.begun.body_len l.begun.last;
  reads : ReadsOn (g.L.Link.left l.fn.link) (g.L.Link.left l.link) l.fn.bytes.items l.bytes.items;
  written : g.L.Link.written l.link ≡ g.L.Link.written l.fn.link;
  quiet : g.L.Link.faults l.link ≡ g.L.Link.faults l.fn.link;
}
