use Rattle.std.proofs.Common.{◌≡◌, drop}
use Rattle.registry_http.specs.inner.Lines.{after_bytes}
use Rattle.registry_http.proofs.lines.Lines.after_all.Given as goal

abbrev pub invariant-loop-byte : goal.invariant-loop-byte
invariant-loop-byte l = after_bytes l.lines (drop l.byte-index l.bytes) ≡ after_bytes l.fn.self l.fn.bytes
