use Rattle.std.proofs.Common.{◌≡◌, length, map, drop, nat_lt}
use Rattle.httparse.specs.Spans.{header_bytes}
use Rattle.registry_http.specs.Heads.{values_of}
use Rattle.registry_http.proofs.headers.has_header.Given as goal

abbrev pub invariant-loop-span : goal.invariant-loop-span
invariant-loop-span l =
    nat_lt 0 (length (values_of l.name (map (header_bytes l.bytes) (drop l.span-index l.headers))))
    ≡ nat_lt 0 (length (values_of l.name (map (header_bytes l.bytes) l.headers)))
