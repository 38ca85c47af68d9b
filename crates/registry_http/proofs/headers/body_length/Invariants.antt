use Rattle.std.proofs.Common.{◌≡◌, map, drop, codes}
use Rattle.httparse.specs.Spans.{header_bytes}
use Rattle.registry_http.specs.Heads.{values_of, length_in}
use Rattle.registry_http.proofs.Lengths.{length_from}
use Rattle.registry_http.proofs.headers.body_length.Given as goal

abbrev pub invariant-loop-span : goal.invariant-loop-span
invariant-loop-span l =
    length_from l.length (values_of (codes "content-length") (map (header_bytes l.bytes) (drop l.span-index l.headers)))
    ≡ length_in (values_of (codes "content-length") (map (header_bytes l.bytes) l.headers))
