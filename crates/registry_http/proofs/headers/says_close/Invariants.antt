use Rattle.std.proofs.Common.{◌≡◌, map, drop, codes}
use Rattle.std.specs.List.{list_any}
use Rattle.std.specs.Str.{str_eq_ignore_ascii_case}
use Rattle.httparse.specs.Spans.{header_bytes}
use Rattle.registry_http.specs.Heads.{values_of}
use Rattle.registry_http.proofs.headers.says_close.Given as goal

abbrev pub invariant-loop-span : goal.invariant-loop-span
invariant-loop-span l =
    list_any (λ value. str_eq_ignore_ascii_case value (codes "close")) (values_of (codes "connection") (map (header_bytes l.bytes) (drop l.span-index l.headers)))
    ≡ list_any (λ value. str_eq_ignore_ascii_case value (codes "close")) (values_of (codes "connection") (map (header_bytes l.bytes) l.headers))
