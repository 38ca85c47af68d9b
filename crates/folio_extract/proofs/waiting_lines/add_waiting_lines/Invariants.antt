use Rattle.std.proofs.Common.{◌≡◌, ◌++◌, drop}
use Rattle.std.specs.List.{flat_map}
use Rattle.std.specs.String.{string_bytes}
use Rattle.folio_extract.specs.Extracts.{waiting_line}
use Rattle.folio_extract.specs.inner.WaitsAt.{waits_at_text}
use Rattle.folio_extract.proofs.waiting_lines.add_waiting_lines.Given as goal

abbrev pub invariant-loop-waiting : goal.invariant-loop-waiting
invariant-loop-waiting l =
    string_bytes l.text ++ flat_map (waiting_line (waits_at_text l.place)) (drop l.waiting-index l.filings)
    ≡ string_bytes l.fn.text ++ flat_map (waiting_line (waits_at_text l.place)) l.filings
