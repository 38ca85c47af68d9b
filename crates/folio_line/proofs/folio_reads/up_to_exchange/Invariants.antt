use Rattle.std.proofs.Common.{◌≤◌, drop, filter, length}
use Rattle.folio_sections.specs.Rights.{is_exchange}
use Rattle.folio_line.proofs.folio_reads.up_to_exchange.Given as goal

abbrev pub invariant-loop-index : goal.invariant-loop-index
invariant-loop-index l = length (filter (λ e. is_exchange e.what) (drop l.index l.entries)) ≤ l.left
