use Rattle.std.proofs.Common.{◌≡◌, ◌++◌, drop}
use Rattle.std.specs.String.{string_bytes}
use Rattle.folio_sections.specs.Held.{entries_at}
use Rattle.folio_extract.specs.Reports.{folio_texts}
use Rattle.folio_extract.proofs.reports.add_folios.Given as goal

abbrev pub invariant-loop-folio : goal.invariant-loop-folio
invariant-loop-folio l =
    string_bytes l.text ++ folio_texts l.journal.receipts (entries_at l.register.parts) (drop l.folio-index l.folios)
    ≡ string_bytes l.fn.text ++ folio_texts l.journal.receipts (entries_at l.register.parts) l.folios
