use Rattle.std.proofs.Common.{◌≡◌, ◌++◌, ◌*◌, drop, length}
use Rattle.std.specs.String.{string_bytes}
use Rattle.folio_sections.specs.Held.{entries_at}
use Rattle.folio_extract.specs.Reports.{folio_texts}
use Rattle.folio_extract.specs.inner.TextsInTurn.{folios_each}
use Rattle.folio_extract.proofs.shared_reports.add_texts.Given as goal

abbrev pub invariant-loop-some : goal.invariant-loop-some
invariant-loop-some l =
    string_bytes l.text ++ folio_texts l.journal.receipts (entries_at l.register.parts) (drop (l.some-index * folios_each (length l.register.folios) l.desks) l.register.folios)
    ≡ string_bytes l.fn.text ++ folio_texts l.journal.receipts (entries_at l.register.parts) l.register.folios
