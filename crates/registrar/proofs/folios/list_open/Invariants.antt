use Rattle.std.proofs.Common.{◌≡◌, ◌+◌, ◌≤◌, ◌++◌, drop, filter, length, vec_capacity, vec_len}
use Rattle.gb_base.specs.declared.keys.Key.TheVariants.{Title}
use Rattle.folio_sections.specs.Held.{entries_at}
use Rattle.folio_sections.specs.Titles.{is_open}
use Rattle.registrar.proofs.folios.list_open.Given as goal

abbrev pub invariant-loop-folio : goal.invariant-loop-folio
invariant-loop-folio l =
    (l.list.items ++ filter (λ folio. is_open (entries_at l.parts (Title folio))) (drop l.folio-index l.folios) ≡ l.fn.list.items ++ filter (λ folio. is_open (entries_at l.parts (Title folio))) l.folios)
    × (vec_len l.list + length (drop l.folio-index l.folios) ≤ vec_capacity l.list)
