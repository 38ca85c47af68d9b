use Rattle.std.proofs.Common.{◌≡◌, []}
use Rattle.std.specs.List.{AllWithin, AllZip}
use Rattle.folio_sections.specs.inner.PartIndex.{KeepsPlaces}
use Rattle.folio_sections.proofs.map_parts.clear_each.Given as goal

abbrev pub invariant-loop-part : goal.invariant-loop-part
invariant-loop-part l = AllZip KeepsPlaces l.fn.parts l.parts × AllWithin (λ p. p.entries ≡ []) l.parts 0 l.part-index
