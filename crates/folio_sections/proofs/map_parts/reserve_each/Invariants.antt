use Rattle.std.proofs.Common.{◌≤◌}
use Rattle.std.specs.List.{AllWithin, AllZip}
use Rattle.folio_sections.specs.inner.PartIndex.{Grows}
use Rattle.folio_sections.proofs.map_parts.reserve_each.Given as goal

abbrev pub invariant-loop-part : goal.invariant-loop-part
invariant-loop-part l = AllZip Grows l.fn.parts l.parts × AllWithin (λ p. l.n ≤ p.room) l.parts 0 l.part-index
