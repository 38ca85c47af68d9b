use Rattle.std.proofs.Common.{All, IsNone}
use Rattle.folio_sections.proofs.map_parts.key_index.add_empty.Given as goal

abbrev pub invariant-loop : goal.invariant-loop
invariant-loop g l = All IsNone l.fn.slots.items → All IsNone l.slots.items
