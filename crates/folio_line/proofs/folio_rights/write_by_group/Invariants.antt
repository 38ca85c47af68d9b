use Rattle.std.proofs.Common.{◌≡◌, ℕ, ◌+◌, ◌≤◌, List, flat_map, length, vec_capacity}
use Rattle.folio_sections.specs.HeldRights.{receipt_numbers}
use Rattle.folio_line.specs.FolioRights.{by_group}
use Rattle.folio_line.specs.inner.FilingRuns.{AreOfFilings}
use Rattle.folio_line.specs.declared.folio_rights.CreatedRight.{CreatedRight}
use Rattle.folio_line.proofs.FilingRuns.{Left}
use Rattle.folio_line.proofs.folio_rights.write_by_group.Given as goal

abbrev pub invariant-loop-first : goal.invariant-loop-first
invariant-loop-first l = record {
  left : (rights : ℕ → List CreatedRight) → AreOfFilings rights → l.by_act ≡ flat_map rights receipt_numbers
      → Left rights l.list.items l.rest (flat_map (λ m. by_group (rights m)) receipt_numbers);
  few : length l.list.items + length l.rest ≤ length l.by_act;
  capacity : vec_capacity l.list ≡ vec_capacity l.fn.list;
}

abbrev pub decreases-loop-first : goal.decreases-loop-first
decreases-loop-first l = length l.rest
