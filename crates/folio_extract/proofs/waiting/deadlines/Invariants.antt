use Rattle.std.proofs.Common.{◌≡◌, ℕ, None, drop}
use Rattle.std.specs.Prelude.{fold}
use Rattle.std.specs.BTreeMap.{get}
use Rattle.std.specs.Ordering.{nat_cmp}
use Rattle.folio_sections.specs.Waiting.{until_by}
use Rattle.folio_extract.specs.inner.Waits.{AreReceipts}
use Rattle.folio_extract.proofs.waiting.deadlines.Given as goal

abbrev pub invariant-loop-entry : goal.invariant-loop-entry
invariant-loop-entry l = record {
  value : (n : ℕ) → fold (λ before e. until_by n before e.what) (get nat_cmp l.days n) (drop l.entry-index l.entries)
      ≡ fold (λ before e. until_by n before e.what) None l.entries;
  receipts : AreReceipts (get nat_cmp l.days);
}
