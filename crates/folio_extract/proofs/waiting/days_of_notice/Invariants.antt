use Rattle.std.proofs.Common.{◌≡◌, ℕ, None, drop}
use Rattle.std.specs.Prelude.{fold}
use Rattle.std.specs.BTreeMap.{get}
use Rattle.std.specs.Ordering.{nat_cmp}
use Rattle.folio_extract.specs.inner.Waits.{notice_by}
use Rattle.folio_extract.proofs.waiting.days_of_notice.Given as goal

abbrev pub invariant-loop-entry : goal.invariant-loop-entry
invariant-loop-entry l = (n : ℕ) →
    fold (notice_by n) (get nat_cmp l.days n) (drop l.entry-index l.entries) ≡ fold (notice_by n) None l.entries
