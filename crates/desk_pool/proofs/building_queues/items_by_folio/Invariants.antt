use Rattle.std.proofs.Common.{◌≡◌, ℕ, filter}
use Rattle.std.specs.List.{range_with_len}
use Rattle.desk_pool.specs.FolioQueues.{touches_folio}
use Rattle.desk_pool.specs.inner.QueuesBuilt.{items_at}
use Rattle.desk_pool.proofs.building_queues.items_by_folio.Given as goal

abbrev pub invariant-loop-index : goal.invariant-loop-index
invariant-loop-index l = record {
  items : (folio : ℕ) → items_at l.items folio ≡ filter (touches_folio l.journal.receipts folio) (range_with_len 1 l.index);
}
