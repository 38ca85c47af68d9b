use Rattle.std.proofs.Common.{◌≡◌, ◌≤◌, ℕ, drop, true}
use Rattle.desk_pool.specs.inner.QueuesBuilt.{is_last, items_at, with_item_at}
use Rattle.desk_pool.proofs.building_queues.push_all.Given as goal

abbrev pub invariant-loop-key : goal.invariant-loop-key
invariant-loop-key l = record {
  pushed : (folio : ℕ) → with_item_at (drop l.key-index l.keys) folio l.fn.item (items_at l.items folio) ≡ with_item_at l.keys folio l.fn.item (items_at l.fn.items folio);
  ends : 1 ≤ l.last → is_last l.fn.item (items_at l.items l.last) ≡ true;
}
