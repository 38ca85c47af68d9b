use Rattle.std.proofs.Common.{◌≡◌, map}
use Rattle.std.specs.List.{range_with_len}
use Rattle.conflict_queue.specs.Dockets.{keys_touched}
use Rattle.conflict_queue.specs.inner.Queues.{AreQueuesOf}
use Rattle.conflict_queue.specs.inner.Sales.{AreSales}
use Rattle.conflict_queue.proofs.dockets.Docket.build.Given as goal

abbrev pub invariant-loop-index : goal.invariant-loop-index
invariant-loop-index l = record {
  keys : l.keys ≡ map (keys_touched l.journal.receipts) (range_with_len 1 l.index);
  sales : AreSales l.journal.receipts l.index l.sales;
  queues : AreQueuesOf l.queues l.keys;
}
