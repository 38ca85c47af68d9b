use Rattle.std.proofs.Common.{◌≡◌, ◌++◌, length, map}
use Rattle.desk_pool.specs.inner.QueuesBuilt.{as_entry}
use Rattle.desk_pool.proofs.building_queues.list_queues.Given as goal

abbrev pub invariant-loop-folio : goal.invariant-loop-folio
invariant-loop-folio l = record {
  listed : map as_entry l.queues.items ++ l.items.entries ≡ l.fn.items.entries;
}

abbrev pub decreases-loop-folio : goal.decreases-loop-folio
decreases-loop-folio l = length l.items.entries
