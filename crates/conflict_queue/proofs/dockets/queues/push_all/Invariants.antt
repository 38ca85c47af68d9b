use Rattle.std.proofs.Common.{◌≡◌, ◌++◌, filter, map, take}
use Rattle.gb_base.specs.Keys.{same_key}
use Rattle.gb_base.specs.declared.keys.Key.{Key}
use Rattle.conflict_queue.specs.inner.Queues.{queue_at}
use Rattle.conflict_queue.proofs.dockets.queues.push_all.Given as goal

abbrev pub invariant-loop-key : goal.invariant-loop-key
invariant-loop-key l = record {
  pushed : (k : Key) → queue_at l.queues k ≡ queue_at l.fn.queues k ++ map (λ j. l.fn.item) (filter (λ j. same_key j k) (take l.key-index l.keys));
}
