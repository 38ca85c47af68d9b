use Rattle.std.proofs.Common.{take}
use Rattle.desk_pool.specs.inner.FoliosInRow.{AreInPlaces}
use Rattle.desk_pool.proofs.preparing.mark_folios.Given as goal

abbrev pub invariant-loop-queue : goal.invariant-loop-queue
invariant-loop-queue g l = AreInPlaces (take l.queue-index l.queues) l.places.items
