use Rattle.desk_pool.specs.inner.FoliosBack.{AreSettled}
use Rattle.desk_pool.proofs.TakingOver.{AreTakenOver}
use Rattle.desk_pool.proofs.taking_over.take_all_over.Given as goal

abbrev pub invariant-loop-wanted : goal.invariant-loop-wanted
invariant-loop-wanted g l = AreTakenOver g.N.JournalName.receipts (AreSettled g.N.JournalName.receipts l.fn.back) l.queues l.fn.parts l.parts l.back l.keys l.wanted-index
