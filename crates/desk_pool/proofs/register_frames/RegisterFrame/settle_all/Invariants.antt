use Rattle.std.proofs.Common.{take}
use Rattle.desk_pool.specs.inner.PreparedRuns.{HasTaken}
use Rattle.desk_pool.proofs.register_frames.RegisterFrame.settle_all.Given as goal

abbrev pub invariant-loop-place : goal.invariant-loop-place
invariant-loop-place l = HasTaken l.journal.receipts (take l.place l.order) l.self
