use Rattle.std.proofs.Common.{length}
use Rattle.journal_disk.proofs.FrameBytes.{SoFar}
use Rattle.journal_disk.proofs.scan.scan.Given as goal

abbrev pub invariant-loop-size : goal.invariant-loop-size
invariant-loop-size l = SoFar l.fn.at l.bytes l.fn.frames.items l.frames.items l.gate l.rest

abbrev pub decreases-loop-size : goal.decreases-loop-size
decreases-loop-size l = length l.rest
