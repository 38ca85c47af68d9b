use Rattle.receipt_journal.proofs.Placing.{SoFar}
use Rattle.receipt_journal.proofs.records.take_records.Given as goal

abbrev pub invariant-loop-frame : goal.invariant-loop-frame
invariant-loop-frame l = SoFar l.journal.receipts l.frames l.frame-index
