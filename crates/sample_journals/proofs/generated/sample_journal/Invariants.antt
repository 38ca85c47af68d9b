-- The receipts so far, and those that are left to draw.
use Rattle.sample_journals.proofs.Drawing.{HasDrawn}
use Rattle.sample_journals.proofs.generated.sample_journal.Given as goal

abbrev pub invariant-loop-n : goal.invariant-loop-n
invariant-loop-n l = HasDrawn l.seed l.size l.n l.journal.receipts l.generator
