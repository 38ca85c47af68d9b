use Rattle.receipt_journal.proofs.Repeats.{received_again}
use Rattle.receipt_journal.proofs.laws.again.Goals as goal

pub returns : goal.returns
returns c = received_again
