use Rattle.std.proofs.Common.{◌-◌, length}
use Rattle.settled_book.specs.SettledBookState.{HasSettledFirst}
use Rattle.settled_book.proofs.settling.settle_rest.Given as goal

abbrev pub invariant-loop-register : goal.invariant-loop-register
invariant-loop-register l = HasSettledFirst l.journal.receipts l.register

abbrev pub decreases-loop-register : goal.decreases-loop-register
decreases-loop-register l = length l.journal.receipts - length l.register.verdicts
