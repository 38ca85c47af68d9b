use Rattle.std.proofs.Common.{◌-◌, ◌≤◌, length}
use Rattle.registrar.specs.inner.Behind.{IsBehind}
use Rattle.registrar.proofs.one_registrar.settle_all.Given as goal

abbrev pub invariant-loop-settled : goal.invariant-loop-settled
invariant-loop-settled l = IsBehind l.journal.receipts l.settled × (length l.settled.verdicts.items ≤ length l.journal.receipts)

abbrev pub decreases-loop-settled : goal.decreases-loop-settled
decreases-loop-settled l = length l.journal.receipts - length l.settled.verdicts.items
