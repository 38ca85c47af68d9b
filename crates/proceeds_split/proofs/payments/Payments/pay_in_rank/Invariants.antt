-- The run that was begun, and those behind it, are still to be paid.
use Rattle.proceeds_split.proofs.RunsLeft.{AreRunsLeft}
use Rattle.proceeds_split.proofs.payments.Payments.pay_in_rank.Given as goal

abbrev pub invariant-loop-i : goal.invariant-loop-i
invariant-loop-i l = AreRunsLeft l.part l.claims l.start l.i l.fn.self l.self
