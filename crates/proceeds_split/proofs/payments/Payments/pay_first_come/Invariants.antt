-- The lines of the claims that are left are still to be added.
use Rattle.std.proofs.Common.{◌-◌, drop, length}
use Rattle.proceeds_split.specs.Plan.{first_come}
use Rattle.proceeds_split.proofs.LinesAdded.{AreToAdd}
use Rattle.proceeds_split.proofs.payments.Payments.pay_first_come.Given as goal

abbrev pub invariant-loop-claim : goal.invariant-loop-claim
invariant-loop-claim l =
    AreToAdd (first_come l.part l.claims l.fn.self.left) (first_come l.part (drop l.claim-index l.claims) l.self.left)
    (length l.claims) (length l.claims - l.claim-index) l.fn.self l.self
