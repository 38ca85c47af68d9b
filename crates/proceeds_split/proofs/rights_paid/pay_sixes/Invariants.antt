-- The lines of the rights that are left are still to be added.
use Rattle.std.proofs.Common.{◌-◌, drop, length, map}
use Rattle.proceeds_split.specs.Plan.{six_line}
use Rattle.proceeds_split.proofs.LinesAdded.{AreToAdd}
use Rattle.proceeds_split.proofs.rights_paid.pay_sixes.Given as goal

abbrev pub invariant-loop-claim : goal.invariant-loop-claim
invariant-loop-claim l =
    AreToAdd (map (six_line l.slots.filled l.fn.payments.left) l.rights) (map (six_line l.slots.filled l.fn.payments.left) (drop l.claim-index l.rights))
    (length l.rights) (length l.rights - l.claim-index) l.fn.payments l.payments
