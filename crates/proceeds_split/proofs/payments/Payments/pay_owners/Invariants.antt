-- The lines of the owners who are left are still to be added.
use Rattle.std.proofs.Common.{◌-◌, drop, length, map}
use Rattle.std.specs.List.{enumerate_from}
use Rattle.proceeds_split.specs.Plan.{owner_line, owner_share, to_owners}
use Rattle.proceeds_split.proofs.LinesAdded.{AreToAdd}
use Rattle.proceeds_split.proofs.payments.Payments.pay_owners.Given as goal

abbrev pub invariant-loop-i : goal.invariant-loop-i
invariant-loop-i l =
    AreToAdd (to_owners l.owners l.fn.self.left)
    (map (λ numbered. owner_line numbered.1 (owner_share (length l.owners) l.fn.self.left numbered.0)) (enumerate_from l.i (drop l.i l.owners)))
    (length l.owners) (length l.owners - l.i) l.fn.self l.self
