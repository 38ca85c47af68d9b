-- The lines of the claims that are left are still to be added.
use Rattle.std.proofs.Common.{◌-◌, drop, length, map}
use Rattle.std.specs.List.{enumerate_from}
use Rattle.gb_base.specs.Shares.{share}
use Rattle.auction_classes.specs.PayableClaims.{amount_claimed}
use Rattle.proceeds_split.specs.Plan.{in_proportion, line_of}
use Rattle.proceeds_split.proofs.LinesAdded.{AreToAdd}
use Rattle.proceeds_split.proofs.payments.Payments.pay_in_proportion.Given as goal

abbrev pub invariant-loop-i : goal.invariant-loop-i
invariant-loop-i l =
    AreToAdd (in_proportion l.part l.claims l.fn.self.left)
    (map (λ numbered. line_of l.part numbered.1 (share l.fn.self.left (map amount_claimed l.claims) numbered.0) 0) (enumerate_from l.i (drop l.i l.claims)))
    (length l.claims) (length l.claims - l.i) l.fn.self l.self
