-- What is left passes just where the whole does.
use Rattle.std.proofs.Common.{◌≡◌, drop, map}
use Rattle.auction_classes.specs.inner.Findings.{seized_with}
use Rattle.auction_classes.specs.inner.Readings.{rights_read}
use Rattle.auction_classes.specs.inner.WholeBids.{are_personal}
use Rattle.auction_classes.proofs.seizures_found.are_personal.Given as goal

abbrev pub invariant-loop-seizure : goal.invariant-loop-seizure
invariant-loop-seizure g l =
    are_personal (map (seized_with l.sale (rights_read g.P.Parts.holds g.P.Parts.at l.reading)) (drop l.seizure-index l.seizures))
    ≡ are_personal (map (seized_with l.sale (rights_read g.P.Parts.holds g.P.Parts.at l.reading)) l.seizures)
