-- The seizures so far.
use Rattle.std.proofs.Common.{◌≡◌, map, take, vec_capacity, vec_len}
use Rattle.auction_classes.specs.inner.Findings.{seized_with}
use Rattle.auction_classes.specs.inner.Readings.{rights_read}
use Rattle.auction_classes.proofs.seizures_found.write_seizures.Given as goal

abbrev pub invariant-loop-seizure : goal.invariant-loop-seizure
invariant-loop-seizure g l = record {
  items : l.list.items ≡ map (seized_with l.sale (rights_read g.P.Parts.holds g.P.Parts.at l.reading)) (take l.seizure-index l.seizures);
  few : vec_len l.list ≡ l.seizure-index;
  capacity : vec_capacity l.list ≡ vec_capacity l.fn.list;
}
