-- The rights so far.
use Rattle.std.proofs.Common.{◌≡◌, All, map, take, vec_capacity, vec_len}
use Rattle.auction_classes.specs.inner.Findings.{right_with}
use Rattle.auction_classes.specs.inner.LinesRead.{HasLowInterest}
use Rattle.auction_classes.specs.inner.Readings.{rights_read}
use Rattle.auction_classes.proofs.rights_found.write_rights.Given as goal

abbrev pub invariant-loop-right : goal.invariant-loop-right
invariant-loop-right g l = record {
  items : l.found.items ≡ map (λ x. right_with l.finding l.registrations x (rights_read g.P.Parts.holds g.P.Parts.at l.reading x.id)) (take l.right-index l.rights);
  interest : All HasLowInterest l.found.items;
  few : vec_len l.found ≡ l.right-index;
  capacity : vec_capacity l.found ≡ vec_capacity l.fn.found;
}
