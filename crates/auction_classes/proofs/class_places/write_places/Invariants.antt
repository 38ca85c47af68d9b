-- The places so far, and what is found of the live rights that are left.
use Rattle.std.proofs.Common.{◌≡◌, ◌≤◌, ◌++◌, All, None, drop, length, vec_capacity}
use Rattle.folio_line.specs.FolioReading.{reads}
use Rattle.auction_classes.specs.inner.LinesRead.{HasLowInterest, places_read}
use Rattle.auction_classes.proofs.class_places.write_places.Given as goal

abbrev pub invariant-loop-right : goal.invariant-loop-right
invariant-loop-right g l = record {
  items : l.places.items ++ places_read l.class l.swaps (reads g.P.Parts.holds g.P.Parts.at l.reading) l.reading.folio l.before l.rest (drop l.right-index l.rights)
      ≡ places_read l.class l.swaps (reads g.P.Parts.holds g.P.Parts.at l.reading) l.reading.folio None l.found l.rights;
  interest : All HasLowInterest l.rest;
  few : length l.places.items ≤ l.right-index;
  capacity : vec_capacity l.places ≡ vec_capacity l.fn.places;
}
