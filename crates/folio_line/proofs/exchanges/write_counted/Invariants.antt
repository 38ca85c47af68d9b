use Rattle.std.proofs.Common.{◌≡◌, ◌++◌, drop, filter, flat_map, vec_capacity}
use Rattle.folio_line.specs.Exchanges.{counted_at}
use Rattle.folio_line.specs.FolioReading.{reads}
use Rattle.folio_line.specs.inner.Turns.{has_turn}
use Rattle.folio_line.proofs.exchanges.write_counted.Given as goal

abbrev pub invariant-loop-right : goal.invariant-loop-right
invariant-loop-right g l = record {
  items : l.list.items ++ filter has_turn (flat_map (counted_at (reads g.P.Parts.holds g.P.Parts.at l.reading) l.reading.folio) (drop l.right-index l.live))
      ≡ filter has_turn (flat_map (counted_at (reads g.P.Parts.holds g.P.Parts.at l.reading) l.reading.folio) l.live);
  capacity : vec_capacity l.list ≡ vec_capacity l.fn.list;
}
