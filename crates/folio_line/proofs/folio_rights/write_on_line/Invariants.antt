use Rattle.std.proofs.Common.{◌≡◌, ◌≤◌, ◌++◌, drop, filter_map, length, vec_capacity}
use Rattle.folio_line.specs.FolioReading.{reads}
use Rattle.folio_line.specs.FolioSlots.{stands_on_line}
use Rattle.folio_line.specs.inner.RightWalk.{right_found}
use Rattle.folio_line.proofs.folio_rights.write_on_line.Given as goal

abbrev pub invariant-loop-id : goal.invariant-loop-id
invariant-loop-id g l = record {
  items : l.list.items ++ filter_map (right_found (stands_on_line l.exchanges) (reads g.P.Parts.holds g.P.Parts.at l.reading) l.reading.folio) (drop l.id-index l.ids)
      ≡ filter_map (right_found (stands_on_line l.exchanges) (reads g.P.Parts.holds g.P.Parts.at l.reading) l.reading.folio) l.ids;
  few : length l.list.items ≤ l.id-index;
  capacity : vec_capacity l.list ≡ vec_capacity l.fn.list;
}
