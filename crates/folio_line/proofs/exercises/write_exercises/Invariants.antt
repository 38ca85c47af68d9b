use Rattle.std.proofs.Common.{◌≡◌, ◌≤◌, ◌++◌, drop, filter_map, length, vec_capacity}
use Rattle.folio_line.specs.Exchanges.{exercise_of}
use Rattle.folio_line.specs.FolioReading.{reads}
use Rattle.folio_line.proofs.exercises.write_exercises.Given as goal

abbrev pub invariant-loop-right : goal.invariant-loop-right
invariant-loop-right g l = record {
  items : l.list.items ++ filter_map (exercise_of (reads g.P.Parts.holds g.P.Parts.at l.reading) l.reading.folio) (drop l.right-index l.rights)
      ≡ filter_map (exercise_of (reads g.P.Parts.holds g.P.Parts.at l.reading) l.reading.folio) l.rights;
  few : length l.list.items ≤ l.right-index;
  capacity : vec_capacity l.list ≡ vec_capacity l.fn.list;
}
