use Rattle.std.proofs.Common.{◌≡◌, ◌+◌, drop}
use Rattle.folio_line.specs.FolioLine.{all_exchanges}
use Rattle.folio_line.specs.FolioReading.{where_held}
use Rattle.folio_line.proofs.exchanges.count_exchanges.Given as goal

abbrev pub invariant-loop-id : goal.invariant-loop-id
invariant-loop-id g l =
    l.count + all_exchanges (where_held (g.P.Parts.holds l.reading.parts.now) (g.P.Parts.at l.reading.parts.now)) l.reading.folio (drop l.id-index l.ids)
    ≡ all_exchanges (where_held (g.P.Parts.holds l.reading.parts.now) (g.P.Parts.at l.reading.parts.now)) l.reading.folio l.ids
