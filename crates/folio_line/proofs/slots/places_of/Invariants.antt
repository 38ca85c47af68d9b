use Rattle.std.proofs.Common.{◌≡◌, ◌≤◌, ◌++◌, All, None, drop}
use Rattle.gb_base.specs.Limits.{most_cents}
use Rattle.folio_line.specs.FolioReading.{reads}
use Rattle.folio_line.specs.FolioSlots.{capital_at, is_gone}
use Rattle.folio_line.specs.inner.PlaceByPlace.{places_behind}
use Rattle.folio_line.proofs.slots.places_of.Given as goal

abbrev pub invariant-loop-right : goal.invariant-loop-right
invariant-loop-right g l = record {
  value : l.places.items
      ++ places_behind (capital_at (reads g.P.Parts.holds g.P.Parts.at l.reading) l.reading.folio) (is_gone (reads g.P.Parts.holds g.P.Parts.at l.reading) l.reading.folio) l.before (drop l.right-index l.rights)
      ≡ places_behind (capital_at (reads g.P.Parts.holds g.P.Parts.at l.reading) l.reading.folio) (is_gone (reads g.P.Parts.holds g.P.Parts.at l.reading) l.reading.folio) None l.rights;
  bound : All (λ p. p.claim ≤ most_cents) l.places.items;
}
