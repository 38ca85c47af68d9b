use Rattle.std.proofs.Common.{◌≡◌, ◌++◌, drop, filter, filter_map, vec_capacity}
use Rattle.gb_base.specs.declared.keys.Key.TheVariants.{Right}
use Rattle.folio_line.specs.Exchanges.{counted_at, keeps_cents, rise_by}
use Rattle.folio_line.specs.FolioReading.{reads}
use Rattle.folio_line.specs.inner.Turns.{has_turn}
use Rattle.folio_line.proofs.exchanges.add_counted.Given as goal

abbrev pub invariant-loop-entry : goal.invariant-loop-entry
invariant-loop-entry g l = record {
  items : l.list.items
      ++ filter has_turn (filter (λ y. keeps_cents (reads g.P.Parts.holds g.P.Parts.at l.reading (Right l.reading.folio y.recede)))
      (filter_map (λ e. rise_by l.right.id e.receipt e.what) (drop l.entry-index l.entry-items)))
      ≡ l.fn.list.items ++ filter has_turn (counted_at (reads g.P.Parts.holds g.P.Parts.at l.reading) l.reading.folio l.right);
  capacity : vec_capacity l.list ≡ vec_capacity l.fn.list;
}
