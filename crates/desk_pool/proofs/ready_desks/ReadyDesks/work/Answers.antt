use Rattle.std.proofs.Common.{filter_map, option_map, subst, sym}
use Rattle.desk_pool.specs.inner.FoliosInRow.{AreInPlaces, mark_of}
use Rattle.desk_pool.proofs.FoliosInRow.{places_lent, row_of_places}
use Rattle.desk_pool.proofs.ready_desks.ReadyDesks.work.Goals as goal

pub settle_together-verdicts-requires-clause-row : goal.settle_together-verdicts-requires-clause-row
settle_together-verdicts-requires-clause-row g c κs within =
    row_of_places c.args.self.row.queues.items c.as_mut_slice.result.now (subst (AreInPlaces c.args.self.row.queues.items) (sym c.as_mut_slice.ensures.value) c.args.self.row.in_places)

pub invariant_of-result : goal.invariant_of-result
invariant_of-result g c = record {
  queues_are = c.args.self.row.queues_are;
  keys_are = c.args.self.row.keys_are;
  in_places = places_lent (filter_map (option_map mark_of) c.as_mut_slice.result.now) c.args.self.row.queues.items c.args.self.row.places.items c.settle_together-verdicts.new.places c.as_mut_slice.result.now c.args.self.row.places.len
      c.as_mut_slice.ensures.value
      (row_of_places c.args.self.row.queues.items c.as_mut_slice.result.now (subst (AreInPlaces c.args.self.row.queues.items) (sym c.as_mut_slice.ensures.value) c.args.self.row.in_places))
      c.settle_together-verdicts.ensures.row c.args.self.row.places.ok.0 c.args.self.row.in_places;
  none_back = c.args.self.row.none_back;
  room = c.args.self.row.room;
}
