use Rattle.std.proofs.Common.{rules, subst}
use Rattle.desk_pool.specs.inner.AllQueues.{AreAllQueues}
use Rattle.desk_pool.specs.inner.FoliosInRow.{AreInPlaces}
use Rattle.desk_pool.specs.inner.KeyRooms.{AreRooms}
use Rattle.desk_pool.proofs.RoundKeys.{all_keys}
use Rattle.desk_pool.proofs.folio_row.FolioRow.prepare.Goals as goal

pub invariant_of-result : goal.invariant_of-result
invariant_of-result g c = record {
  queues_are = subst (λ j. AreAllQueues j c.args.queues.items) c.requires.named c.requires.queues;
  keys_are = all_keys g.N.JournalName.receipts c.args.rooms.now _ (subst (λ j. AreRooms j c.args.rooms.now) c.requires.named c.requires.rooms) c.list_rooms.ensures.ordered c.in_ok-list_rooms.ensures.value;
  in_places = subst (λ qs. AreInPlaces qs c.in_ok-mark_folios.field-0.items) c.as_slice.ensures.value c.in_ok-mark_folios.ensures;
  none_back = c.in_ok-with_capacity.ensures.items;
  room = search rules;
}
