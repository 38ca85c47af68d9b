-- The queues of all folios bring each key its room.
use Rattle.std.proofs.Common.{◌+◌, ◌||◌, ◌∙◌, arith, ap, drop, length, sym}
use Rattle.std.specs.Prelude.{is_some}
use Rattle.std.specs.BTreeMap.{get}
use Rattle.std.proofs.lemmas.List.{drop_all}
use Rattle.std.proofs.lemmas.List.Sums.{sum_by-cons}
use Rattle.gb_base.specs.Keys.{key_cmp}
use Rattle.desk_pool.proofs.BuiltQueues.{or_none}
use Rattle.desk_pool.proofs.CountedRooms.{cut, room_few}
use Rattle.desk_pool.proofs.FolioRooms.{all_counted, all_given, is_key_of_any, room_of_folios}
use Rattle.desk_pool.specs.inner.RoomsCounted.{room_of_folio}
use Rattle.desk_pool.proofs.key_rooms.count_rooms.Goals as goal

pub add_folio-requires-clause-few : goal.add_folio-requires-clause-few
add_folio-requires-clause-few c = λ k.
    let journal = c.args.journal.now.receipts in
    let queues = c.args.queues.now in
    let queue = c.queue-item.result in
    let i = c.loop-queue.queue-index in
    let next = ap (λ qs. room_of_folios journal qs k) (cut queues i queue c.loop-queue-test.true c.queue-item.is) ∙ sum_by-cons (λ q. room_of_folio journal q.folio k) queue (drop (i + 1) queues) in
    let so_far = c.loop-queue.invariant.room k in
    let whole = all_counted journal queues k c.requires.queues in
    let few = room_few journal (length journal) k in
    omega (arith, next, so_far, whole, few, c.is_a_journal.ensures.limit)

pub returns : goal.returns
returns c =
    let journal = c.args.journal.now.receipts in
    let queues = c.args.queues.now in
    let none = drop_all c.loop-queue.queue-index queues c.loop-queue-test.false in
    record {
      keys = λ k.
          sym (or_none (is_some (get key_cmp c.loop-queue.rooms k)))
          ∙ ap (λ qs. is_some (get key_cmp c.loop-queue.rooms k) || is_key_of_any journal qs k) (sym none)
          ∙ c.loop-queue.invariant.keys k ∙ all_given journal queues k c.requires.queues;
      room = λ k.
          let left = ap (λ qs. room_of_folios journal qs k) none in
          let so_far = c.loop-queue.invariant.room k in
          let whole = all_counted journal queues k c.requires.queues in
          omega (arith, left, so_far, whole);
    }
