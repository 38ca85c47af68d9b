-- What is sorted adds up to the room of the folio.
use Rattle.std.proofs.Common.{◌+◌, ◌++◌, ◌||◌, ◌∙◌, arith, ap}
use Rattle.std.specs.Prelude.{is_some}
use Rattle.std.specs.BTreeMap.{get}
use Rattle.std.proofs.lemmas.Result.{on_ok_weaker}
use Rattle.gb_base.specs.Keys.{key_cmp}
use Rattle.desk_pool.proofs.FolioRooms.{of_sorted}
use Rattle.desk_pool.specs.inner.KeyRooms.{room_in}
use Rattle.desk_pool.specs.inner.RoomsCounted.{is_listed, rooms_of_items, sum_at}
use Rattle.desk_pool.proofs.key_rooms.add_folio.Goals as goal

pub add_sums-requires : goal.add_sums-requires
add_sums-requires c =
    let journal = c.args.journal.now.receipts in
    let queue = c.args.queue.now in
    let listed = c.in_ok-list_items.ensures ∙ ap (λ rs. rs ++ rooms_of_items journal queue.folio queue.items.items) c.clear.ensures.items in
    record {
      few = λ k.
          let whole = ap (λ rs. sum_at rs k) c.as_slice.ensures.value ∙ (of_sorted journal queue.folio queue.items.items c.list_items.new.touched.items c.sort_unstable_by_key.new.self.items k c.requires.own listed c.sort_unstable_by_key.ensures.permutation).0 in
          let few = c.requires.few k in
          omega (arith, whole, few);
    }

pub returns-clause-room : goal.returns-clause-room
returns-clause-room c =
    let journal = c.args.journal.now.receipts in
    let queue = c.args.queue.now in
    let listed = c.in_ok-list_items.ensures ∙ ap (λ rs. rs ++ rooms_of_items journal queue.folio queue.items.items) c.clear.ensures.items in
    on_ok_weaker c.add_sums.result
    (λ added k.
    let whole = ap (λ rs. sum_at rs k) c.as_slice.ensures.value ∙ (of_sorted journal queue.folio queue.items.items c.list_items.new.touched.items c.sort_unstable_by_key.new.self.items k c.requires.own listed c.sort_unstable_by_key.ensures.permutation).0 in
    added k ∙ ap (λ n. room_in c.args.rooms.now k + n) whole)
    c.add_sums.ensures.room

pub returns-clause-keys : goal.returns-clause-keys
returns-clause-keys c =
    let journal = c.args.journal.now.receipts in
    let queue = c.args.queue.now in
    let listed = c.in_ok-list_items.ensures ∙ ap (λ rs. rs ++ rooms_of_items journal queue.folio queue.items.items) c.clear.ensures.items in
    on_ok_weaker c.add_sums.result
    (λ added k.
    let whole = ap (λ rs. is_listed rs k) c.as_slice.ensures.value ∙ (of_sorted journal queue.folio queue.items.items c.list_items.new.touched.items c.sort_unstable_by_key.new.self.items k c.requires.own listed c.sort_unstable_by_key.ensures.permutation).1 in
    added k ∙ ap (λ b. is_some (get key_cmp c.args.rooms.now k) || b) whole)
    c.add_sums.ensures.keys
