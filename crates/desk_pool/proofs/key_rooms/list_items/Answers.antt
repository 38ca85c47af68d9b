-- An item of a queue has keys in the docket.
use Rattle.std.proofs.Common.{◌∙◌, ap, arith, length, subst, sym}
use Rattle.std.specs.List.{range_with_len}
use Rattle.gb_base.proofs.Members.{of_range}
use Rattle.conflict_queue.proofs.Numbered.{docket_len}
use Rattle.desk_pool.specs.FolioQueues.{touches_folio}
use Rattle.folio_sections.proofs.FilteredLists.{of_filter}
use Rattle.gb_base.proofs.Members.{In}
use Rattle.registrar.proofs.RisingNumbers.{in_of_contains}
use Rattle.desk_pool.proofs.key_rooms.list_items.Goals as goal

pub keys-requires : goal.keys-requires
keys-requires c =
    let journal = c.args.journal.now.receipts in
    let item = c.item-item.result in
    let there = in_of_contains c.deref-item-items.result.now item (c.loop-item.item-index, c.loop-item-test.true, sym c.item-item.is) in
    let range = of_range 1 (length journal) item (of_filter (touches_folio journal c.args.queue.now.folio) (range_with_len 1 (length journal)) item (subst (In item) (c.deref-item-items.ensures.value ∙ c.requires.own) there)).0 in
    let count = ap length c.requires.docket ∙ docket_len journal in
    omega (arith, count, range.1)
