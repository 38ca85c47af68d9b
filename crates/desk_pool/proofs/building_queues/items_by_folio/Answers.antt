-- Items are put, one after the other, at the end of their folios' queues.
use Rattle.std.proofs.Common.{◌≡◌, ◌∙◌, ◌+◌, length, ap, arith}
use Rattle.std.proofs.lemmas.Grind.{common_steps}
use Rattle.conflict_queue.proofs.Numbered.{docket_len}
use Rattle.desk_pool.specs.inner.QueuesBuilt.{items_at}
use Rattle.desk_pool.proofs.BuiltQueues.{next_item}
use Rattle.desk_pool.proofs.building_queues.items_by_folio.Goals as goal

pub keys-requires : goal.keys-requires
keys-requires c =
    let number : c.unwrap-item.result ≡ c.loop-index.index + 1 = grind (arith, common_steps) in
    let count = ap length c.requires ∙ docket_len c.args.journal.now.receipts in
    omega (arith, number, count, c.loop-index-test.true, c.len-index-end.ensures.value)

pub loop-index-preserved : goal.loop-index-preserved
loop-index-preserved c =
    let journal = c.args.journal.now.receipts in
    let number : c.unwrap-item.result ≡ c.loop-index.index + 1 = grind (arith, common_steps) in
    let next : c.unwrap-item.result ≡ 1 + c.loop-index.index = omega arith in
    record {
      items = λ folio. next_item journal folio c.loop-index.index c.unwrap-item.result c.keys.result.now (items_at c.loop-index.items folio) (items_at c.push_all.new.items folio)
          next (c.keys.ensures.touched journal c.requires) (c.loop-index.invariant.items folio) (c.in_ok-push_all.ensures folio);
    }
