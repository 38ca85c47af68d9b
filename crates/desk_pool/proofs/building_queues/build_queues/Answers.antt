use Rattle.std.proofs.Common.{◌≡◌, map}
use Rattle.std.proofs.lemmas.Result.{IfOk-weaker}
use Rattle.desk_pool.specs.inner.AllQueues.{AreAllQueues}
use Rattle.desk_pool.specs.inner.QueuesBuilt.{as_entry}
use Rattle.desk_pool.proofs.BuiltQueues.{all_queues}
use Rattle.desk_pool.proofs.building_queues.build_queues.Goals as goal

pub returns : goal.returns
returns c =
    let journal = c.args.journal.now.receipts in
    let items = c.in_ok-items.items in
    IfOk-weaker c.list_queues.result (λ queues. map as_entry queues.items ≡ items.entries) (λ queues. AreAllQueues journal queues.items)
    (λ queues listed. all_queues journal items queues.items c.in_ok-items.ensures listed c.list_queues.ensures.ordered) c.list_queues.ensures.value
