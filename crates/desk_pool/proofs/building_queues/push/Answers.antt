use Rattle.std.proofs.Common.{Some, sym, ap, subst, ◌∙◌}
use Rattle.std.specs.BTreeMap.{Updates}
use Rattle.std.specs.Ordering.{nat_cmp}
use Rattle.desk_pool.specs.inner.QueuesBuilt.{with_item}
use Rattle.desk_pool.proofs.BuiltQueues.{put_first}
use Rattle.desk_pool.proofs.building_queues.push.Goals as goal

pub returns-in_ok-insert-in-None : goal.returns-in_ok-insert-in-None
returns-in_ok-insert-in-None c = λ other.
    let queue = c.push_once-in-None.new.queue in
    put_first c.args.items.now c.insert.new.self c.args.folio c.args.item other queue (sym c.in-None.ensures.value)
    (c.in_ok-push_once-in-None.ensures ∙ ap (with_item c.args.item) c.new-queue.ensures.items)
    (subst (λ m. Updates nat_cmp m c.insert.new.self c.args.folio (Some queue)) c.get_mut.follows.holds-at-none c.in_ok-insert-in-None.ensures.updates)
