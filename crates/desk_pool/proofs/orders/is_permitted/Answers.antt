use Rattle.std.proofs.Common.{◌↔◌, IsTrue, length, sym, ap, subst, ◌∙◌}
use Rattle.conflict_queue.proofs.Numbered.{docket_len}
use Rattle.conflict_queue.specs.Schedules.{IsPermitted}
use Rattle.desk_pool.proofs.OrderWalks.{walks_permitted}
use Rattle.desk_pool.specs.inner.OrderWalks.{walks}
use Rattle.desk_pool.proofs.orders.is_permitted.Goals as goal

pub returns : goal.returns
returns c = record {
  permitted = λ journal is.
      subst (λ b. IsTrue b ↔ IsPermitted journal c.args.order.now) (sym (c.takes_all.ensures ∙ ap (λ d. walks d c.args.settled.now c.args.order.now) is))
      (walks_permitted journal c.args.order.now c.args.settled.now (c.requires.len ∙ ap length is ∙ docket_len journal) c.requires.none);
}
