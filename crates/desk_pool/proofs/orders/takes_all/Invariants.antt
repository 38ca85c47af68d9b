use Rattle.std.proofs.Common.{◌≡◌, drop, length}
use Rattle.desk_pool.specs.inner.OrderWalks.{walks}
use Rattle.desk_pool.proofs.orders.takes_all.Given as goal

abbrev pub invariant-loop-item : goal.invariant-loop-item
invariant-loop-item l =
    (walks l.docket l.settled (drop l.item-index l.order) ≡ walks l.docket l.fn.settled l.order)
    × (length l.settled ≡ length l.docket)
