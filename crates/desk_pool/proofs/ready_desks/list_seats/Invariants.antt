use Rattle.std.proofs.Common.{◌≡◌, length}
use Rattle.desk_pool.proofs.ready_desks.list_seats.Given as goal

abbrev pub invariant-loop-seat : goal.invariant-loop-seat
invariant-loop-seat l = length l.seats.items ≡ l._seat
