use Rattle.desk_pool.proofs.NothingHeld.{nothing_held}
use Rattle.desk_pool.proofs.seats.Seat.new.Goals as goal

pub invariant_of-result : goal.invariant_of-result
invariant_of-result c = record { empty = nothing_held c.in_ok-new.field-0 c.in_ok-new.ensures.held }
