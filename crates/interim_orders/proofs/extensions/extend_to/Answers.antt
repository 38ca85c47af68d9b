-- No stamp day is so late that a day so few days after it, or the Monday after that, is none.
use Rattle.std.proofs.Common.{arith}
use Rattle.interim_orders.proofs.extensions.extend_to.Goals as goal

pub deadline_after-later-requires : goal.deadline_after-later-requires
deadline_after-later-requires g c = omega (arith, c.day_of-day.ensures.last, c.requires.few)
