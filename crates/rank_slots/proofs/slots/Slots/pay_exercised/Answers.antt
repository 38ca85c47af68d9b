use Rattle.std.proofs.Common.{◌-◌, ◌≤◌, arith}
use Rattle.rank_slots.specs.Payments.{claim_of}
use Rattle.rank_slots.proofs.KnotTies.{are_tied, reserved_grows}
use Rattle.rank_slots.proofs.slots.Slots.pay_exercised.Goals as goal

pub overflow_add-result : goal.overflow_add-result
overflow_add-result c =
    let first = c.line_pay.ensures.bound c.requires.knot.reserved.alone in
    let last = c.line_pay-2.ensures.bound c.requires.knot.exercised.alone in
    omega arith

pub overflow_sub-result : goal.overflow_sub-result
overflow_sub-result c =
    let tied = are_tied c.args.self.now.filled c.args.knot c.requires.fits.places c.requires.knot in
    let without = c.args.t - claim_of c.args.self.now.filled.places c.args.knot.exercised in
    let less : without ≤ c.args.t = omega arith in
    let grows = reserved_grows c.args.self.now.filled c.args.knot tied without c.args.t less in
    let first = c.line_pay.ensures.value in
    let reserved = c.pay_reserved.ensures in
    omega arith
