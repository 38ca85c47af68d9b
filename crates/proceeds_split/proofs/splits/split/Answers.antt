-- The plan is that of the definition, and its payments come to the money.
use Rattle.std.proofs.Common.{length, ap, ◌∙◌, arith}
use Rattle.std.specs.Prelude.{sum_by}
use Rattle.proceeds_split.specs.Plan.{paid}
use Rattle.proceeds_split.specs.inner.Parts.{plan_len}
use Rattle.proceeds_split.proofs.PlanPaid.{plan_sum, plan_written, taken_out}
use Rattle.proceeds_split.proofs.PlanRoom.{lines_few}
use Rattle.proceeds_split.proofs.splits.split.Goals as goal

pub pay_all-requires-clause-lowest : goal.pay_all-requires-clause-lowest
pay_all-requires-clause-lowest c = taken_out c.args.claims.now.claimed c.args.lowest c.items.ensures.payable c.items.ensures.computable c.requires.lowest

pub pay_all-requires-clause-room : goal.pay_all-requires-clause-room
pay_all-requires-clause-room c =
    let begun = c.in_ok-payments.ensures in
    let few = lines_few c.args.claims.now.claimed in
    let items = ap length c.items.ensures.value in
    let owners = ap length c.owners.ensures in
    omega (arith, begun.len, begun.room, few, items, owners)

pub new-requires : goal.new-requires
new-requires c =
    let claimed = c.args.claims.now.claimed in
    let lines = plan_written claimed c.args.lowest (plan_len claimed) _ c.args.money c.in_ok-payments.payments c.pay_all.new.payments c.in_ok-payments.ensures c.pay_all.ensures.lines in
    let sum = ap (sum_by paid) lines ∙ plan_sum claimed c.args.lowest c.args.money c.items.ensures.payable c.items.ensures.computable c.requires.lowest c.requires.money in
    omega (arith, sum, c.ranges.money.fits)

pub returns-clause-plan : goal.returns-clause-plan
returns-clause-plan c =
    let claimed = c.args.claims.now.claimed in
    c.new.ensures ∙ plan_written claimed c.args.lowest (plan_len claimed) _ c.args.money c.in_ok-payments.payments c.pay_all.new.payments c.in_ok-payments.ensures c.pay_all.ensures.lines

pub returns-clause-sum : goal.returns-clause-sum
returns-clause-sum c =
    let claimed = c.args.claims.now.claimed in
    let lines = plan_written claimed c.args.lowest (plan_len claimed) _ c.args.money c.in_ok-payments.payments c.pay_all.new.payments c.in_ok-payments.ensures c.pay_all.ensures.lines in
    ap (sum_by paid) (c.new.ensures ∙ lines) ∙ plan_sum claimed c.args.lowest c.args.money c.items.ensures.payable c.items.ensures.computable c.requires.lowest c.requires.money
