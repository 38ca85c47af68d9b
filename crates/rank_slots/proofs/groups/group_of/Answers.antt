-- The group of the right is the first, or among those behind it.
use Rattle.std.proofs.Common.{sym, ◌∙◌}
use Rattle.rank_slots.proofs.GroupSteps.{group_behind, group_found}
use Rattle.rank_slots.proofs.groups.group_of.Goals as goal

pub returns-then-holds : goal.returns-then-holds
returns-then-holds c =
    sym (group_found c.args.right c.loop-behind.rest.now c.in-Some.behind.now c.split_at.result.0.now c.in-Some.field-0-0.now c.joining.result
    c.in-Some.ensures.cases.0 c.joining.ensures.value c.split_at.ensures.front (sym c.holds.ensures ∙ c.if-holds.true))
    ∙ c.loop-behind.invariant

pub loop-behind-preserved : goal.loop-behind-preserved
loop-behind-preserved c =
    sym (group_behind c.args.right c.loop-behind.rest.now c.in-Some.behind.now c.split_at.result.0.now c.split_at.result.1.now c.in-Some.field-0-0.now c.joining.result
    c.in-Some.ensures.cases.0 c.joining.ensures.value c.split_at.ensures.front c.split_at.ensures.back (sym c.holds.ensures ∙ c.if-holds.false))
    ∙ c.loop-behind.invariant
