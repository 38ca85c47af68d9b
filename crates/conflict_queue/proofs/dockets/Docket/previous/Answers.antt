-- The queue at a key ascends, and what it has below the item was at the key before the item.
use Rattle.std.proofs.Common.{◌∙◌, ◌-◌, ◌≤◌, nat_lt, filter, length, None, sym, ap, subst, arith}
use Rattle.std.specs.List.{last_or}
use Rattle.conflict_queue.specs.Dockets.{previous_in, touches_in}
use Rattle.conflict_queue.specs.inner.Queues.{Ascends}
use Rattle.conflict_queue.proofs.Fronts.{below_is, passing_ascend}
use Rattle.conflict_queue.proofs.Numbered.{previous_is}
use Rattle.conflict_queue.proofs.dockets.Docket.previous.Goals as goal

pub last_below-requires : goal.last_below-requires
last_below-requires c =
    subst (Ascends 1) (sym (c.queue_at.ensures ∙ c.self.invariant c.args.key))
    (passing_ascend (touches_in c.self.inside.keys c.args.key) 1 (length c.self.inside.keys))

pub returns-clause-value : goal.returns-clause-value
returns-clause-value c =
    let whole = c.queue_at.ensures ∙ c.self.invariant c.args.key in
    let count = ap length c.self.view_is in
    let among = c.requires in
    let within : c.args.i - 1 ≤ length c.self.inside.keys = omega arith in
    c.last_below.ensures ∙ ap (λ ns. last_or None (filter (λ n. nat_lt n c.args.i) ns)) whole
    ∙ ap (last_or None) (below_is (touches_in c.self.inside.keys c.args.key) (length c.self.inside.keys) c.args.i within)
    ∙ ap (λ docket. previous_in docket c.args.i c.args.key) c.self.view_is

pub returns-clause-touched : goal.returns-clause-touched
returns-clause-touched c = λ journal is. returns-clause-value c ∙ previous_is journal c.args.self.now c.args.key c.args.i is c.requires
