-- The numbers below the item stand before the others, so a search by halves finds the last of them.
use Rattle.std.proofs.Common.{rules, ◌∙◌, nat_lt, take, None, ap}
use Rattle.std.specs.List.{last_or}
use Rattle.std.proofs.lemmas.List.Sorted.{IsPartitionPoint-from_clause}
use Rattle.gb_base.proofs.Ascending.{parted_below}
use Rattle.gb_base.proofs.Fronts.{front_passes, last_is}
use Rattle.conflict_queue.proofs.dockets.queues.last_below.Goals as goal

pub returns : goal.returns
returns c =
    let point = IsPartitionPoint-from_clause (λ n. nat_lt n c.args.i) _ _ c.partition_point-below.ensures.partitioned (parted_below (λ n. n) 1 c.args.i c.args.numbers.now c.requires) (λ a r f k. search rules) in
    let front = front_passes (λ n. nat_lt n c.args.i) c.args.numbers.now c.partition_point-below.result c.partition_point-below.ensures.bound point.0 point.1 in
    c.copied.ensures ∙ c.last.ensures.value ∙ last_is (take c.partition_point-below.result c.args.numbers.now) ∙ ap (last_or None) front
