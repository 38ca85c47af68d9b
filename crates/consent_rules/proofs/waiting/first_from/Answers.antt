-- The numbers below n stand before the others, so a search by halves finds the first of the others.
use Rattle.std.proofs.Common.{rules, ◌∙◌, nat_le, nat_lt, true, false}
use Rattle.std.proofs.lemmas.List.Sorted.{IsPartitionPoint-from_clause}
use Rattle.gb_base.proofs.Ascending.{parted_below}
use Rattle.consent_rules.proofs.NextFilings.{at_or_above, found_behind}
use Rattle.consent_rules.proofs.waiting.first_from.Goals as goal

pub returns : goal.returns
returns c =
    let point = IsPartitionPoint-from_clause (λ k. nat_lt k c.args.n) _ _ c.partition_point-below.ensures.partitioned (parted_below (λ k. k) 1 c.args.n c.args.numbers.now c.requires) (λ a r f k. search rules) in
    c.number_at.ensures
    ∙ found_behind (nat_le c.args.n) c.args.numbers.now c.partition_point-below.result c.partition_point-below.ensures.bound
    (λ k d low less. at_or_above true _ c.args.n (point.0 k d low less)) (λ k d low less. at_or_above false _ c.args.n (point.1 k d low less))
