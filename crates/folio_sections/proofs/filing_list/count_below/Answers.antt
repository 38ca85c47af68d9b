-- Those of lower filings stand before the others.
use Rattle.std.proofs.Common.{rules, nat_lt, arith}
use Rattle.std.proofs.lemmas.List.Sorted.{IsPartitionPoint-from_clause}
use Rattle.gb_base.proofs.Ascending.{parted_below}
use Rattle.folio_sections.proofs.filing_list.count_below.Goals as goal

pub returns-clause-below : goal.returns-clause-below
returns-clause-below g c = λ k d less.
    let point = IsPartitionPoint-from_clause (λ w. nat_lt w.filing c.args.filing) _ _ c.partition_point.ensures.partitioned (parted_below (λ w. w.filing) 1 c.args.filing c.args.list.now c.requires) (λ a r f k. search rules) in
    point.0 k d (omega arith) less

pub returns-clause-behind : goal.returns-clause-behind
returns-clause-behind g c = λ d within.
    let point = IsPartitionPoint-from_clause (λ w. nat_lt w.filing c.args.filing) _ _ c.partition_point.ensures.partitioned (parted_below (λ w. w.filing) 1 c.args.filing c.args.list.now c.requires) (λ a r f k. search rules) in
    point.1 c.partition_point.result d (omega arith) within
