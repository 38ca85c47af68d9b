-- Those of filings up to the number stand before the others.
use Rattle.std.proofs.Common.{rules, ◌≡◌, true, nat_le, get_or, arith}
use Rattle.std.proofs.lemmas.Bool.Decides.{nat_tests}
use Rattle.std.proofs.lemmas.List.Sorted.{IsPartitionPoint-from_clause}
use Rattle.gb_base.proofs.Ascending.{parted_to}
use Rattle.folio_sections.proofs.filing_list.count_to.Goals as goal

pub returns-clause-passed : goal.returns-clause-passed
returns-clause-passed g c = λ k d less.
    let point = IsPartitionPoint-from_clause (λ w. nat_le w.filing c.args.floor) _ _ c.partition_point.ensures.partitioned (parted_to (λ w. w.filing) 1 c.args.floor c.args.list.now c.requires) (λ a r f k. search rules) in
    let up_to : nat_le (get_or c.args.list.now k d).filing c.args.floor ≡ true = point.0 k d (omega arith) less in
    grind (arith, nat_tests, up_to)
