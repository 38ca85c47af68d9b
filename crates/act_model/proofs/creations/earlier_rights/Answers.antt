-- The rights of a folio stand by receipt, so those of earlier ones are the first.
use Rattle.std.proofs.Common.{rules, ◌≡◌, ◌∙◌, nat_lt, filter, sym, ap, subst}
use Rattle.std.specs.List.Sorted.{IsPartitionedBy}
use Rattle.std.proofs.lemmas.List.Sorted.{IsPartitionPoint-from_clause}
use Rattle.act_model.specs.SaleKeys.{first_rights}
use Rattle.gb_base.proofs.Fronts.{front_passes}
use Rattle.act_model.proofs.EarlierRights.{parted_first}
use Rattle.act_model.proofs.creations.earlier_rights.Goals as goal

pub returns : goal.returns
returns c =
    let journal = c.args.journal.now.receipts in
    let first : c.first_rights-first.result.now ≡ first_rights journal c.args.folio = c.first_rights-first.ensures in
    let parted = subst (IsPartitionedBy (λ r. nat_lt r.receipt c.args.n)) (sym first) (parted_first journal c.args.n c.args.folio) in
    let point = IsPartitionPoint-from_clause (λ r. nat_lt r.receipt c.args.n) _ _ c.partition_point-earlier.ensures.partitioned parted (λ a r f k. search rules) in
    front_passes (λ r. nat_lt r.receipt c.args.n) c.first_rights-first.result.now c.partition_point-earlier.result c.partition_point-earlier.ensures.bound point.0 point.1
    ∙ ap (filter (λ r. nat_lt r.receipt c.args.n)) first
