use Rattle.std.proofs.Common.{sym, ◌∙◌}
use Rattle.folio_extract.proofs.FolioDistributed.{kept_of_folio}
use Rattle.folio_extract.proofs.plans.plan_csv.Goals as goal

pub list_of_plan-requires-clause-kept : goal.list_of_plan-requires-clause-kept
list_of_plan-requires-clause-kept c =
    kept_of_folio c.args.journal.now.receipts c.args.register.now c.args.n c.in-Some.folio c.tells_plans.ensures (sym c.folio_distributed.ensures ∙ c.in-Some.is)
