use Rattle.std.proofs.Common.{sym, ◌∙◌}
use Rattle.folio_extract.proofs.FolioDistributed.{kept_of_folio}
use Rattle.folio_extract.proofs.plans.plan_text.Goals as goal

pub text_of_plan-requires-clause-kept : goal.text_of_plan-requires-clause-kept
text_of_plan-requires-clause-kept c =
    kept_of_folio c.args.journal.now.receipts c.args.register.now c.args.n c.in-Some.folio c.tells_plans.ensures (sym c.folio_distributed.ensures ∙ c.in-Some.is)
