use Rattle.std.proofs.Common.{◌≡◌, ℕ, IfOk, List, subst}
use Rattle.folio_extract.proofs.SummaryTold.{summary_told}
use Rattle.folio_extract.proofs.summaries.summary.Goals as goal

pub returns-clause-summary : goal.returns-clause-summary
returns-clause-summary c =
    λ settled tells. subst (λ (bytes : List ℕ). IfOk c.whole_summary.result (λ text. text.items ≡ bytes))
    (summary_told c.args.register.now settled tells) c.whole_summary.ensures
