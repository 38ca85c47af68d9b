use Rattle.std.proofs.Common.{◌≡◌, ℕ, IfOk, List, subst}
use Rattle.folio_extract.proofs.ReportTold.{told}
use Rattle.folio_extract.proofs.shared_reports.report_at_desks.Goals as goal

pub returns-clause-report : goal.returns-clause-report
returns-clause-report g c =
    λ settled tells. subst (λ (bytes : List ℕ). IfOk c.joined_report.result (λ text. text.items ≡ bytes))
    (told c.args.journal.now.receipts c.args.register.now settled tells) c.joined_report.ensures
