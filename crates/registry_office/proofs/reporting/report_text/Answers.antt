use Rattle.std.proofs.Common.{◌≡◌, ℕ, IfOk, List, subst}
use Rattle.registrar.specs.Settling.{registrar}
use Rattle.registry_office.proofs.Reported.{reported}
use Rattle.registry_office.proofs.reporting.report_text.Goals as goal

pub returns : goal.returns
returns g c =
    let told = c.in_ok-register.ensures in
    subst (λ (bytes : List ℕ). IfOk c.report_at_desks.result (λ text. text.items ≡ bytes)) (reported c.args.journal.now.receipts)
    (c.report_at_desks.ensures.report (registrar c.args.journal.now.receipts) (record { entries = told.entries; verdicts = told.verdicts; folios = told.folios }))
