use Rattle.std.proofs.Common.{◌≡◌, ℕ, IfOk, List, subst}
use Rattle.registrar.specs.Settling.{registrar}
use Rattle.registry_office.proofs.Reported.{summed_up}
use Rattle.registry_office.proofs.sampling.summary_text.Goals as goal

pub returns : goal.returns
returns g c =
    let told = c.in_ok-register.ensures in
    let journal = c.in_ok-journal.journal.receipts in
    subst (λ (bytes : List ℕ). IfOk c.summary.result (λ text. text.items ≡ bytes)) (summed_up c.args.seed c.args.size journal c.in_ok-journal.ensures.journal)
    (c.summary.ensures.summary (registrar journal) (record { entries = told.entries; verdicts = told.verdicts; folios = told.folios }))
