-- The report of a register that tells what is settled.
use Rattle.std.proofs.Common.{◌≡◌, List}
use Rattle.act_model.specs.declared.receipts.Receipt.{Receipt}
use Rattle.folio_sections.specs.Held.{entries_at}
use Rattle.registrar.specs.RegisterState.{RegisterState}
use Rattle.registrar.specs.Settling.{Settlement}
use Rattle.folio_extract.specs.Reports.{Tells, report, report_text}

pub told : (journal : List Receipt) (register : RegisterState) (settled : Settlement) → Tells register settled
    → report_text journal register.verdicts (entries_at register.parts) register.folios ≡ report journal settled
told journal register settled tells = λ i. report_text journal (tells.verdicts i) (tells.entries i) (tells.folios i)
