-- The report of a journal, and the summary of a generated one, are those of what the one registrar leaves.
use Rattle.std.proofs.Common.{◌≡◌, ℕ, List, ap, refl}
use Rattle.act_model.specs.declared.receipts.Receipt.{Receipt}
use Rattle.registrar.specs.Settling.{registrar}
use Rattle.folio_extract.specs.Reports.{report}
use Rattle.folio_extract.specs.Summaries.{summary}
use Rattle.sample_journals.specs.Sample.{sample}
use Rattle.registry_office.specs.Outcomes.{report_of, sample_output}

pub reported : (journal : List Receipt) → report journal (registrar journal) ≡ report_of journal
unfolding report_of
reported journal = refl

pub summed_up : (seed size : ℕ) (journal : List Receipt) → journal ≡ sample seed size → summary (registrar journal) ≡ sample_output seed size
unfolding sample_output
summed_up seed size journal is = ap (λ j. summary (registrar j)) is
