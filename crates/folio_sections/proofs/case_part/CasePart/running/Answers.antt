use Rattle.std.proofs.Common.{◌∙◌, ap, nat_lt}
use Rattle.folio_sections.specs.Cases.{is_running, is_seizure, case}
use Rattle.folio_sections.proofs.Cases.{counted_any}
use Rattle.folio_sections.proofs.case_part.CasePart.running.Goals as goal

pub returns : goal.returns
returns c =
    ap (nat_lt 0) c.self.invariant.running.seizures ∙ counted_any (λ e. is_seizure e.what) (case c.self.inside.list.entries)
    ∙ ap (λ v. is_running v.entries) c.self.view_is
