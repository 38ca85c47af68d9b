use Rattle.std.proofs.Common.{false, refl, ap, sym, ◌∙◌}
use Rattle.std.specs.Option.{option_map_or}
use Rattle.consent_rules.specs.inner.Lacks.{is_lacking}
use Rattle.consent_rules.proofs.WaitersLeft.{asked_first}
use Rattle.consent_rules.proofs.waiting.next_lacks.Goals as goal

pub returns-in-Some : goal.returns-in-Some
returns-in-Some c =
    asked_first (is_lacking c.args.lack.now) c.args.journal.now.receipts c.args.after.now c.args.before c.in-Some.filing c.is_lacking_from.result c.args.part.now.entries
    (sym c.in-Some.is ∙ c.next_pending.ensures) refl
    (ap (λ o. option_map_or (is_lacking c.args.lack.now) o false) (sym c.applicant_of.ensures) ∙ sym c.is_lacking_from.ensures)
