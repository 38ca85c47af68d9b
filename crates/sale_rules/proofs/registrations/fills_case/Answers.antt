use Rattle.std.proofs.Common.{sym, ap, ◌∙◌}
use Rattle.sale_rules.specs.inner.Arrears.{fills_case}
use Rattle.sale_rules.specs.inner.SalesRead.{entries_found}
use Rattle.sale_rules.proofs.CaseCounts.{few_repeat}
use Rattle.sale_rules.proofs.registrations.fills_case.Goals as goal

pub returns-else-has_all_registrations : goal.returns-else-has_all_registrations
returns-else-has_all_registrations g c =
    let journal = c.args.sale.now.journal.now.receipts in
    c.repeats_arrears.ensures
    ∙ few_repeat journal c.in-Some.case c.args.what.now (sym c.has_all_registrations.ensures ∙ c.if-has_all_registrations.false)
    ∙ ap (λ found. fills_case journal (entries_found found) c.args.what.now) (sym c.in-Some.is)
    ∙ ap (λ es. fills_case journal es c.args.what.now) c.requires.case
