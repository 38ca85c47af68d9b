-- Whoever lacks the form is one of those who consent; where no filing waits, nobody lacks it.
use Rattle.std.proofs.Common.{◌∙◌, sym, ap}
use Rattle.std.specs.List.{list_any}
use Rattle.consent_rules.specs.inner.Lacks.{is_lacking}
use Rattle.consent_rules.proofs.PlainConsents.{lacking_form}
use Rattle.consent_rules.proofs.WaitersLeft.{none_wait}
use Rattle.consent_rules.proofs.waiting.Waiting.some.Goals as goal

pub returns-then-some_filing_waits : goal.returns-then-some_filing_waits
returns-then-some_filing_waits c = c.some_plain_consenter.ensures ∙ lacking_form c.args.lack.now c.in-Form.matter c.in-Form.act c.args.self.now c.in-Form.is

pub returns-else-some_filing_waits : goal.returns-else-some_filing_waits
returns-else-some_filing_waits c =
    c.if-some_filing_waits.false
    ∙ none_wait (is_lacking c.args.lack.now) c.self.inside.journal.now.receipts c.self.inside.before c.self.inside.part.now.entries (sym c.some_filing_waits.ensures ∙ c.if-some_filing_waits.false)
    ∙ ap (list_any (is_lacking c.args.lack.now)) c.self.view_is
