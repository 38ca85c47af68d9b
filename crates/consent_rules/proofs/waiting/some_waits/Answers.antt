use Rattle.std.proofs.Common.{sym, ◌∙◌}
use Rattle.consent_rules.specs.inner.Lacks.{is_lacking}
use Rattle.consent_rules.proofs.WaitersLeft.{last_passes}
use Rattle.consent_rules.proofs.waiting.some_waits.Goals as goal

pub returns-then-last_lacks : goal.returns-then-last_lacks
returns-then-last_lacks c =
    c.if-last_lacks.true
    ∙ last_passes (is_lacking c.args.lack.now) c.args.journal.now.receipts c.args.before c.args.part.now.entries (sym c.last_lacks.ensures ∙ c.if-last_lacks.true)
