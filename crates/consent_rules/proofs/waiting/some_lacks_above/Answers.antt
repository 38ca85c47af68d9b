use Rattle.std.proofs.Common.{true, false, ap, sym, ◌∙◌}
use Rattle.std.specs.Option.{option_map_or}
use Rattle.consent_rules.specs.inner.Lacks.{is_lacking}
use Rattle.consent_rules.proofs.WaitersLeft.{asked_first, fewer_left, none_pass}
use Rattle.consent_rules.proofs.waiting.some_lacks_above.Goals as goal

pub returns-then-is_lacking_from : goal.returns-then-is_lacking_from
returns-then-is_lacking_from c =
    asked_first (is_lacking c.args.lack.now) c.args.journal.now.receipts c.loop-filing.after c.args.before c.in-Some.filing true c.args.part.now.entries
    (sym c.in-Some.is ∙ c.next_pending.ensures) c.loop-filing.invariant
    (ap (λ o. option_map_or (is_lacking c.args.lack.now) o false) (sym c.applicant_of.ensures) ∙ sym c.is_lacking_from.ensures ∙ c.if-is_lacking_from.true)

pub loop-filing-smaller : goal.loop-filing-smaller
loop-filing-smaller c = fewer_left c.loop-filing.after c.args.before c.in-Some.filing c.args.part.now.entries (sym c.in-Some.is ∙ c.next_pending.ensures)

pub loop-filing-preserved : goal.loop-filing-preserved
loop-filing-preserved c =
    asked_first (is_lacking c.args.lack.now) c.args.journal.now.receipts c.loop-filing.after c.args.before c.in-Some.filing false c.args.part.now.entries
    (sym c.in-Some.is ∙ c.next_pending.ensures) c.loop-filing.invariant
    (ap (λ o. option_map_or (is_lacking c.args.lack.now) o false) (sym c.applicant_of.ensures) ∙ sym c.is_lacking_from.ensures ∙ c.if-is_lacking_from.false)

pub returns : goal.returns
returns c =
    none_pass (is_lacking c.args.lack.now) c.args.journal.now.receipts c.loop-filing.after c.args.before c.args.part.now.entries
    (sym c.in_default.is ∙ c.next_pending.ensures) c.loop-filing.invariant
