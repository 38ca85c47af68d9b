use Rattle.std.proofs.Common.{rules, ◌<◌, ◌||◌, true, false, Some, refl, ap, sym, ◌∙◌}
use Rattle.std.specs.List.{list_any}
use Rattle.std.specs.Option.{option_map_or}
use Rattle.std.proofs.lemmas.Bool.{or_right}
use Rattle.consent_rules.specs.inner.Lacks.{is_lacking}
use Rattle.consent_rules.specs.inner.WaitersAbove.{applicants_above}
use Rattle.consent_rules.proofs.ComesRound.{comes_round}
use Rattle.consent_rules.proofs.WaitersLeft.{asked_both, fewer_left, none_pass}
use Rattle.consent_rules.proofs.waiting.some_lacks.Goals as goal

pub loop-filing-init : goal.loop-filing-init
loop-filing-init c =
    let some : 0 < c.start-from.result = search rules in
    comes_round (is_lacking c.args.lack.now) c.args.journal.now.receipts c.number_below-behind.result c.start-from.result c.args.before c.args.part.now.entries
    some c.start-from.ensures c.number_below-behind.ensures.none c.number_below-behind.ensures.value

pub returns-then-is_lacking_from : goal.returns-then-is_lacking_from
returns-then-is_lacking_from c =
    asked_both (is_lacking c.args.lack.now) c.args.journal.now.receipts c.loop-filing.ahead c.loop-filing.behind c.loop-filing.behind c.start-from.result c.args.before c.in-Some.filing true false c.args.part.now.entries
    (sym c.in-Some.is ∙ c.next_pending.ensures) c.loop-filing.invariant
    (ap (λ o. option_map_or (is_lacking c.args.lack.now) o false) (sym c.applicant_of.ensures) ∙ sym c.is_lacking_from.ensures ∙ c.if-is_lacking_from.true)
    refl

pub returns-then-next_lacks : goal.returns-then-next_lacks
returns-then-next_lacks c =
    sym (or_right (list_any (is_lacking c.args.lack.now) (applicants_above c.args.journal.now.receipts (Some c.in-Some.filing) c.start-from.result c.args.part.now.entries)) true refl)
    ∙ asked_both (is_lacking c.args.lack.now) c.args.journal.now.receipts c.loop-filing.ahead c.loop-filing.behind c.next_lacks.new.after c.start-from.result c.args.before c.in-Some.filing false true c.args.part.now.entries
    (sym c.in-Some.is ∙ c.next_pending.ensures) c.loop-filing.invariant
    (ap (λ o. option_map_or (is_lacking c.args.lack.now) o false) (sym c.applicant_of.ensures) ∙ sym c.is_lacking_from.ensures ∙ c.if-is_lacking_from.false)
    (ap (λ b. b || list_any (is_lacking c.args.lack.now) (applicants_above c.args.journal.now.receipts c.next_lacks.new.after c.args.before c.args.part.now.entries)) (sym c.if-next_lacks.true) ∙ c.next_lacks.ensures)

pub loop-filing-smaller : goal.loop-filing-smaller
loop-filing-smaller c = fewer_left c.loop-filing.ahead c.start-from.result c.in-Some.filing c.args.part.now.entries (sym c.in-Some.is ∙ c.next_pending.ensures)

pub loop-filing-preserved : goal.loop-filing-preserved
loop-filing-preserved c =
    asked_both (is_lacking c.args.lack.now) c.args.journal.now.receipts c.loop-filing.ahead c.loop-filing.behind c.next_lacks.new.after c.start-from.result c.args.before c.in-Some.filing false false c.args.part.now.entries
    (sym c.in-Some.is ∙ c.next_pending.ensures) c.loop-filing.invariant
    (ap (λ o. option_map_or (is_lacking c.args.lack.now) o false) (sym c.applicant_of.ensures) ∙ sym c.is_lacking_from.ensures ∙ c.if-is_lacking_from.false)
    (ap (λ b. b || list_any (is_lacking c.args.lack.now) (applicants_above c.args.journal.now.receipts c.next_lacks.new.after c.args.before c.args.part.now.entries)) (sym c.if-next_lacks.false) ∙ c.next_lacks.ensures)

pub returns : goal.returns
returns c =
    c.some_lacks_above.ensures
    ∙ ap (λ b. b || list_any (is_lacking c.args.lack.now) (applicants_above c.args.journal.now.receipts c.loop-filing.behind c.args.before c.args.part.now.entries))
    (none_pass (is_lacking c.args.lack.now) c.args.journal.now.receipts c.loop-filing.ahead c.start-from.result c.args.part.now.entries (sym c.in_default.is ∙ c.next_pending.ensures) refl)
    ∙ c.loop-filing.invariant
