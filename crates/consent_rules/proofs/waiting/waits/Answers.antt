use Rattle.std.proofs.Common.{◌≡◌, ◌==◌, ◌-◌, ◌<◌, ◌≤◌, eqb, find, length, nat_le, true, false, Some, arith, ap, subst, sym, ◌∙◌}
use Rattle.std.specs.List.{list_any, slice_get}
use Rattle.std.proofs.lemmas.Bool.{ne_eqb}
use Rattle.gb_base.specs.Ascending.{AscendsBy}
use Rattle.act_model.specs.Filings.{filings_of}
use Rattle.act_model.proofs.ApplicantFilings.{filings_ascend}
use Rattle.consent_rules.specs.Persons.{waiting_applicants}
use Rattle.consent_rules.specs.inner.WaitersAbove.{applicants_above, left_above}
use Rattle.consent_rules.proofs.NextFilings.{fewer_behind, found_passes, from_first, leaps, no_other, none_filed, not_below, number_below, same_one}
use Rattle.consent_rules.proofs.WaitersLeft.{none_pass}
use Rattle.consent_rules.proofs.waiting.waits.Goals as goal

pub loop-waiting-init : goal.loop-waiting-init
loop-waiting-init c =
    from_first c.args.journal.now.receipts c.args.person c.args.before c.in-Some.first c.number_below-after.result c.args.part.now.entries
    (ap (λ ns. slice_get ns 0) (sym c.filings_of-filings.ensures) ∙ sym c.number_at.ensures ∙ c.in-Some.is) c.number_below-after.ensures.value

pub returns-in_default : goal.returns-in_default
returns-in_default c =
    none_filed c.args.journal.now.receipts c.args.person c.args.before c.args.part.now.entries
    (ap (λ ns. slice_get ns 0) (sym c.filings_of-filings.ensures) ∙ sym c.number_at.ensures ∙ c.in_default.is)

pub first_from-requires : goal.first_from-requires
first_from-requires c = subst (AscendsBy (λ k. k) 1) (sym c.filings_of-filings.ensures) (filings_ascend c.args.journal.now.receipts c.args.person)

pub returns-in_default-first_from : goal.returns-in_default-first_from
returns-in_default-first_from c =
    no_other c.args.journal.now.receipts c.args.person c.loop-waiting.after c.args.before c.in-Some-next_pending.waiting c.args.part.now.entries
    (sym c.in-Some-next_pending.is ∙ c.next_pending.ensures)
    (ap (find (nat_le c.in-Some-next_pending.waiting)) (sym c.filings_of-filings.ensures) ∙ sym c.first_from.ensures ∙ c.in_default-first_from.is)
    c.loop-waiting.invariant

pub returns-then-get : goal.returns-then-get
returns-then-get c =
    same_one c.args.journal.now.receipts c.args.person c.loop-waiting.after c.args.before c.in-Some-next_pending.waiting c.args.part.now.entries c.in-Some-first_from.filing
    (sym c.in-Some-next_pending.is ∙ c.next_pending.ensures)
    (ap (find (nat_le c.in-Some-next_pending.waiting)) (sym c.filings_of-filings.ensures) ∙ sym c.first_from.ensures ∙ c.in-Some-first_from.is)
    (sym c.get.ensures.value ∙ c.if-get.true ∙ c.get-in-Some-next_pending.ensures.value)
    c.loop-waiting.invariant

pub loop-waiting-smaller : goal.loop-waiting-smaller
loop-waiting-smaller c =
    let w = c.in-Some-next_pending.waiting in
    let f = c.in-Some-first_from.filing in
    let above : nat_le w f ≡ true =
    found_passes (nat_le w) c.filings_of-filings.result.now f (sym c.first_from.ensures ∙ c.in-Some-first_from.is) in
    let other : eqb f w ≡ false = (λ i. eqb (sym c.get.ensures.value i) (sym c.get-in-Some-next_pending.ensures.value i)) ∙ ne_eqb c.get.result c.get-in-Some-next_pending.result c.if-get.false in
    let below : c.number_below-after-in-Some-next_pending.result ≡ Some (f - 1) =
    number_below c.number_below-after-in-Some-next_pending.result w f c.get-in-Some-next_pending.ensures.positive above other c.number_below-after-in-Some-next_pending.ensures.none c.number_below-after-in-Some-next_pending.ensures.value in
    subst (λ o. length (left_above o c.args.before c.args.part.now.entries) < length (left_above c.loop-waiting.after c.args.before c.args.part.now.entries)) (sym below)
    (fewer_behind c.args.journal.now.receipts c.args.person c.loop-waiting.after c.args.before w c.args.part.now.entries (f - 1) (sym c.in-Some-next_pending.is ∙ c.next_pending.ensures) (not_below w f above other))

pub loop-waiting-preserved : goal.loop-waiting-preserved
loop-waiting-preserved c =
    let w = c.in-Some-next_pending.waiting in
    let f = c.in-Some-first_from.filing in
    let next : find (nat_le w) (filings_of c.args.journal.now.receipts c.args.person) ≡ Some f =
    ap (find (nat_le w)) (sym c.filings_of-filings.ensures) ∙ sym c.first_from.ensures ∙ c.in-Some-first_from.is in
    let above : nat_le w f ≡ true = found_passes (nat_le w) (filings_of c.args.journal.now.receipts c.args.person) f next in
    let other : eqb f w ≡ false = (λ i. eqb (sym c.get.ensures.value i) (sym c.get-in-Some-next_pending.ensures.value i)) ∙ ne_eqb c.get.result c.get-in-Some-next_pending.result c.if-get.false in
    let some : 0 < w = c.get-in-Some-next_pending.ensures.positive in
    let le : w ≤ f - 1 = not_below w f above other in
    let below : c.number_below-after-in-Some-next_pending.result ≡ Some (f - 1) =
    number_below c.number_below-after-in-Some-next_pending.result w f some above other c.number_below-after-in-Some-next_pending.ensures.none c.number_below-after-in-Some-next_pending.ensures.value in
    subst (λ o. list_any (λ q. q == c.args.person) (applicants_above c.args.journal.now.receipts o c.args.before c.args.part.now.entries) ≡ list_any (λ q. q == c.args.person) (waiting_applicants c.args.journal.now.receipts c.args.before c.args.part.now.entries)) (sym below)
    (leaps c.args.journal.now.receipts c.args.person c.loop-waiting.after c.args.before w c.args.part.now.entries f (f - 1) (sym c.in-Some-next_pending.is ∙ c.next_pending.ensures) next le (omega arith)
    c.loop-waiting.invariant)

pub returns : goal.returns
returns c =
    none_pass (λ q. q == c.args.person) c.args.journal.now.receipts c.loop-waiting.after c.args.before c.args.part.now.entries
    (sym c.in_default-next_pending.is ∙ c.next_pending.ensures) c.loop-waiting.invariant
