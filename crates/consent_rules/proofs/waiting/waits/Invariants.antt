use Rattle.std.proofs.Common.{◌≡◌, ◌==◌, length}
use Rattle.std.specs.List.{list_any}
use Rattle.consent_rules.specs.Persons.{waiting_applicants}
use Rattle.consent_rules.specs.inner.WaitersAbove.{applicants_above, left_above}
use Rattle.consent_rules.proofs.waiting.waits.Given as goal

abbrev pub invariant-loop-waiting : goal.invariant-loop-waiting
invariant-loop-waiting l =
    list_any (λ q. q == l.fn.person) (applicants_above l.journal.receipts l.after l.before l.part.entries)
    ≡ list_any (λ q. q == l.fn.person) (waiting_applicants l.journal.receipts l.before l.part.entries)

-- how many filings are left
abbrev pub decreases-loop-waiting : goal.decreases-loop-waiting
decreases-loop-waiting l = length (left_above l.after l.before l.part.entries)
