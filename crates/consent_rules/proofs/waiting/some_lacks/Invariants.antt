use Rattle.std.proofs.Common.{◌≡◌, ◌||◌, length}
use Rattle.std.specs.List.{list_any}
use Rattle.consent_rules.specs.Persons.{waiting_applicants}
use Rattle.consent_rules.specs.inner.Lacks.{is_lacking}
use Rattle.consent_rules.specs.inner.WaitersAbove.{applicants_above, left_above}
use Rattle.consent_rules.proofs.waiting.some_lacks.Given as goal

abbrev pub invariant-loop-filing : goal.invariant-loop-filing
invariant-loop-filing l =
    (list_any (is_lacking l.lack) (applicants_above l.journal.receipts l.ahead l.from l.part.entries)
    || list_any (is_lacking l.lack) (applicants_above l.journal.receipts l.behind l.before l.part.entries))
    ≡ list_any (is_lacking l.lack) (waiting_applicants l.journal.receipts l.before l.part.entries)

-- how many filings are left to the walk from the first on
abbrev pub decreases-loop-filing : goal.decreases-loop-filing
decreases-loop-filing l = length (left_above l.ahead l.from l.part.entries)
