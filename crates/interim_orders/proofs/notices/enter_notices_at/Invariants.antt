use Rattle.std.proofs.Common.{length, filter}
use Rattle.folio_sections.specs.Waiting.{waiting_unnoticed, is_above}
use Rattle.interim_orders.proofs.Noticing.{Noticed}
use Rattle.interim_orders.proofs.notices.enter_notices_at.Given as goal

abbrev pub invariant-loop-waiting : goal.invariant-loop-waiting
invariant-loop-waiting g l =
    Noticed l.journal.receipts l.filing l.item l.key l.after
    (g.P.Parts.at l.fn.parts) (g.P.Parts.at l.parts) (g.P.Parts.room l.fn.parts) (g.P.Parts.room l.parts) (g.P.Parts.holds l.fn.parts) (g.P.Parts.holds l.parts)

-- how many filings are left
abbrev pub decreases-loop-waiting : goal.decreases-loop-waiting
decreases-loop-waiting g l = length (filter (is_above l.after) (waiting_unnoticed l.filing (g.P.Parts.at l.fn.parts l.key)))
