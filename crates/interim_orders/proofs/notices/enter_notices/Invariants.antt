use Rattle.std.proofs.Common.{drop}
use Rattle.gb_base.specs.declared.keys.Key.{Key}
use Rattle.interim_orders.specs.Notices.{notices_at}
use Rattle.folio_sections.proofs.Progress.{Progress}
use Rattle.interim_orders.proofs.Noticing.{StandsApart}
use Rattle.interim_orders.proofs.notices.enter_notices.Given as goal

abbrev pub invariant-loop-key : goal.invariant-loop-key
invariant-loop-key g l =
    Progress Key (notices_at l.journal.receipts l.filing l.item) (StandsApart (drop l.key-index l.key-items)) l.key-items (drop l.key-index l.key-items)
    (g.P.Parts.at l.fn.parts) (g.P.Parts.at l.parts) (g.P.Parts.room l.fn.parts) (g.P.Parts.room l.parts) (g.P.Parts.holds l.fn.parts) (g.P.Parts.holds l.parts)
