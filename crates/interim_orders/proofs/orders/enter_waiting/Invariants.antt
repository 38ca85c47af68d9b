use Rattle.std.proofs.Common.{drop}
use Rattle.gb_base.specs.declared.keys.Key.{Key}
use Rattle.folio_sections.proofs.Progress.{Progress}
use Rattle.interim_orders.specs.inner.Marks.{mark}
use Rattle.interim_orders.proofs.Marking.{IsAny, mark_at}
use Rattle.interim_orders.proofs.orders.enter_waiting.Given as goal

abbrev pub invariant-loop-key : goal.invariant-loop-key
invariant-loop-key g l =
    Progress Key (mark_at l.journal.receipts l.item (mark l.filing l.until)) IsAny l.key-items (drop l.key-index l.key-items)
    (g.P.Parts.at l.fn.parts) (g.P.Parts.at l.parts) (g.P.Parts.room l.fn.parts) (g.P.Parts.room l.parts) (g.P.Parts.holds l.fn.parts) (g.P.Parts.holds l.parts)
