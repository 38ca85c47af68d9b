-- The registrations of the receipts so far.
use Rattle.std.proofs.Common.{option_and_then}
use Rattle.act_model.specs.Receiving.{item_at}
use Rattle.auction_classes.specs.Sales.{registered_by}
use Rattle.auction_classes.specs.inner.Findings.{is_late_by}
use Rattle.auction_classes.proofs.FoundSoFar.{IsFoundOf}
use Rattle.auction_classes.proofs.findings.registrations_among.Given as goal

abbrev pub invariant-loop-n : goal.invariant-loop-n
invariant-loop-n l = IsFoundOf (λ n. option_and_then (registered_by (is_late_by l.called n)) (item_at l.journal.receipts n)) l.numbers l.n-index l.registrations.items
