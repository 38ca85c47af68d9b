use Rattle.std.proofs.Common.{◌∙◌, arith}
use Rattle.folio_extract.proofs.MapInOrder.{apart, behind, none_left}
use Rattle.folio_extract.proofs.waiting.note_waiting.Goals as goal

pub returns-in_ok-insert-in-Pending-clause-receipts : goal.returns-in_ok-insert-in-Pending-clause-receipts
returns-in_ok-insert-in-Pending-clause-receipts c = λ receipts. record {
  from_one = c.in_ok-insert-in-Pending.ensures.updates.2 0 (behind c.in-Pending.filing 0 c.number_of.ensures.from_one) ∙ receipts.from_one;
  to_last = λ n above. c.in_ok-insert-in-Pending.ensures.updates.2 n (apart c.in-Pending.filing n (omega (arith, above, c.number_of.ensures.to_last))) ∙ receipts.to_last n above;
}

pub returns-in-Settled-clause-receipts : goal.returns-in-Settled-clause-receipts
returns-in-Settled-clause-receipts c = λ receipts. record {
  from_one = c.remove.ensures.updates.0 0 ∙ none_left _ _ receipts.from_one;
  to_last = λ n above. c.remove.ensures.updates.0 n ∙ none_left _ _ (receipts.to_last n above);
}
