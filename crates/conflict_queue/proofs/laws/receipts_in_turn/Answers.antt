use Rattle.conflict_queue.proofs.ReceiptOrder.{receipts_in_turn}
use Rattle.conflict_queue.proofs.laws.receipts_in_turn.Goals as goal

pub returns : goal.returns
returns c = record { permitted = receipts_in_turn }
