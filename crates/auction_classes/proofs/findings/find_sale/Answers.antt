-- The journal has the receipt of the first seizure.
use Rattle.std.proofs.Common.{IsSome}
use Rattle.act_model.specs.Receiving.{receipt_at}
use Rattle.auction_classes.proofs.CaseReceipts.{of_number}
use Rattle.auction_classes.proofs.findings.find_sale.Goals as goal

pub stamp_year-year-requires : goal.stamp_year-year-requires
stamp_year-year-requires c = of_number (λ n. IsSome (receipt_at c.args.journal.now.receipts n)) _ _ c.requires.seized c.first_seizure-seized.ensures
