use Rattle.std.proofs.Common.{rules}
use Rattle.folio_extract.proofs.WaitingInOrder.{waiting_in_order}
use Rattle.folio_extract.proofs.waiting.waiting_filings.Goals as goal

pub returns : goal.returns
returns c = search (rules, c.with_notices.ensures.items, waiting_in_order c.args.entries.now c.in_ok-waiting.waiting c.in_ok-notices.notices c.with_notices.ensures.ordered c.in_ok-waiting.ensures.value c.in_ok-notices.ensures c.in_ok-waiting.ensures.receipts)
