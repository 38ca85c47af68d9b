-- The filing that an item names and the last item of its sale touch what the item touches.
use Rattle.std.proofs.Common.{sym, ap, ◌∙◌}
use Rattle.conflict_queue.specs.ItemKeys.{keys_by_subject, keys_of_named}
use Rattle.act_model.specs.SaleKeys.{keys_of_sale}
use Rattle.conflict_queue.proofs.Alike.{alike}
use Rattle.conflict_queue.proofs.dockets.touched_alike.Goals as goal

pub returns-in-Filing : goal.returns-in-Filing
returns-in-Filing c = alike c.args.journal.now.receipts c.args.item c.item_at.result.now (keys_of_named c.args.journal.now.receipts c.args.item c.in-Filing.filing) c.item_at.ensures
    (ap (keys_by_subject c.args.journal.now.receipts c.args.item) (sym c.subject.ensures ∙ c.in-Filing.is)) c.earlier_filing.result c.earlier_filing.ensures

pub returns-in-Sale : goal.returns-in-Sale
returns-in-Sale c = alike c.args.journal.now.receipts c.args.item c.item_at.result.now (keys_of_sale c.args.journal.now.receipts c.args.item c.in-Sale.folio) c.item_at.ensures
    (ap (keys_by_subject c.args.journal.now.receipts c.args.item) (sym c.subject.ensures ∙ c.in-Sale.is)) c.last_of_sale.result c.last_of_sale.ensures
