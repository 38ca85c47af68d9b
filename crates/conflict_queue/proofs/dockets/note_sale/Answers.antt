use Rattle.std.proofs.Common.{◌∙◌, ◌-◌, Some, sym, ap, subst, arith}
use Rattle.std.specs.BTreeMap.{Updates}
use Rattle.std.specs.Ordering.{nat_cmp}
use Rattle.conflict_queue.specs.ItemKeys.{keys_by_subject}
use Rattle.conflict_queue.proofs.Alike.{item_touches, later_sales, with_sale}
use Rattle.conflict_queue.proofs.dockets.note_sale.Goals as goal

pub returns-in_ok-insert : goal.returns-in_ok-insert
returns-in_ok-insert c =
    let journal = c.args.journal.now.receipts in
    let item = c.item_at.result.now in
    with_sale journal (c.args.item - 1) c.args.item c.in-Sale.folio c.args.sales.now c.insert.new.self (omega arith) c.requires.sales
    (item_touches journal c.args.item item c.item_at.ensures ∙ ap (keys_by_subject journal c.args.item) (sym c.subject.ensures ∙ c.in-Sale.is))
    (subst (λ k. Updates nat_cmp c.args.sales.now c.insert.new.self k (Some c.args.item)) c.get.ensures.value c.in_ok-insert.ensures.updates)

pub returns-in_default : goal.returns-in_default
returns-in_default c = later_sales c.args.journal.now.receipts (c.args.item - 1) c.args.item c.args.sales.now (omega arith) c.requires.sales
