use Rattle.std.proofs.Common.{◌≡◌, IfOk, subst}
use Rattle.act_model.specs.Touches.{in_key_order}
use Rattle.conflict_queue.specs.ItemKeys.{keys_by_subject}
use Rattle.conflict_queue.proofs.touched.keys_by_item.Goals as goal

pub returns : goal.returns
returns c =
    subst (λ s. IfOk c.keys_by_subject.result (λ keys. keys.items ≡ in_key_order (keys_by_subject c.args.journal.now.receipts c.args.n s))) c.subject.ensures c.keys_by_subject.ensures
