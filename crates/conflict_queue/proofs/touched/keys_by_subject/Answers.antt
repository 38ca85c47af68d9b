-- A single key is in order.
use Rattle.std.proofs.Common.{◌≡◌, ◌∙◌, [], ◌∷◌, sym, ap}
use Rattle.std.proofs.lemmas.Result.{IfOk-weaker}
use Rattle.gb_base.specs.declared.keys.Key.TheVariants.{Case}
use Rattle.act_model.specs.Touches.{in_key_order}
use Rattle.act_model.proofs.KeyOrder.{placed_in_order}
use Rattle.conflict_queue.specs.ItemKeys.{keys_by_subject}
use Rattle.conflict_queue.proofs.touched.keys_by_subject.Goals as goal

pub returns-in-Claims : goal.returns-in-Claims
returns-in-Claims c =
    IfOk-weaker c.from_slice-in-Claims.result (λ v. v.items ≡ Case c.in-Claims.folio ∷ []) (λ v. v.items ≡ in_key_order (keys_by_subject c.args.journal.now.receipts c.args.n c.args.subject))
    (λ v is. is ∙ placed_in_order (Case c.in-Claims.folio ∷ []) ∙ sym (ap (λ s. in_key_order (keys_by_subject c.args.journal.now.receipts c.args.n s)) c.in-Claims.is))
    c.from_slice-in-Claims.ensures.items
