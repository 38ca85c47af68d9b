-- The title, then the rights in their order, then the sale.
use Rattle.std.proofs.Common.{◌∙◌, ◌++◌, ◌∷◌, [], map, ap}
use Rattle.gb_base.specs.declared.keys.Key.TheVariants.{Title, Right, Case}
use Rattle.act_model.specs.SaleKeys.{earlier_rights}
use Rattle.act_model.proofs.EarlierRights.{earlier_rise}
use Rattle.conflict_queue.proofs.Fronts.{take_few}
use Rattle.conflict_queue.proofs.SaleKeys.{sale_in_order}
use Rattle.conflict_queue.proofs.touched.keys_of_sale.Goals as goal

pub returns : goal.returns
returns c =
    let folio = c.args.folio in
    let rights = earlier_rights c.args.journal.now.receipts c.args.n folio in
    c.push_reserved-2.ensures.items
    ∙ ap (λ ks. ks ++ Case folio ∷ []) (c.loop-right.invariant.listed
    ∙ ap (λ rs. Title folio ∷ map (Right folio) rs) (take_few c.loop-right.right-index c.earlier_rights-rights.result.now c.loop-right-test.false ∙ c.earlier_rights-rights.ensures))
    ∙ sale_in_order folio rights (earlier_rise c.args.journal.now.receipts c.args.n folio)
