-- The creating acts of a folio are at most eight a receipt.
use Rattle.std.proofs.Common.{◌≤◌, length, sym, subst, ◌∙◌, arith}
use Rattle.act_model.proofs.CreationOrder.{creations_few}
use Rattle.act_model.proofs.journals.Journal.creations_in.Goals as goal

pub returns-clause-few : goal.returns-clause-few
returns-clause-few c =
    let is = c.self.invariant.0 in
    let few = creations_few c.self.inside.receipts.items c.args.folio is.items in
    let listed = c.creations_in.ensures ∙ c.self.invariant.2.creations c.args.folio in
    subst (λ rights. length rights ≤ 1600000) (sym listed) (omega (arith, few, is.few))
