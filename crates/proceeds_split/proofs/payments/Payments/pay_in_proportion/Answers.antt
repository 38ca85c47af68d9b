-- Each of the amounts is at least a cent.
use Rattle.std.proofs.Common.{◌≤◌, All, sym, subst, ◌∙◌}
use Rattle.proceeds_split.proofs.RunsLeft.{amounts_some}
use Rattle.proceeds_split.proofs.payments.Payments.pay_in_proportion.Goals as goal

pub share-got-requires-clause-claims : goal.share-got-requires-clause-claims
share-got-requires-clause-claims c =
    subst (All (λ n. 1 ≤ n)) (sym (c.deref.ensures.0 ∙ c.amounts_of-amounts.ensures)) (amounts_some c.args.claims.now c.requires.each)
