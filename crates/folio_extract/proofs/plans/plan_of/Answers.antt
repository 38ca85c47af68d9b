use Rattle.std.proofs.Common.{◌≡◌, IfOk, subst}
use Rattle.folio_sections.specs.Held.{entries_at}
use Rattle.auction_classes.specs.Sales.{sale_at}
use Rattle.folio_extract.proofs.PlansComputed.{covered_as_computed, plan_as_computed}
use Rattle.folio_extract.proofs.plans.plan_of.Goals as goal

pub plan_for-requires-clause-covered : goal.plan_for-requires-clause-covered
plan_for-requires-clause-covered c =
    covered_as_computed (sale_at c.args.journal.now.receipts (entries_at c.args.register.now.parts) c.args.folio c.args.n) c.in_ok-claims.claims.claimed c.args.cents
    c.in_ok-claims.ensures.claimed c.requires.money c.requires.kept.covered

pub returns : goal.returns
returns c =
    subst (λ lines. IfOk c.plan_for.result (λ plan. plan ≡ lines))
    (plan_as_computed (sale_at c.args.journal.now.receipts (entries_at c.args.register.now.parts) c.args.folio c.args.n) c.in_ok-claims.claims.claimed c.args.cents
    c.in_ok-claims.ensures.claimed c.requires.money)
    c.plan_for.ensures
