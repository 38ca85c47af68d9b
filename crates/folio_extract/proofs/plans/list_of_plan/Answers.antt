use Rattle.std.proofs.Common.{◌≡◌, ℕ, IfOk, List, subst, ◌∙◌}
use Rattle.folio_sections.specs.Held.{entries_at}
use Rattle.auction_classes.specs.Sales.{sale_at}
use Rattle.folio_extract.proofs.PlansComputed.{list_as_computed}
use Rattle.folio_extract.proofs.plans.list_of_plan.Goals as goal

pub returns : goal.returns
returns c =
    subst (λ (bytes : List ℕ). IfOk c.csv_of_lines.result (λ list. list.items ≡ bytes))
    (list_as_computed (sale_at c.args.journal.now.receipts (entries_at c.args.register.now.parts) c.args.folio c.args.n) c.lines.result.now
    (c.lines.ensures.value ∙ c.in_ok-plan.ensures))
    c.csv_of_lines.ensures
