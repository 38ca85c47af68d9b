use Rattle.std.proofs.Common.{◌≡◌, ◌++◌, ℕ, List, OnOk, subst, ◌∙◌}
use Rattle.std.specs.String.{string_bytes}
use Rattle.folio_sections.specs.Held.{entries_at}
use Rattle.auction_classes.specs.Sales.{sale_at}
use Rattle.folio_extract.proofs.PlansComputed.{words_as_computed}
use Rattle.folio_extract.proofs.plans.add_plan.Goals as goal

pub returns : goal.returns
returns c =
    subst (λ (bytes : List ℕ). OnOk c.add_plan_lines.result (string_bytes c.add_plan_lines.new.text ≡ string_bytes c.args.text.now ++ bytes))
    (words_as_computed (sale_at c.args.journal.now.receipts (entries_at c.args.register.now.parts) c.args.folio c.args.n) c.money_of-money.result c.lines.result.now
    c.money_of-money.ensures (c.lines.ensures.value ∙ c.in_ok-plan.ensures))
    c.add_plan_lines.ensures
