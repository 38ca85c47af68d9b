-- The plans of a register: of each distribution, how its money is paid (ZVG §§ 105 to 114).
use Rattle.std.specs.Prelude.{ℕ, if◌then◌else◌, List, [], flat_map, Option, Some, None, option_and_then, option_map}
use Rattle.std.specs.Option.{option_map_or}
use Rattle.gb_base.specs.declared.keys.Key.{Key}
use Rattle.gb_base.specs.declared.keys.Key.TheVariants.{Case}
use Rattle.act_model.specs.Receiving.{item_at}
use Rattle.act_model.specs.declared.items.Item.{Item}
use Rattle.act_model.specs.declared.items.Item.TheVariants as item
use Rattle.act_model.specs.declared.receipts.Receipt.{Receipt}
use Rattle.folio_sections.specs.Cases.{is_distribution}
use Rattle.folio_sections.specs.declared.entries.Entry.{Entry}
use Rattle.auction_classes.specs.SaleClaims.{claimed_in}
use Rattle.auction_classes.specs.Sales.{Sale, sale_at}
use Rattle.sale_rules.specs.SaleGrounds.{lowest}
use Rattle.sale_rules.specs.SaleMoney.{money}
use Rattle.proceeds_split.specs.Plan.{plan_of}
use Rattle.proceeds_split.specs.declared.plan_lines.PlanLine.{PlanLine}
use Rattle.folio_extract.specs.PlanCsv.{csv_of_lines}
use Rattle.folio_extract.specs.PlanTexts.{plan_with}
use Rattle.registrar.specs.RegisterState.{verdict_among}
use Rattle.registrar.specs.declared.verdicts.Verdict.{Verdict}
use Rattle.registrar.specs.declared.verdicts.Verdict.TheVariants as verdict

-- ---- the plan of a sale

-- The lines of the plan by which a distribution pays its money. There is a lowest bid, since what is distributed covers its part in
-- cash; so there is a plan.
abbrev pub plan_lines : Sale → List PlanLine
plan_lines s = option_map_or (λ least. plan_of (claimed_in s) least (money s)) (lowest s) []

-- the plan in words
unfoldable pub plan_in_words : Sale → List ℕ
plan_in_words s = plan_with s.folio s.item (money s) (plan_lines s)

-- the plan as CSV
unfoldable pub plan_in_csv : Sale → List ℕ
plan_in_csv s = csv_of_lines (plan_lines s)

-- ---- the plan of a receipt

-- the money that was distributed, where the verdict says so
abbrev pub money_told : Verdict → Option ℕ
money_told (verdict.Distributed cents) = Some cents
money_told other = None

-- the money that receipt n distributes; none where it has no verdict that says so
abbrev pub distributed_by : List (ℕ × Verdict) → ℕ → Option ℕ
distributed_by verdicts n = option_and_then money_told (verdict_among verdicts n)

-- the folio of a distribution
abbrev pub folio_named : Item → Option ℕ
folio_named (item.Distribute folio) = Some folio
folio_named other = None

-- the folio of which receipt n distributes the proceeds; none where it has no verdict that says so
abbrev pub folio_distributed : List Receipt → List (ℕ × Verdict) → ℕ → Option ℕ
folio_distributed journal verdicts n = option_and_then (λ cents. option_and_then folio_named (item_at journal n)) (distributed_by verdicts n)

-- the sale whose proceeds receipt n distributes; none where it has no verdict that says so
abbrev pub sale_distributed : List Receipt → List (ℕ × Verdict) → (Key → List Entry) → ℕ → Option Sale
sale_distributed journal verdicts at n = option_map (λ folio. sale_at journal at folio n) (folio_distributed journal verdicts n)

-- ---- the plans of a folio

-- the plan that an entry at the forced sale of a folio brings: a distribution has one
abbrev pub plan_by : List Receipt → (Key → List Entry) → ℕ → Entry → List ℕ
plan_by journal at folio e = if is_distribution e.what then plan_in_words (sale_at journal at folio e.receipt) else []

-- the plans of the folio's distributions, in their order
abbrev pub plans_of_folio : List Receipt → (Key → List Entry) → ℕ → List ℕ
plans_of_folio journal at folio = flat_map (plan_by journal at folio) (at (Case folio))
