-- What the registers of the one registrar keep of distributions (ZVG §§ 105, 113).
use Rattle.std.specs.Prelude.{◌≡◌, ℕ, ◌≤◌, List, All, Any, IsSomeAnd, IsTrue, Some}
use Rattle.gb_base.specs.declared.keys.Key.{Key}
use Rattle.gb_base.specs.declared.keys.Key.TheVariants.{Case}
use Rattle.act_model.specs.Receiving.{item_at}
use Rattle.act_model.specs.declared.items.Item.TheVariants as item
use Rattle.act_model.specs.declared.receipts.Receipt.{Receipt}
use Rattle.folio_sections.specs.Cases.{is_distribution}
use Rattle.folio_sections.specs.declared.entries.Entry.{Entry}
use Rattle.auction_classes.specs.Sales.{IsFound, sale_at}
use Rattle.sale_rules.specs.SaleGrounds.{lowest}
use Rattle.sale_rules.specs.SaleMoney.{money}

-- A distribution by receipt n stands by its item, in a case that runs and has a call to bid. There is a lowest bid, and the money
-- covers its part in cash: so it can be paid by a plan.
pub record IsDistributionKept (journal : List Receipt) (at : Key → List Entry) (folio n : ℕ) : Type 0 where
  pub item : item_at journal n ≡ Some (item.Distribute folio)
  pub found : IsFound (sale_at journal at folio n)
  pub covered : IsSomeAnd (lowest (sale_at journal at folio n)) (λ least. least.cash ≤ money (sale_at journal at folio n))

-- each distribution of a register is kept in this way
abbrev pub DistributionsKept : List Receipt → (Key → List Entry) → Type 0
DistributionsKept journal at =
    (folio : ℕ) → All (λ e. IsTrue (is_distribution e.what) → IsDistributionKept journal at folio e.receipt) (at (Case folio))

-- receipt n has distributed so much in a folio
pub record IsDistributed (journal : List Receipt) (at : Key → List Entry) (folio n cents : ℕ) : Type 0 where
  pub item : item_at journal n ≡ Some (item.Distribute folio)
  pub stands : Any (λ e. (e.receipt ≡ n) × IsTrue (is_distribution e.what)) (at (Case folio))
  pub money : cents ≡ money (sale_at journal at folio n)
