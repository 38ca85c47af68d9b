-- What is said of the sale of a view is said of the sale that the view was made of.
use Rattle.std.proofs.Common.{ℕ, Bool, List, sym, subst}
use Rattle.gb_base.specs.declared.keys.Key.{Key}
use Rattle.act_model.specs.JournalState.{JournalState}
use Rattle.folio_sections.specs.declared.entries.Entry.{Entry}
use Rattle.kept_registers.specs.Kept.{Kept}
use Rattle.kept_registers.specs.Standing.{StandsFor}
use Rattle.auction_classes.specs.Sales.{Sale, sale_at}
use Rattle.sale_rules.specs.SaleParts.{OfEachKept}
use Rattle.sale_rules.specs.declared.sale_views.SaleView.{SaleView}
use Rattle.sale_rules.specs.inner.SaleViews.{IsViewOf, OfSale}

pub of_view : {P : Type 0} {v : SaleView P} {parts : P} {journal : JournalState} {item folio : ℕ} (holds : P → Key → Bool) (at : P → Key → List Entry) (Q : Sale → Type 0)
    → IsViewOf v parts journal item folio → OfSale holds at v Q → OfEachKept journal.receipts (holds parts) (at parts) (λ register. Q (sale_at journal.receipts register folio item))
of_view holds at Q made said register stands kept =
    subst Q (λ i. sale_at (made.of_journal i).receipts register (made.of_folio i) (made.of_item i))
    (said register (subst (λ p. StandsFor (holds p) (at p) register) (sym made.of_parts) stands) (subst (λ (j : JournalState). Kept j.receipts register) (sym made.of_journal) kept))
