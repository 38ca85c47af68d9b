-- A sale as a view of it sees it.
use Rattle.std.specs.Prelude.{◌≡◌, ℕ, Bool, List, Contains, IsTrue}
use Rattle.gb_base.specs.declared.keys.Key.{Key}
use Rattle.act_model.specs.JournalState.{JournalState}
use Rattle.act_model.specs.SaleKeys.{keys_of_sale}
use Rattle.folio_sections.specs.declared.entries.Entry.{Entry}
use Rattle.kept_registers.specs.Standing.{StandsForKept}
use Rattle.auction_classes.specs.Sales.{Sale, at_case, sale_at}
use Rattle.sale_rules.specs.SaleParts.{OfEachKept}
use Rattle.sale_rules.specs.declared.sale_views.SaleView.{SaleView}
use Rattle.sale_rules.specs.inner.SalesRead.{CanBeFound, entries_found, sale_read}

-- the sale that a view sees
abbrev pub sale_seen : {P : Type 0} → (P → Key → Bool) → (P → Key → List Entry) → SaleView P → Sale
sale_seen holds at v = sale_read v.journal.now.receipts (holds v.parts.now) (at v.parts.now) v.folio v.item

-- The view was made of these.
pub record IsViewOf {P : Type 0} (v : SaleView P) (parts : P) (journal : JournalState) (item folio : ℕ) : Type 0 where
  pub of_parts : v.parts.now ≡ parts
  pub of_journal : v.journal.now ≡ journal
  pub of_item : v.item ≡ item
  pub of_folio : v.folio ≡ folio

-- The sale of a view can be found in its parts, and the case that it has is that of the sale.
pub record SeesSale {P : Type 0} (holds : P → Key → Bool) (at : P → Key → List Entry) (v : SaleView P) : Type 0 where
  pub rise : CanBeFound (holds v.parts.now) (at v.parts.now)
  pub case : entries_found v.case ≡ at_case (sale_seen holds at v)

-- The parts of a view hold the keys of its sale, and stand for a kept register.
pub record HoldsSale {P : Type 0} (holds : P → Key → Bool) (at : P → Key → List Entry) (v : SaleView P) : Type 0 where
  pub held : (k : Key) → Contains (keys_of_sale v.journal.now.receipts v.item v.folio) k → IsTrue (holds v.parts.now k)
  pub kept : StandsForKept v.journal.now.receipts (holds v.parts.now) (at v.parts.now)

-- the statement holds of the sale of a view in each kept register that its parts stand for
abbrev pub OfSale : {P : Type 0} → (P → Key → Bool) → (P → Key → List Entry) → SaleView P → (Sale → Type 0) → Type 0
OfSale holds at v Q =
    OfEachKept v.journal.now.receipts (holds v.parts.now) (at v.parts.now) (λ register. Q (sale_at v.journal.now.receipts register v.folio v.item))
