-- Earlier items that touch the keys which a later item touches: the filing that it names, and the last item of its sale.
use Rattle.std.specs.Prelude.{◌≡◌, ℕ, ◌<◌, ◌≤◌, List, Some}
use Rattle.std.specs.BTreeMap.{BTreeMap, get}
use Rattle.std.specs.Ordering.{nat_cmp}
use Rattle.gb_base.specs.declared.keys.Key.{Key}
use Rattle.act_model.specs.Touches.{in_key_order}
use Rattle.act_model.specs.declared.receipts.Receipt.{Receipt}
use Rattle.conflict_queue.specs.Dockets.{keys_touched}
use Rattle.conflict_queue.specs.ItemKeys.{keys_of_item}
use Rattle.act_model.specs.SaleKeys.{keys_of_sale}

-- Item j is one of the first n, and touches the keys of a sale of the folio.
pub record IsOfSale (journal : List Receipt) (n folio j : ℕ) : Type 0 where
  pub within : j ≤ n
  pub keys : keys_of_item journal j ≡ keys_of_sale journal j folio

-- what stands under a folio is one of the first n items, and touches the keys of a sale of this folio
abbrev pub AreSales : List Receipt → ℕ → BTreeMap ℕ ℕ → Type 0
AreSales journal n sales = (folio j : ℕ) → get nat_cmp sales folio ≡ Some j → IsOfSale journal n folio j

-- Item j is earlier than item i, and touches the keys that item i touches.
pub record TouchesSame (journal : List Receipt) (i j : ℕ) : Type 0 where
  pub earlier : j < i
  pub keys : keys_touched journal j ≡ keys_touched journal i

-- Item j is earlier than item i, and touches these keys.
pub record IsAhead (journal : List Receipt) (i j : ℕ) (keys : List Key) : Type 0 where
  pub earlier : j < i
  pub touched : keys_touched journal j ≡ in_key_order keys
