-- A sale as it is read from parts.
use Rattle.std.specs.Prelude.{ℕ, Bool, List, [], Option, IsTrue}
use Rattle.std.specs.Option.{option_map_or}
use Rattle.gb_base.specs.declared.keys.Key.{Key}
use Rattle.act_model.specs.declared.receipts.Receipt.{Receipt}
use Rattle.folio_sections.specs.Fronts.{NeverFall, below}
use Rattle.folio_sections.specs.declared.entries.Entry.{Entry}
use Rattle.folio_line.specs.FolioReading.{where_held}
use Rattle.auction_classes.specs.Sales.{Sale, sale_at}

-- what an item finds at a key: the entries by earlier items where the key is held, and none at any other key
abbrev pub found_at : (Key → Bool) → (Key → List Entry) → ℕ → Key → List Entry
found_at holds at item key = below item (where_held holds at key)

-- the entries of a case that was found, and none where the parts do not hold it
abbrev pub entries_found : Option (List Entry) → List Entry
entries_found found = option_map_or (λ entries. entries) found []

-- the sale as the parts have it
abbrev pub sale_read : List Receipt → (Key → Bool) → (Key → List Entry) → ℕ → ℕ → Sale
sale_read journal holds at folio item = sale_at journal (where_held holds at) folio item

-- receipts never fall at the keys that are held
abbrev pub CanBeFound : (Key → Bool) → (Key → List Entry) → Type 0
CanBeFound holds at = (k : Key) → IsTrue (holds k) → NeverFall (at k)
