-- The official notices that the entry of filing m by item i brings: they keep the places of earlier filings that wait (GBO § 18(2)).
use Rattle.std.specs.Prelude.{ℕ, List, flat_map, map}
use Rattle.gb_base.specs.declared.keys.Key.{Key}
use Rattle.act_model.specs.declared.receipts.Receipt.{Receipt}
use Rattle.act_model.specs.Touches.{keys_in_order}
use Rattle.folio_sections.specs.Entries.{with_entries, entry_by}
use Rattle.folio_sections.specs.Waiting.{waiting_unnoticed}
use Rattle.folio_sections.specs.declared.entries.Entry.{Entry}
use Rattle.folio_sections.specs.declared.entries.What.TheVariants as what

-- the official notices that the entry of filing m brings at a key
abbrev pub notices_at : List Receipt → ℕ → ℕ → (Key → List Entry) → Key → List Entry
notices_at journal m i at key = map (λ n. entry_by journal i key (what.Notice n)) (waiting_unnoticed m (at key))

-- the official notices that the entry of filing m brings, key by key
abbrev pub notices_brought : List Receipt → ℕ → ℕ → (Key → List Entry) → List Entry
notices_brought journal m i at = flat_map (notices_at journal m i at) (keys_in_order journal m)

-- what stands at each key once the official notices are entered
abbrev pub with_notices : List Receipt → ℕ → ℕ → (Key → List Entry) → Key → List Entry
with_notices journal m i at = with_entries at (notices_brought journal m i at)
