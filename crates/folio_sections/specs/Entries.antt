-- The register as a list of entries, and as the entries at each key.
use Rattle.std.specs.Prelude.{List, ◌++◌, filter, ℕ}
use Rattle.gb_base.specs.Keys.{same_key}
use Rattle.gb_base.specs.declared.keys.Key.{Key}
use Rattle.folio_sections.specs.declared.entries.Entry.{Entry}
use Rattle.act_model.specs.declared.receipts.Receipt.{Receipt}
use Rattle.act_model.specs.Receiving.{day_of}
use Rattle.folio_sections.specs.declared.entries.What.{What}

-- the entries that stand at a key, in order
abbrev pub at : List Entry → Key → List Entry
at entries key = filter (λ e. same_key e.key key) entries

-- at each key, the entries before and then those of the list
abbrev pub with_entries : (Key → List Entry) → List Entry → Key → List Entry
with_entries before entries key = before key ++ at entries key

-- an entry by item i
abbrev pub entry_by : List Receipt → ℕ → Key → What → Entry
entry_by journal i key what = record { receipt = i; day = day_of journal i; key = key; what = what }
