-- What stands at each key of a filing that is set to wait, or waits no longer.
use Rattle.std.specs.Prelude.{ℕ, List, map, Option, Some, None}
use Rattle.act_model.specs.Touches.{keys_in_order}
use Rattle.act_model.specs.declared.receipts.Receipt.{Receipt}
use Rattle.folio_sections.specs.Entries.{entry_by}
use Rattle.folio_sections.specs.declared.entries.Entry.{Entry}
use Rattle.folio_sections.specs.declared.entries.What.{What}
use Rattle.folio_sections.specs.declared.entries.What.TheVariants as what

-- the content that sets filing m to wait until a day, or ends its waiting where there is no day
abbrev pub mark : ℕ → Option ℕ → What
mark m (Some until) = what.Pending m until
mark m None = what.Settled m

-- this content by item i at each key of the filing
abbrev pub marks : List Receipt → ℕ → ℕ → Option ℕ → List Entry
marks journal m i until = map (λ k. entry_by journal i k (mark m until)) (keys_in_order journal m)
