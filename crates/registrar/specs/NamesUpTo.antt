-- Which receipts a register names.
-- Why so: docs/DECISIONS.md, "A register names receipts that were settled".
use Rattle.std.specs.Prelude.{ℕ, ◌≤◌, List, All}
use Rattle.gb_base.specs.declared.keys.Key.{Key}
use Rattle.gb_base.specs.declared.keys.Key.TheVariants.{Right}
use Rattle.folio_sections.specs.declared.entries.Entry.{Entry}
use Rattle.folio_sections.specs.declared.entries.What.{What}
use Rattle.folio_sections.specs.declared.entries.What.TheVariants as what

-- the right that a content creates at its key, and the filing whose place it keeps, are of receipt n or an earlier one
abbrev pub NamesUpTo : ℕ → What → Key → Type 0
NamesUpTo n (what.Created made) (Right folio right) = right.receipt ≤ n
NamesUpTo n (what.Notice filing) key = filing ≤ n
NamesUpTo n other key = Unit {0}

-- each entry of a register names no receipt later than n
abbrev pub AllNameUpTo : ℕ → (Key → List Entry) → Type 0
AllNameUpTo n at = (k : Key) → All (λ e. NamesUpTo n e.what k) (at k)
