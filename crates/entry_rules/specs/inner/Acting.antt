-- What one act of a filing brings, and at which parts.
use Rattle.std.specs.Prelude.{ℕ, Bool, List, IsTrue}
use Rattle.std.specs.List.{AllByRecursion}
use Rattle.gb_base.specs.declared.keys.Key.{Key}
use Rattle.act_model.specs.declared.filing_acts.Act.{Act}
use Rattle.act_model.specs.declared.items.Filing.{Filing}
use Rattle.act_model.specs.declared.receipts.Receipt.{Receipt}
use Rattle.act_model.specs.Documents.{documents}
use Rattle.entry_rules.specs.Entering.{content}
use Rattle.folio_sections.specs.declared.entries.Entry.{Entry}

-- the part of each of these keys is held
abbrev pub Held : (Key → Bool) → List Key → Type 0
Held holds keys = AllByRecursion (λ k. IsTrue (holds k)) keys

-- what act a of filing m brings by item i
abbrev pub brought_by : List Receipt → ℕ → ℕ → (Key → List Entry) → Filing → ℕ → Act → List Entry
brought_by journal m i at f a act = content journal m f.acts (documents journal m f i) i at a act
