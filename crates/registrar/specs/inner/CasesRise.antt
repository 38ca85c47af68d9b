-- Receipts at forced sales, settled in the order of receipts.
use Rattle.std.specs.Prelude.{◌≡◌, ℕ, ◌<◌, List, ◌∷◌, ◌++◌}
use Rattle.std.specs.List.{AllByRecursion}
use Rattle.gb_base.specs.declared.keys.Key.{Key}
use Rattle.gb_base.specs.declared.keys.Key.TheVariants.{Case}
use Rattle.folio_sections.specs.declared.entries.Entry.{Entry}

-- before each entry stand only entries of earlier receipts
abbrev pub RisesAt : List Entry → Type 0
RisesAt entries = (before after : List Entry) (e : Entry) → entries ≡ before ++ e ∷ after → AllByRecursion (λ (d : Entry). d.receipt < e.receipt) before

-- so it is at the forced sale of each folio
abbrev pub CasesRise : (Key → List Entry) → Type 0
CasesRise at = (folio : ℕ) → RisesAt (at (Case folio))
