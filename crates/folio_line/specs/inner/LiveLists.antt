-- Rights that are live.
use Rattle.std.specs.Prelude.{◌≡◌, ℕ, true, List}
use Rattle.std.specs.List.{AllByRecursion}
use Rattle.gb_base.specs.declared.keys.Key.{Key}
use Rattle.gb_base.specs.declared.keys.Key.TheVariants.{Right}
use Rattle.folio_sections.specs.Rights.{is_live}
use Rattle.folio_sections.specs.declared.entries.Entry.{Entry}
use Rattle.folio_line.specs.declared.folio_rights.CreatedRight.{CreatedRight}

-- each of these is live in the folio
abbrev pub AreLive : (Key → List Entry) → ℕ → List CreatedRight → Type 0
AreLive at folio rights = AllByRecursion (λ x. is_live (at (Right folio x.id)) ≡ true) rights
