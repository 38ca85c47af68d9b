-- The rights that a walk over numbers finds.
use Rattle.std.specs.Prelude.{ℕ, Bool, if◌then◌else◌, List, Option, None}
use Rattle.gb_base.specs.RightNo.{RightNo}
use Rattle.gb_base.specs.declared.keys.Key.{Key}
use Rattle.folio_sections.specs.declared.entries.Entry.{Entry}
use Rattle.folio_sections.specs.inner.RightsInKeys.{is_right_number}
use Rattle.folio_line.specs.FolioRights.{right_where}
use Rattle.folio_line.specs.declared.folio_rights.CreatedRight.{CreatedRight}

-- the right of a number that there may be
abbrev pub right_found : (RightNo → List Entry → Bool) → (Key → List Entry) → ℕ → RightNo → Option CreatedRight
right_found holds at folio id = if is_right_number id then right_where holds at folio id else None
