-- The open folios among keys, and what a list of all open folios is.
use Rattle.std.specs.Prelude.{◌↔◌, ℕ, ◌<◌, if◌then◌else◌, List, AllPairs, Contains, IsTrue, Option, Some, None}
use Rattle.gb_base.specs.declared.keys.Key.{Key}
use Rattle.gb_base.specs.declared.keys.Key.TheVariants.{Title, Right, Case}
use Rattle.folio_sections.specs.Titles.{is_open}
use Rattle.folio_sections.specs.declared.entries.Entry.{Entry}

-- the folio whose title has this key, where it is open
abbrev pub open_folio_of_title : (Key → List Entry) → Key → Option ℕ
open_folio_of_title at (Title folio) = if is_open (at (Title folio)) then Some folio else None
open_folio_of_title at (Right folio right) = None
open_folio_of_title at (Case folio) = None

-- these are the open folios, ascending, of what stands at each key
pub record AreOpenFolios (folios : List ℕ) (at : Key → List Entry) : Type 0 where
  pub ascending : AllPairs (λ folio later. folio < later) folios
  pub members : (folio : ℕ) → Contains folios folio ↔ IsTrue (is_open (at (Title folio)))
