-- The open folios of a register.
use Rattle.std.specs.Prelude.{ℕ, List, filter, filter_map, map, Option, Some, None}
use Rattle.gb_base.specs.declared.keys.Key.{Key}
use Rattle.gb_base.specs.declared.keys.Key.TheVariants.{Title, Right, Case}
use Rattle.act_model.specs.Touches.{in_key_order}
use Rattle.folio_sections.specs.Entries.{at}
use Rattle.folio_sections.specs.Titles.{is_open}
use Rattle.folio_sections.specs.declared.entries.Entry.{Entry}

-- the folio whose title has this key
abbrev pub folio_of_title : Key → Option ℕ
folio_of_title (Title folio) = Some folio
folio_of_title (Right folio right) = None
folio_of_title (Case folio) = None

-- the folios that have an entry at their title, ascending
abbrev pub folios_of : List Entry → List ℕ
folios_of entries = filter_map folio_of_title (in_key_order (map (λ e. e.key) entries))

-- the open ones among them, ascending
abbrev pub open_folios : List Entry → List ℕ
open_folios entries = filter (λ folio. is_open (at entries (Title folio))) (folios_of entries)
