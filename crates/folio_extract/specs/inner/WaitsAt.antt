-- Where a filing waits, in words.
use Rattle.std.specs.Prelude.{ℕ, List, codes}
use Rattle.gb_base.specs.Texts.{right_text}
use Rattle.folio_extract.specs.declared.waiting_lines.WaitsAt.{WaitsAt}
use Rattle.folio_extract.specs.declared.waiting_lines.WaitsAt.TheVariants as place

-- the place in words
abbrev pub waits_at_text : WaitsAt → List ℕ
waits_at_text place.Title = codes "title"
waits_at_text (place.Right id) = right_text id
