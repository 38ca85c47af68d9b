-- The folios whose title is among keys.
use Rattle.std.specs.Prelude.{ℕ, Option, Some, None}
use Rattle.gb_base.specs.declared.keys.Key.{Key}
use Rattle.gb_base.specs.declared.keys.Key.TheVariants.{Title}

-- the folio of a title
abbrev pub titled_folio : Key → Option ℕ
titled_folio (Title folio) = Some folio
titled_folio other = None
