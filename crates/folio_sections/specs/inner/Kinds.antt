-- A part of any kind.
use Rattle.std.specs.Prelude.{Bool, true, false}
use Rattle.gb_base.specs.declared.keys.Key.{Key}
use Rattle.gb_base.specs.declared.keys.Key.TheVariants as at
use Rattle.folio_sections.specs.PartState.{PartState}
use Rattle.folio_sections.specs.declared.map_parts.any_part.Kind.{Kind}
use Rattle.folio_sections.specs.declared.map_parts.any_part.Kind.TheVariants as kind

-- what is seen of the part
abbrev pub state_of : Kind → PartState
state_of (kind.Title part) = part
state_of (kind.Right part) = part
state_of (kind.Case part) = part

-- the key is of a title
abbrev pub is_title : Key → Bool
is_title (at.Title folio) = true
is_title other = false

-- the key is of a right
abbrev pub is_right : Key → Bool
is_right (at.Right folio right) = true
is_right other = false

-- the key is of a forced sale
abbrev pub is_case : Key → Bool
is_case (at.Case folio) = true
is_case other = false

-- the part is of the kind that its key says
abbrev pub fits_key : Kind → Bool
fits_key (kind.Title part) = is_title part.key
fits_key (kind.Right part) = is_right part.key
fits_key (kind.Case part) = is_case part.key
