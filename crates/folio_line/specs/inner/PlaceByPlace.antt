-- The places of rights in order, as they are written one after the other.
use Rattle.std.specs.Prelude.{ℕ, Bool, List, [], ◌∷◌, Option, Some}
use Rattle.gb_base.specs.RightNo.{RightNo}
use Rattle.rank_slots.specs.declared.places.Place.{Place}
pub use Rattle.folio_line.specs.FolioRights.{joins_place}
use Rattle.folio_line.specs.FolioSlots.{place_on_line}
use Rattle.folio_line.specs.declared.folio_rights.CreatedRight.{CreatedRight}

-- the place of a right, with the right that stands before it, if there is one
abbrev pub place_behind : (RightNo → ℕ) → (RightNo → Bool) → Option CreatedRight → CreatedRight → Place
place_behind claims gone before x = place_on_line claims gone (joins_place before x) x

-- the places of these rights, with the right that stands before them, if there is one
abbrev pub places_behind : (RightNo → ℕ) → (RightNo → Bool) → Option CreatedRight → List CreatedRight → List Place
places_behind claims gone before [] = []
places_behind claims gone before (x ∷ xs) = place_behind claims gone before x ∷ places_behind claims gone (Some x) xs
