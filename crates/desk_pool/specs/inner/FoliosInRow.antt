-- Marked folios at their places.
use Rattle.std.specs.Prelude.{◌≡◌, ℕ, List, Option, Some, length, map, slice_get, option_map}
use Rattle.desk_pool.specs.declared.folio_queues.FolioQueue.{FolioQueue}
use Rattle.desk_pool.specs.declared.marked_folios.MarkedFolio.{MarkedFolio}
use Rattle.desk_pool.specs.inner.FolioMarks.{FolioMark, count_here}

-- what a row says of a marked folio
abbrev pub mark_of : {N : Type 0} → MarkedFolio N → FolioMark
mark_of m = record { folio = m.folio.folio; mark = m.mark.token.name }

-- each folio of the row stands at its place
abbrev pub AreInRow : {N : Type 0} → List FolioMark → List (Option (MarkedFolio N)) → Type 0
AreInRow row places = map (option_map mark_of) places ≡ map Some row

-- the folios that are back stand at their places, and so many are back
pub record AreSomeInRow {N : Type 0} (row : List FolioMark) (places : List (Option (MarkedFolio N))) (count : ℕ) : Type 0 where
  pub placed : (place : ℕ) (m : MarkedFolio N) → slice_get places place ≡ Some (Some m) → slice_get row place ≡ Some (mark_of m)
  pub many : count_here places ≡ count
  pub places_are : length places ≡ length row

-- the folio of each queue stands at its place
abbrev pub AreInPlaces : {N : Type 0} → List FolioQueue → List (Option (MarkedFolio N)) → Type 0
AreInPlaces queues places = map (option_map (λ m. m.folio.folio)) places ≡ map (λ q. Some q.folio) queues
