-- The folios whose keys an item touches.
use Rattle.std.specs.Prelude.{◌≡◌, ◌⊎◌, ◌<◌, IsTrue, List, [], All, Contains}
use Rattle.gb_base.specs.Keys.{folio_of_key}
use Rattle.gb_base.specs.declared.keys.Key.{Key}
use Rattle.desk_pool.specs.FolioQueues.{has_folio}
use Rattle.desk_pool.specs.declared.touched_folios.TouchedFolios.TheVariants as touched
use Rattle.desk_pool.specs.declared.touched_folios.TouchedFolios.{TouchedFolios}

-- where two of these keys are of different folios, any other is of one of these two folios
abbrev pub AreOfFewFolios : List Key → Type 0
AreOfFewFolios keys = (j k l : Key) → Contains keys j → Contains keys k → Contains keys l → (folio_of_key j ≡ folio_of_key k → ⊥) → (folio_of_key l ≡ folio_of_key j) ⊎ (folio_of_key l ≡ folio_of_key k)

-- these are the folios of the keys, and the first of two has the lower number
abbrev pub AreTouched : List Key → TouchedFolios → Type 0
AreTouched keys touched.Nowhere = keys ≡ []
AreTouched keys (touched.One folio) = IsTrue (has_folio keys folio) × All (λ k. folio_of_key k ≡ folio) keys
AreTouched keys (touched.Two first second) =
    (first < second) × IsTrue (has_folio keys first) × IsTrue (has_folio keys second) × All (λ k. (folio_of_key k ≡ first) ⊎ (folio_of_key k ≡ second)) keys
