-- What stands at a key is taken over from the parts of its folio.
use Rattle.std.specs.Prelude.{◌≡◌, ℕ, List, IsTrue, Some, option_map, set, slice_get}
use Rattle.gb_base.specs.Keys.{folio_of_key}
use Rattle.gb_base.specs.declared.keys.Key.{Key}
use Rattle.desk_pool.specs.declared.folio_queues.FolioQueue.{FolioQueue}
use Rattle.folio_sections.specs.Exchanged.{TakesAt}
use Rattle.folio_sections.specs.Held.{is_held}
use Rattle.folio_sections.specs.PartState.{PartState}

-- the parts of the key's folio hold it
abbrev pub IsHeldInFolio : List FolioQueue → List (List PartState) → Key → Type 0
IsHeldInFolio queues back k =
    (place : ℕ) → option_map (λ q. q.folio) (slice_get queues place) ≡ Some (folio_of_key k) → (parts : List PartState) × (slice_get back place ≡ Some parts) × IsTrue (is_held parts k)

-- The parts exchange what stands at the key with those of its folio; all else stays.
pub record IsTakenOver (queues : List FolioQueue) (parts after : List PartState) (back left : List (List PartState)) (k : Key) : Type 0 where
  pub place : ℕ
  pub from : List PartState
  pub given : List PartState
  pub folio : option_map (λ q. q.folio) (slice_get queues place) ≡ Some (folio_of_key k)
  pub there : slice_get back place ≡ Some from
  pub takes : TakesAt parts after from k
  pub gives : TakesAt from given parts k
  pub left_is : left ≡ set back place given
