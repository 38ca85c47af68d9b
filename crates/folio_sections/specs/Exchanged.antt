-- What becomes of parts when they exchange the part of a key with other parts.
use Rattle.std.specs.Prelude.{◌≡◌, false, List}
use Rattle.gb_base.specs.Keys.{same_key}
use Rattle.gb_base.specs.declared.keys.Key.{Key}
use Rattle.folio_sections.specs.Held.{entries_at, is_held, room_at}
use Rattle.folio_sections.specs.PartState.{PartState}

-- At the key the parts have what stood there among the others, and its room; every other key stays.
pub record TakesAt (before after others : List PartState) (key : Key) : Type 0 where
  pub there : entries_at after key ≡ entries_at others key
  pub room : room_at after key ≡ room_at others key
  pub elsewhere : (k : Key) → same_key key k ≡ false → entries_at after k ≡ entries_at before k
  pub elsewhere_room : (k : Key) → same_key key k ≡ false → room_at after k ≡ room_at before k
  pub held : is_held after ≡ is_held before
