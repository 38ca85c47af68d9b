-- Where the part of a key stands in a list of parts, and how the parts grow.
use Rattle.std.specs.Prelude.{◌≡◌, ℕ, ◌+◌, ◌≤◌, List, length, position}
use Rattle.std.specs.BTreeMap.{BTreeMap, get}
use Rattle.gb_base.specs.Keys.{key_cmp, same_key}
use Rattle.gb_base.specs.declared.keys.Key.{Key}
use Rattle.folio_sections.specs.PartState.{PartState}

-- the index says where the part of each key stands, and nothing else
abbrev pub IsIndexOf : BTreeMap Key ℕ → List PartState → Type 0
IsIndexOf index parts = (k : Key) → get key_cmp index k ≡ position (λ p. same_key p.key k) parts

-- a part keeps its key and its entries, and loses no room
pub record Grows (before after : PartState) : Type 0 where
  pub key : after.key ≡ before.key
  pub entries : after.entries ≡ before.entries
  pub room : before.room ≤ after.room

-- a part keeps its key, and how many entries it has place for in all
pub record KeepsPlaces (before after : PartState) : Type 0 where
  pub key : after.key ≡ before.key
  pub places : after.room + length after.entries ≡ before.room + length before.entries
