-- The parts of a register at some keys, as a list with at most one part a key.
use Rattle.std.specs.Prelude.{◌≡◌, ℕ, Bool, false, List, [], find, IsTrue}
use Rattle.std.specs.Option.{option_map_or}
use Rattle.std.specs.List.{list_any}
use Rattle.gb_base.specs.Keys.{same_key}
use Rattle.gb_base.specs.declared.keys.Key.{Key}
use Rattle.folio_sections.specs.PartState.{PartState}
use Rattle.folio_sections.specs.declared.entries.Entry.{Entry}

-- the part of a key is among them
abbrev pub is_held : List PartState → Key → Bool
is_held parts key = list_any (λ p. same_key p.key key) parts

-- the entries at a key, and none where it is not held
abbrev pub entries_at : List PartState → Key → List Entry
entries_at parts key = option_map_or (λ p. p.entries) (find (λ p. same_key p.key key) parts) []

-- how many more entries a key has room for, and none where it is not held
abbrev pub room_at : List PartState → Key → ℕ
room_at parts key = option_map_or (λ p. p.room) (find (λ p. same_key p.key key) parts) 0

-- the key is one of these
abbrev pub is_given : List Key → Key → Bool
is_given keys key = list_any (λ k. same_key k key) keys

-- no key is lost, and no other is added than these
pub record WidensBy (these : Key → Bool) (before after : List PartState) : Type 0 where
  pub kept : (k : Key) → IsTrue (is_held before k) → IsTrue (is_held after k)
  pub others : (k : Key) → these k ≡ false → is_held after k ≡ is_held before k
