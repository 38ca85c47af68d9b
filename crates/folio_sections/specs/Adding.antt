-- What a call adds to the parts that it is lent.
use Rattle.std.specs.Prelude.{◌≡◌, ℕ, ◌+◌, ◌≤◌, false, List, [], ◌∷◌, ◌++◌, length}
use Rattle.gb_base.specs.Keys.{same_key}
use Rattle.gb_base.specs.declared.keys.Key.{Key}
use Rattle.folio_sections.specs.Entries.{at}
use Rattle.folio_sections.specs.declared.entries.Entry.{Entry}

-- At the entry's key it is added at the end, with room for one less; every other key stays.
pub record Adds (at_old at_new : Key → List Entry) (room_old room_new : Key → ℕ) (entry : Entry) : Type 0 where
  pub there : at_new entry.key ≡ at_old entry.key ++ entry ∷ []
  pub room : room_new entry.key + 1 ≡ room_old entry.key
  pub others : (k : Key) → same_key entry.key k ≡ false → at_new k ≡ at_old k
  pub others_room : (k : Key) → same_key entry.key k ≡ false → room_new k ≡ room_old k

-- at every key the entries before and then those of the list for that key
abbrev pub AddsAll : (Key → List Entry) → (Key → List Entry) → List Entry → Type 0
AddsAll at_old at_new entries = (k : Key) → at_new k ≡ at_old k ++ at entries k

-- the list's entries are added, with so much less room
pub record AddsList (at_old at_new : Key → List Entry) (room_old room_new : Key → ℕ) (entries : List Entry) : Type 0 where
  pub there : AddsAll at_old at_new entries
  pub room : (k : Key) → room_new k + length (at entries k) ≡ room_old k

-- each key has room for its entries of the list
abbrev pub HasRoom : (Key → ℕ) → List Entry → Type 0
HasRoom room entries = (k : Key) → length (at entries k) ≤ room k
