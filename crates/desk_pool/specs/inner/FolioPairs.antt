-- The parts of two folios that one item touches.
use Rattle.std.specs.Prelude.{◌≡◌, ℕ, ◌<◌, Bool, ◌||◌, if◌then◌else◌, IsTrue, List}
use Rattle.gb_base.specs.Keys.{folio_of_key}
use Rattle.gb_base.specs.declared.keys.Key.{Key}
use Rattle.folio_sections.specs.Held.{entries_at, is_held, room_at}
use Rattle.folio_sections.specs.PartState.{PartState}
use Rattle.folio_sections.specs.declared.entries.Entry.{Entry}

-- the parts of the first folio, and those of the second
pub record PairState : Type 0 where
  pub first : List PartState
  pub second : List PartState

-- Each of two tests holds only of keys of one folio, and the folio of the first has the lower number.
pub record AreApart (first second : Key → Bool) : Type 0 where
  pub one_first : (k j : Key) → IsTrue (first k) → IsTrue (first j) → folio_of_key k ≡ folio_of_key j
  pub one_second : (k j : Key) → IsTrue (second k) → IsTrue (second j) → folio_of_key k ≡ folio_of_key j
  pub rise : (k j : Key) → IsTrue (first k) → IsTrue (second j) → folio_of_key k < folio_of_key j

-- what is read at a key: from the first where the key is held there, else from the second
abbrev pub of_either : {X : Type 0} → (Key → Bool) → (Key → X) → (Key → X) → Key → X
of_either held first second key = if held key then first key else second key

-- the first or the second holds the key
abbrev pub either_holds : PairState → Key → Bool
either_holds pair key = is_held pair.first key || is_held pair.second key

-- the entries at a key of the first or the second
abbrev pub either_at : PairState → Key → List Entry
either_at pair = of_either (is_held pair.first) (entries_at pair.first) (entries_at pair.second)

-- the room at a key of the first or the second
abbrev pub either_room : PairState → Key → ℕ
either_room pair = of_either (is_held pair.first) (room_at pair.first) (room_at pair.second)
