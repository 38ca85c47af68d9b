-- Places of keys that are kept once more beside their map.
use Rattle.std.specs.Prelude.{◌≡◌, ℕ, All, IfSome, List, Option, Some}
use Rattle.std.specs.BTreeMap.{BTreeMap, get}
use Rattle.gb_base.specs.Keys.{key_cmp}
use Rattle.gb_base.specs.declared.keys.Key.{Key}
use Rattle.folio_sections.specs.declared.map_parts.key_index.KeyPlace.{KeyPlace}

-- each slot is empty, or has a key and the place that the map has for it
abbrev pub AreAtHand : BTreeMap Key ℕ → List (Option KeyPlace) → Type 0
AreAtHand places slots = All (λ slot. IfSome slot (λ p. get key_cmp places p.key ≡ Some p.place)) slots
