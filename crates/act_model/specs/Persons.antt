-- The owners of a folio.
use Rattle.std.specs.Prelude.{ℕ, ◌<◌, ◌&&◌, ◌==◌, not, List, [], ◌∷◌, length, Bool, true, IsTrue}
use Rattle.std.specs.List.{list_any}

-- no person is named twice
abbrev pub is_distinct : List ℕ → Bool
is_distinct [] = true
is_distinct (p ∷ ps) = not (list_any (λ q. q == p) ps) && is_distinct ps

-- somebody, and nobody twice
abbrev pub AreOwners : List ℕ → Type 0
AreOwners persons = (0 < length persons) × IsTrue (is_distinct persons)
