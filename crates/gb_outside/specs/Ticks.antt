-- What a clock that tells its stamps gives.
use Rattle.std.specs.Prelude.{◌≡◌, List, [], ◌∷◌, Option, Some, None}
use Rattle.gb_base.specs.DayMinute.{DayMinute}

-- a clock gives its stamps one after another, and the last one again and again
abbrev pub Ticks : Option (List DayMinute) → Option (List DayMinute) → DayMinute → Type 0
Ticks None new stamp = Unit {0}
Ticks (Some []) new stamp = ⊥
Ticks (Some (t ∷ [])) new stamp = (stamp ≡ t) × (new ≡ Some (t ∷ []))
Ticks (Some (t ∷ u ∷ ts)) new stamp = (stamp ≡ t) × (new ≡ Some (u ∷ ts))
