-- Values that may be missing, one after another.
use Rattle.std.specs.Prelude.{Option, Some, None}

-- reads on with the value, where there is one
infixl 10 ◌>>=◌
abbrev pub ◌>>=◌ : {A B : Type 0} → Option A → (A → Option B) → Option B
None >>= next = None
(Some x) >>= next = next x
