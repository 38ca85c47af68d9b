-- The order of creating acts: by receipt, and then by act.
use Rattle.std.specs.Prelude.{ℕ, ◌+◌, Bool, ◌&&◌, ◌||◌, ◌==◌, nat_lt, nat_le, List, [], ◌∷◌, IsTrue}
use Rattle.gb_base.specs.RightNo.{RightNo}

-- the right is of act a of receipt m, or of a later act
abbrev pub is_from : ℕ → ℕ → RightNo → Bool
is_from m a r = nat_lt m r.receipt || (m == r.receipt && nat_le a r.act)

-- the first right is of act a of receipt m or of a later act, and each other right is of a later act than the one before it
abbrev pub Rises : ℕ → ℕ → List RightNo → Type 0
Rises m a [] = Unit {0}
Rises m a (r ∷ rs) = IsTrue (is_from m a r) × Rises r.receipt (r.act + 1) rs
