-- Lists in ascending order.
use Rattle.std.specs.Prelude.{ℕ, ◌+◌, ◌≤◌, List, [], ◌∷◌}

-- the numbers that f gives of the elements begin at a or above it, and ascend
abbrev pub AscendsBy : {X : Type 0} → (X → ℕ) → ℕ → List X → Type 0
AscendsBy f a [] = Unit {0}
AscendsBy f a (x ∷ xs) = (a ≤ f x) × AscendsBy f (f x + 1) xs
