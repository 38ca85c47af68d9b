-- What a synced write may leave on the way.
use Rattle.std.specs.Prelude.{ℕ, List}
use Rattle.gb_outside.specs.Images.{Torn}

-- one of these images, torn by a write of n bytes at this offset
abbrev pub TornFrom : (List ℕ → Type 0) → ℕ → ℕ → List ℕ → Type 0
TornFrom images at n c = (d : List ℕ) × images d × Torn at n d c
