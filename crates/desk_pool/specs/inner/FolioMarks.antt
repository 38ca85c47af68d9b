-- Rows of places at which folios stand, or are away.
use Rattle.std.specs.Prelude.{ℕ, ◌+◌, List, [], ◌∷◌, Option, Some, None}

-- a folio, and the name of its mark
pub record FolioMark : Type 0 where
  pub folio : ℕ
  pub mark : ℕ

-- at how many places something stands
abbrev pub count_here : {X : Type 0} → List (Option X) → ℕ
count_here [] = 0
count_here (None ∷ places) = count_here places
count_here (Some x ∷ places) = count_here places + 1
