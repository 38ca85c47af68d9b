-- How the frames of a journal are found, gate by gate.
use Rattle.std.specs.Prelude.{◌≡◌, ◌≢◌, ◌⊎◌, ℕ, ◌+◌, ◌<◌, ◌≤◌, List, [], ◌∷◌, ◌++◌, length, All, Result, Ok, Err}
use Rattle.std.specs.Int.{w32, from_be_bytes}
use Rattle.journal_disk.specs.FrameAt.{FrameAt}
use Rattle.journal_disk.specs.Layout.{longest_body, IsBody, measured, frames, frames_from}
use Rattle.journal_disk.specs.declared.scan.Ending.{Ending}
use Rattle.journal_disk.specs.declared.scan.Ending.TheVariants.{Closed, Wrong, Short}

-- after an open gate: a length that no frame has
abbrev pub IsWrong : List ℕ → Type 0
IsWrong (a ∷ b ∷ c ∷ d ∷ rest) = let size = from_be_bytes w32 (a ∷ b ∷ c ∷ d ∷ []) in (size ≡ 0) ⊎ (longest_body < size)
IsWrong rest = ⊥

-- after an open gate: fewer bytes than the frame and the gate after it have
abbrev pub IsShort : List ℕ → Type 0
IsShort (a ∷ b ∷ c ∷ d ∷ rest) = let size = from_be_bytes w32 (a ∷ b ∷ c ∷ d ∷ []) in (size ≤ longest_body) × (length rest ≤ size)
IsShort rest = Unit {0}

-- why no frame begins here
abbrev pub Ends : List ℕ → Ending → Type 0
Ends bytes Closed = (gate : ℕ) × (rest : List ℕ) × (bytes ≡ gate ∷ rest) × (gate ≢ 1)
Ends bytes Wrong = (rest : List ℕ) × (bytes ≡ 1 ∷ rest) × IsWrong rest
Ends bytes Short = (rest : List ℕ) × (bytes ≡ 1 ∷ rest) × IsShort rest

-- a whole frame, with a body of this size, and a gate after it
pub record Begins (bytes : List ℕ) (size : ℕ) : Type 0 where
  pub body : List ℕ
  pub rest : List ℕ
  pub is_body : IsBody body
  pub sized : length body ≡ size
  pub gate_behind : 1 ≤ length rest
  pub whole : bytes ≡ 1 ∷ (measured body ++ rest)

-- what stands at a gate
abbrev pub StandsAt : List ℕ → Result ℕ Ending → Type 0
StandsAt bytes (Ok size) = Begins bytes size
StandsAt bytes (Err ending) = Ends bytes ending

-- These bytes, the first of them a gate at this offset, are whole frames, and then none begins.
pub record Scanned (at : ℕ) (bytes : List ℕ) (before now : List FrameAt) (end : ℕ) (ending : Ending) : Type 0 where
  pub bodies : List (List ℕ)
  pub rest : List ℕ
  pub sizes : All IsBody bodies
  pub whole : bytes ≡ frames bodies ++ rest
  pub ends : Ends rest ending
  pub end_is : end ≡ at + length (frames bodies)
  pub added : now ≡ before ++ frames_from at bodies
