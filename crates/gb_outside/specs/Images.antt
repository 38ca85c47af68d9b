-- What the calls of a disk do to its file, and what a stop may leave between two syncs.
use Rattle.std.specs.Prelude.{◌≡◌, ◌⊎◌, ℕ, ◌+◌, ◌≤◌, max, List, ◌++◌, length, take, drop, Result, Ok, Err}

-- new is old with these bytes at this offset
abbrev pub Holds : List ℕ → ℕ → List ℕ → List ℕ → Type 0
Holds old at bytes new = new ≡ take at old ++ bytes ++ drop (at + length bytes) old

-- after a write of n bytes that is cut short: any bytes in the range and past the old end, the same elsewhere
pub record Torn (at n : ℕ) (old new : List ℕ) : Type 0 where
  pub before : take at new ≡ take at old
  pub after : drop (at + n) new ≡ drop (at + n) old
  pub no_shorter : length old ≤ length new
  pub no_longer : length new ≤ max (length old) (at + n)

-- each new image is an old image after a step
abbrev pub Follows : (List ℕ → List ℕ → Type 0) → (List ℕ → Type 0) → (List ℕ → Type 0) → Type 0
Follows step old new = (c : List ℕ) → new c → (d : List ℕ) × old d × step d c

-- there is no image that was none before
abbrev pub NoneNew : (List ℕ → Type 0) → (List ℕ → Type 0) → Type 0
NoneNew old new = (c : List ℕ) → new c → old c

-- a stop leaves this and nothing else
abbrev pub Only : List ℕ → (List ℕ → Type 0) → Type 0
Only file images = (c : List ℕ) → images c → c ≡ file

-- Time goes on: an image since t is one from before, or one of now.
pub record Elapses (before now : ℕ) (past since : ℕ → List ℕ → Type 0) (images : List ℕ → Type 0) : Type 0 where
  pub later : before ≤ now
  pub nothing_else : (t : ℕ) (c : List ℕ) → t ≤ before → since t c → past t c ⊎ images c
  pub keeps : (t : ℕ) (c : List ℕ) → t ≤ before → past t c → since t c

-- A stop at any moment since old leaves a file that has P.
pub record LeavesOnly {D : Type 0} (moment : D → ℕ) (since : D → ℕ → List ℕ → Type 0) (old new : D) (P : List ℕ → Type 0) : Type 0 where
  pub later : moment old ≤ moment new
  pub each : (c : List ℕ) → since new (moment old) c → P c
  -- for a run that began earlier
  pub before : (t : ℕ) (c : List ℕ) → t ≤ moment old → since new t c → since old t c ⊎ P c

-- the length that the call answers
abbrev pub LenIs : {E : Type 0} → List ℕ → Result ℕ E → Type 0
LenIs file (Ok n) = n ≡ length file
LenIs file (Err e) = Unit {0}

-- the bytes of the file from this offset on
abbrev pub ReadsAt : {E : Type 0} → List ℕ → ℕ → Result (Unit {0}) E → List ℕ → Type 0
ReadsAt file at (Ok done) into = into ≡ take (length into) (drop at file)
ReadsAt file at (Err e) into = Unit {0}

-- after Ok the file has the bytes at the offset; a write that failed may have left any bytes in the range
abbrev pub WritesAt : {E : Type 0} → List ℕ → List ℕ → ℕ → Result (Unit {0}) E → List ℕ → Type 0
WritesAt old new at (Ok done) bytes = Holds old at bytes new
WritesAt old new at (Err e) bytes = Torn at (length bytes) old new

-- after Ok a stop leaves what a read gives
abbrev pub Syncs : {E : Type 0} → List ℕ → Result (Unit {0}) E → (List ℕ → Type 0) → Type 0
Syncs file (Ok done) images = Only file images
Syncs file (Err e) images = Unit {0}
