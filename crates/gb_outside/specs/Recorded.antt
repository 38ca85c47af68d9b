-- A file with a record of the calls on it: what a read gives, and what a stop may leave.
use Rattle.std.specs.Prelude.{◌≡◌, ◌⊎◌, ℕ, ◌+◌, ◌≤◌, List, [], ◌∷◌, ◌++◌, length, take, drop}
use Rattle.gb_outside.specs.Images.{Torn}

-- a call, with what it did to the file: nothing, a write, or a sync that succeeded
pub data Event : Type 0 where
  idle : Event
  -- of a write of this size at this offset these bytes came into the file, fewer where it failed
  wrote : (at size : ℕ) → (kept : List ℕ) → Event
  synced : Event

-- the file with these bytes at this offset
abbrev pub overwritten : ℕ → List ℕ → List ℕ → List ℕ
overwritten at bytes file = take at file ++ bytes ++ drop (at + length bytes) file

-- what a read gives after these calls, the newest first
abbrev pub file_after : List ℕ → List Event → List ℕ
file_after first [] = first
file_after first (idle ∷ before) = file_after first before
file_after first (wrote at size kept ∷ before) = overwritten at kept (file_after first before)
file_after first (synced ∷ before) = file_after first before

-- what a stop may leave besides the file as it reads: what it might have left before a write, torn by that write
abbrev pub IsTornAfter : List ℕ → List Event → List ℕ → Type 0
IsTornAfter first [] c = ⊥
IsTornAfter first (idle ∷ before) c = IsTornAfter first before c
IsTornAfter first (wrote at size kept ∷ before) c =
    (length c ≤ length (overwritten at kept (file_after first before)))
    × ((d : List ℕ) × ((d ≡ file_after first before) ⊎ IsTornAfter first before d) × Torn at size d c)
IsTornAfter first (synced ∷ before) c = ⊥

-- what a stop may leave
abbrev pub IsImageAfter : List ℕ → List Event → List ℕ → Type 0
IsImageAfter first done c = (c ≡ file_after first done) ⊎ IsTornAfter first done c

-- what a stop may have left once so many calls were done, or later
abbrev pub IsImageSince : List ℕ → List Event → ℕ → List ℕ → Type 0
IsImageSince first [] t c = IsImageAfter first [] c
IsImageSince first (event ∷ before) t c =
    IsImageAfter first (event ∷ before) c ⊎ ((t ≤ length before) × IsImageSince first before t c)
