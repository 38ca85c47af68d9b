-- Links that come and go, where a listener tells them.
use Rattle.std.specs.Prelude.{◌≡◌, ℕ, ◌+◌, List, [], ◌∷◌, ◌++◌, Option, Some, None, IfSome, Bool, true, false}
use Rattle.gb_outside.specs.declared.doors.Door.{Door}
use Rattle.gb_outside.specs.declared.doors.Door.TheVariants as door

-- the first that waits comes, with these bytes still to give
abbrev pub TakesFirst : Option (List (List ℕ)) → Option (List (List ℕ)) → Option (List ℕ) → Type 0
TakesFirst (Some waiting) new left = (bytes : List ℕ) × (rest : List (List ℕ))
    × (waiting ≡ bytes ∷ rest) × (new ≡ Some rest) × (left ≡ Some bytes)
TakesFirst None new left = Unit {0}

-- no link is still to come, where the listener tells them
abbrev pub NoneWaits : Option (List (List ℕ)) → Type 0
NoneWaits (Some waiting) = waiting ≡ []
NoneWaits None = Unit {0}

-- nothing was written to a link that comes; where a listener tells what it served, its links tell what was written
abbrev pub NothingWritten : Option (List (List ℕ × ℕ)) → Option (List ℕ) → Type 0
NothingWritten (Some served) written = written ≡ Some []
NothingWritten None written = IfSome written (λ bytes. bytes ≡ [])

-- A link that comes has its bytes to give, nothing written and no fault; the door is closed only where none waits.
abbrev pub Accepts : {L : Type 0} → (L → Option (List ℕ)) → (L → Option (List ℕ)) → (L → ℕ)
    → Option (List (List ℕ × ℕ)) → Option (List (List ℕ)) → Option (List (List ℕ)) → Door L → Type 0
Accepts left written faults served old new (door.Open link) =
    TakesFirst old new (left link) × NothingWritten served (written link) × (faults link ≡ 0)
Accepts left written faults served old new door.Closed = NoneWaits old × (new ≡ old)
Accepts left written faults served old new door.Failed = new ≡ old

-- how many links are out once the door has answered
abbrev pub out_after : {L : Type 0} → ℕ → Door L → ℕ
out_after out (door.Open link) = out + 1
out_after out door.Closed = out
out_after out door.Failed = out

-- the listener failed
abbrev pub accept_failed : {L : Type 0} → Door L → Bool
accept_failed (door.Open link) = false
accept_failed door.Closed = false
accept_failed door.Failed = true

-- a link taken back is told last, with the bytes written to it and its faults
abbrev pub Serves : Option (List (List ℕ × ℕ)) → Option (List (List ℕ × ℕ)) → Option (List ℕ) → ℕ → Type 0
Serves (Some served) new (Some bytes) faults = new ≡ Some (served ++ (bytes, faults) ∷ [])
Serves (Some served) new None faults = Unit {0}
Serves None new bytes faults = Unit {0}
