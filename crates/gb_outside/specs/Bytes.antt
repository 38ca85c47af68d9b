-- What a source gives and a sink takes, where they tell what they hold.
use Rattle.std.specs.Prelude.{◌≡◌, ℕ, ◌<◌, ◌≤◌, List, ◌++◌, take, Option, Bool, true, false}
use Rattle.std.specs.Io.KnownBytes.{Appends, Consumes, IsAtEnd}
use Rattle.gb_outside.specs.declared.streams.Got.{Got}
use Rattle.gb_outside.specs.declared.streams.Got.TheVariants as got
use Rattle.gb_outside.specs.declared.streams.Wrote.{Wrote}
use Rattle.gb_outside.specs.declared.streams.Wrote.TheVariants as wrote

-- a read gives at least one byte, and no more than there is room for
abbrev pub IsGot : Got → ℕ → Type 0
IsGot (got.Bytes n) room = (1 ≤ n) × (n ≤ room)
IsGot got.End room = Unit {0}
IsGot got.Failed room = Unit {0}

-- the bytes that a read gives are the first of those to come; at the end none are to come
abbrev pub Reads : Option (List ℕ) → Option (List ℕ) → Got → List ℕ → Type 0
Reads old new (got.Bytes n) into = Consumes old new (take n into)
Reads old new got.End into = IsAtEnd old × (new ≡ old)
Reads old new got.Failed into = new ≡ old

-- a read failed
abbrev pub read_failed : Got → Bool
read_failed (got.Bytes n) = false
read_failed got.End = false
read_failed got.Failed = true

-- a write takes no more than the piece, and something of a piece that is not empty
abbrev pub IsTaken : Wrote → ℕ → Type 0
IsTaken (wrote.Took n) len = (n ≤ len) × (0 < len → 0 < n)
IsTaken wrote.Failed len = Unit {0}

-- the bytes taken come behind those written
abbrev pub Writes : Option (List ℕ) → Option (List ℕ) → Wrote → List ℕ → Type 0
Writes old new (wrote.Took n) piece = Appends old new (take n piece)
Writes old new wrote.Failed piece = new ≡ old

-- a write failed
abbrev pub write_failed : Wrote → Bool
write_failed (wrote.Took n) = false
write_failed wrote.Failed = true

-- told bytes grow by a front of these
pub record AppendsFront (old new : Option (List ℕ)) (bytes : List ℕ) : Type 0 where
  pub front : List ℕ
  pub rest : List ℕ
  pub whole : bytes ≡ front ++ rest
  pub added : Appends old new front
