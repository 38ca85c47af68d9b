-- What the adapters of standard input and output do, over what their reader or writer tells.
use Rattle.std.specs.Prelude.{ℕ, List, take, Option}
use Rattle.std.specs.Io.KnownBytes.{Appends, Consumes, IsAtEnd, Keeps}
use Rattle.gb_outside.specs.declared.streams.Got.{Got}
use Rattle.gb_outside.specs.declared.streams.Got.TheVariants as got
use Rattle.gb_outside.specs.declared.streams.Wrote.{Wrote}
use Rattle.gb_outside.specs.declared.streams.Wrote.TheVariants as wrote

-- the bytes that are handed on are the next of those that the reader has left; at the end it has none, and a failure takes none
abbrev pub HandsOn : Option (List ℕ) → Option (List ℕ) → Got → List ℕ → Type 0
HandsOn old new (got.Bytes n) into = Consumes old new (take n into)
HandsOn old new got.End into = IsAtEnd old × Keeps old new
HandsOn old new got.Failed into = Keeps old new

-- the bytes that are said to be taken stand behind those that the writer held; a failure writes none
abbrev pub PutsIn : Option (List ℕ) → Option (List ℕ) → Wrote → List ℕ → Type 0
PutsIn old new (wrote.Took n) piece = Appends old new (take n piece)
PutsIn old new wrote.Failed piece = Keeps old new
