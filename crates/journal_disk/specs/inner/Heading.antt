-- What stands at the head of a file.
use Rattle.std.specs.Prelude.{◌≡◌, ℕ, ◌≤◌, List, ◌∷◌, length, MatchBool}
use Rattle.journal_disk.specs.Layout.{the_heading, IsUnmade, IsMade, IsForeign}
use Rattle.journal_disk.specs.declared.heading.Found.{Found}
use Rattle.journal_disk.specs.declared.heading.Found.TheVariants.{Unmade, Foreign, Made}

-- the byte 0 is there, and is 0
abbrev pub BeginsWithZero : List ℕ → Type 0
BeginsWithZero file = (rest : List ℕ) × (file ≡ 0 ∷ rest)

-- what a finding says of the file
abbrev pub FoundIn : List ℕ → Found → Type 0
FoundIn file (Unmade begun) = IsUnmade file × MatchBool begun (BeginsWithZero file) (length file ≤ 1)
FoundIn file Foreign = IsForeign the_heading file
FoundIn file (Made len) = IsMade the_heading file × (len ≡ length file)
