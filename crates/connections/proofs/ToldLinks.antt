-- A link that tells what was written to it goes on telling it.
use Rattle.std.proofs.Common.{◌≡◌, ℕ, List, Option, Some, None, IsSome, refl, sym, subst}
use Rattle.std.specs.Io.KnownBytes.{Appends}

pub still_told : (w0 w1 : Option (List ℕ)) (bytes : List ℕ) → Appends w0 w1 bytes → IsSome w0 → IsSome w1
still_told None w1 bytes wrote told = absurd cc
still_told (Some xs) None bytes wrote told = absurd wrote
still_told (Some xs) (Some ys) bytes wrote told = refl

pub same_told : (w0 w1 : Option (List ℕ)) → w1 ≡ w0 → IsSome w0 → IsSome w1
same_told w0 w1 same told = subst IsSome (sym same) told
