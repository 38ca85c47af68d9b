-- What a read gives to the front of a block.
use Rattle.std.proofs.Common.{ℕ, ◌≤◌, List, ◌++◌, length, Option}
use Rattle.std.proofs.lemmas.List.{take-append-le}
use Rattle.gb_outside.specs.Bytes.{IsGot, Reads}
use Rattle.gb_outside.specs.declared.streams.Got.{Got}
use Rattle.gb_outside.specs.declared.streams.Got.TheVariants as got

pub reads_longer : (old new : Option (List ℕ)) (r : Got) (xs ys : List ℕ) → IsGot r (length xs) → Reads old new r xs → Reads old new r (xs ++ ys)
reads_longer old new (got.Bytes n) xs ys within reads =
    let le : n ≤ length xs = within.1 in rw take-append-le reads
reads_longer old new got.End xs ys within reads = reads
reads_longer old new got.Failed xs ys within reads = reads
