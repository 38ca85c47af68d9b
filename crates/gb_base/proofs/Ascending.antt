-- Lists in ascending order, and what a search by halves finds in them.
use Rattle.std.proofs.Common.{ℕ, zero, suc, ◌+◌, ◌<◌, ◌≤◌, nat_le, nat_lt, List, [], ◌∷◌, get_or, length, arith}
use Rattle.std.specs.List.Sorted.{IsPartitionedBy}
use Rattle.std.proofs.lemmas.Bool.Decides.{nat_tests}
use Rattle.gb_base.specs.Ascending.{AscendsBy}

pub ascends_at : {X : Type 0} (f : X → ℕ) (a : ℕ) (xs : List X) (i : ℕ) (d : X) → AscendsBy f a xs → i < length xs → a ≤ f (get_or xs i d)
ascends_at f a [] i d up within = absurd (omega arith)
ascends_at f a (x ∷ xs) zero d up within = up.0
ascends_at f a (x ∷ xs) (suc i) d up within =
    let behind = ascends_at f (f x + 1) xs i d up.1 (omega arith) in
    let first = up.0 in
    omega arith

ascends_between : {X : Type 0} (f : X → ℕ) (a : ℕ) (xs : List X) (i j : ℕ) (d : X) → AscendsBy f a xs → i ≤ j → j < length xs → f (get_or xs i d) ≤ f (get_or xs j d)
ascends_between f a [] i j d up order within = absurd (omega arith)
ascends_between f a (x ∷ xs) zero zero d up order within = omega arith
ascends_between f a (x ∷ xs) zero (suc j) d up order within =
    let behind = ascends_at f (f x + 1) xs j d up.1 (omega arith) in
    omega arith
ascends_between f a (x ∷ xs) (suc i) zero d up order within = absurd (omega arith)
ascends_between f a (x ∷ xs) (suc i) (suc j) d up order within = ascends_between f (f x + 1) xs i j d up.1 (omega arith) (omega arith)

-- those below a number stand ahead of the others
pub parted_below : {X : Type 0} (f : X → ℕ) (a b : ℕ) (xs : List X) → AscendsBy f a xs → IsPartitionedBy (λ x. nat_lt (f x) b) xs
parted_below f a b xs up = λ i j d order within passes.
    let less = ascends_between f a xs i j d up order within in
    grind (arith, nat_tests, passes, less)

-- those up to a number stand ahead of the others
pub parted_to : {X : Type 0} (f : X → ℕ) (a b : ℕ) (xs : List X) → AscendsBy f a xs → IsPartitionedBy (λ x. nat_le (f x) b) xs
parted_to f a b xs up = λ i j d order within passes.
    let less = ascends_between f a xs i j d up order within in
    grind (arith, nat_tests, passes, less)

pub ascends_later : {X : Type 0} (f : X → ℕ) (a b : ℕ) (xs : List X) → b ≤ a → AscendsBy f a xs → AscendsBy f b xs
ascends_later f a b [] later up = tt
ascends_later f a b (x ∷ xs) later up =
    let first = up.0 in
    (omega arith, up.1)
