-- Lemmas on tests over lists, and on loops that go along them.
use Rattle.std.proofs.Common.{◌≡◌, ℕ, ◌+◌, ◌<◌, Bool, true, List, [], ◌∷◌, length, get_or, drop, filter, refl, sym, ap, subst, add-one, drop-cons}
use Rattle.std.specs.List.{AllByRecursion}

-- where all pass all are left
pub filter_all : {X : Type 0} (p : X → Bool) (xs : List X) → AllByRecursion (λ x. p x ≡ true) xs → filter p xs ≡ xs
filter_all p [] all = refl
filter_all p (x ∷ xs) all = rw all.0 (ap (λ ys. x ∷ ys) (filter_all p xs all.1))

-- the rest of a list from an element on
pub drop_next : (X : Type 0) (xs : List X) (i : ℕ) (x : X) → i < length xs → x ≡ get_or xs i x → drop i xs ≡ x ∷ drop (i + 1) xs
drop_next X xs i x within is =
    let cut : drop i xs ≡ get_or xs i x ∷ drop (i + 1) xs = rw (add-one, drop-cons xs i x) in
    subst (λ y. drop i xs ≡ y ∷ drop (i + 1) xs) (sym is) cut
