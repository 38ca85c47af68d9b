-- Numbers in ascending order, and that there is one such list of any numbers.
use Rattle.std.proofs.Common.{◌≡◌, ℕ, suc, zero, ◌<◌, List, [], ◌∷◌, length, get_or, AllPairs, Contains, refl, sym, subst, ⊎_elim, inl, inr, arith}
use Rattle.std.specs.List.{AllByRecursion}
use Rattle.std.proofs.lemmas.List.Elements.{All-from_recursion, recursion_from_All}
use Rattle.std.proofs.lemmas.List.Kept.{AllPairs-cons}
use Rattle.gb_base.proofs.Members.{In}
use Rattle.registrar.proofs.ContainedParts.{contains_first, contains_later}
use Rattle.registrar.proofs.NoticedPlaces.{Rises}

pub rises_of_pairs : (ns : List ℕ) → AllPairs (λ n later. n < later) ns → Rises ns
rises_of_pairs [] pairs = tt
rises_of_pairs (n ∷ ns) pairs = (
  recursion_from_All (λ k. n < k) ns (λ j d within. pairs 0 (suc j) d (omega arith) (omega arith)),
  rises_of_pairs ns (λ i j d less within. pairs (suc i) (suc j) d (omega arith) (omega arith)),
)

pub pairs_of_rises : (ns : List ℕ) → Rises ns → AllPairs (λ n later. n < later) ns
pairs_of_rises [] up = λ i j d less within. absurd (omega arith)
pairs_of_rises (n ∷ ns) up =
    AllPairs-cons (λ (a b : ℕ). a < b) n ns (All-from_recursion (λ k. n < k) ns up.0) (pairs_of_rises ns up.1)

-- what a list contains is in it
pub in_of_contains : {X : Type 0} (xs : List X) (x : X) → Contains xs x → In x xs
in_of_contains {X = X} xs x among = by xs among.0 among.1 among.2
  where
    by : (ys : List X) (k : ℕ) → k < length ys → get_or ys k x ≡ x → In x ys
    by [] k within is = absurd (omega arith)
    by (y ∷ ys) zero within is = inl is
    by (y ∷ ys) (suc k) within is = inr (by ys k (omega arith) is)

pub contains_of_in : {X : Type 0} (xs : List X) (x : X) → In x xs → Contains xs x
contains_of_in [] x there = absurd there
contains_of_in (y ∷ ys) x there =
    ⊎_elim
    (λ same. subst (λ z. Contains (z ∷ ys) x) (sym same) (contains_first x ys))
    (λ later. contains_later y ys x (contains_of_in ys x later))
    there

above : (n k : ℕ) (ns : List ℕ) → In k ns → AllByRecursion (λ j. n < j) ns → n < k
above n k [] there all = absurd there
above n k (j ∷ ns) there all = ⊎_elim (λ same. subst (λ i. n < i) same all.0) (λ later. above n k ns later all.1) there

-- where the first list, from its first number on, is among the second, and both begin with the same number, the rest is among the rest
behind : (n k : ℕ) (ns ks : List ℕ) → n ≡ k → AllByRecursion (λ j. n < j) ns → ((j : ℕ) → In j (n ∷ ns) → In j (k ∷ ks)) → (j : ℕ) → In j ns → In j ks
behind n k ns ks same all there j later =
    ⊎_elim
    (λ first. let more = above n j ns later all in absurd (omega (arith, first, same)))
    (λ further. further)
    (there j (inr later))

first_same : (n k : ℕ) (ns ks : List ℕ) → AllByRecursion (λ j. n < j) ns → AllByRecursion (λ j. k < j) ks → In n (k ∷ ks) → In k (n ∷ ns) → n ≡ k
first_same n k ns ks above_n above_k there here =
    ⊎_elim
    (λ same. sym same)
    (λ later. ⊎_elim
    (λ same. same)
    (λ further. let more = above k n ks later above_k in let less = above n k ns further above_n in absurd (omega arith))
    here)
    there

pub one_rising : (ns ks : List ℕ) → Rises ns → Rises ks → ((j : ℕ) → In j ns → In j ks) → ((j : ℕ) → In j ks → In j ns) → ns ≡ ks
one_rising [] [] up rise there here = refl
one_rising [] (k ∷ ks) up rise there here = absurd (here k (inl refl))
one_rising (n ∷ ns) [] up rise there here = absurd (there n (inl refl))
one_rising (n ∷ ns) (k ∷ ks) up rise there here =
    let same : n ≡ k = first_same n k ns ks up.0 rise.0 (there n (inl refl)) (here k (inl refl)) in
    λ i. same i ∷ one_rising ns ks up.1 rise.1 (behind n k ns ks same up.0 there) (behind k n ks ns (sym same) rise.0 here) i
