-- Numbers in a row that pass a test, and those of them below a number.
use Rattle.std.proofs.Common.{◌≡◌, ℕ, zero, suc, ◌+◌, ◌-◌, ◌≤◌, Bool, true, false, cond, nat_lt, List, [], ◌∷◌, filter, length, take, refl, ap, subst, ◌∙◌, arith}
use Rattle.std.specs.List.{range_with_len}
use Rattle.std.proofs.lemmas.Bool.Decides.{nat_tests}
use Rattle.gb_base.proofs.Ascending.{ascends_at, ascends_later}
use Rattle.gb_base.proofs.Fronts.{none_pass}
use Rattle.conflict_queue.specs.inner.Queues.{Ascends}

-- the first n of a list that has no more than n are all of it
pub take_few : {X : Type 0} (n : ℕ) (xs : List X) → length xs ≤ n → take n xs ≡ xs
take_few zero [] few = refl
take_few (suc n) [] few = refl
take_few zero (x ∷ xs) few = absurd (omega arith)
take_few (suc n) (x ∷ xs) few = ap (λ rest. x ∷ rest) (take_few n xs (omega arith))

-- ---- numbers in a row

-- of numbers in a row, those that pass ascend
pub passing_ascend : (p : ℕ → Bool) (a n : ℕ) → Ascends a (filter p (range_with_len a n))
passing_ascend p a zero = tt
passing_ascend p a (suc n) =
    let rest = passing_ascend p (a + 1) n in
    elim (p a) as (λ b. Ascends a (cond b (a ∷ filter p (range_with_len (a + 1) n)) (filter p (range_with_len (a + 1) n)))) [
      | true ↦ (omega arith, rest)
      | false ↦ ascends_later (λ m. m) (a + 1) a (filter p (range_with_len (a + 1) n)) (omega arith) rest
    ]

none_below : (p : ℕ → Bool) (b a n : ℕ) → b ≤ a → filter (λ m. nat_lt m b) (filter p (range_with_len a n)) ≡ []
none_below p b a n above = none_pass (λ m. nat_lt m b) (filter p (range_with_len a n)) (λ k d low within.
    let least = ascends_at (λ m. m) a (filter p (range_with_len a n)) k d (passing_ascend p a n) within in
    grind (arith, nat_tests, least, above))

-- of numbers in a row, those that pass and are below a number
pub passing_below : (p : ℕ → Bool) (a k n : ℕ) → k ≤ n → filter (λ m. nat_lt m (a + k)) (filter p (range_with_len a n)) ≡ filter p (range_with_len a k)
passing_below p a zero n few = none_below p (a + 0) a n (omega arith)
passing_below p a (suc k) zero few = absurd (omega arith)
passing_below p a (suc k) (suc n) few =
    let first : nat_lt a (a + suc k) ≡ true = grind (arith, nat_tests) in
    let rest : filter (λ m. nat_lt m (a + suc k)) (filter p (range_with_len (a + 1) n)) ≡ filter p (range_with_len (a + 1) k) =
    subst (λ b. filter (λ m. nat_lt m b) (filter p (range_with_len (a + 1) n)) ≡ filter p (range_with_len (a + 1) k)) (omega arith) (passing_below p (a + 1) k n (omega arith)) in
    elim (p a) as (λ b. filter (λ m. nat_lt m (a + suc k)) (cond b (a ∷ filter p (range_with_len (a + 1) n)) (filter p (range_with_len (a + 1) n))) ≡ cond b (a ∷ filter p (range_with_len (a + 1) k)) (filter p (range_with_len (a + 1) k))) [
      | true ↦ rw first (ap (λ ms. a ∷ ms) rest)
      | false ↦ rest
    ]

pub below_is : (p : ℕ → Bool) (n i : ℕ) → i - 1 ≤ n → filter (λ m. nat_lt m i) (filter p (range_with_len 1 n)) ≡ filter p (range_with_len 1 (i - 1))
below_is p n zero few =
    let none : 0 ≡ 0 - 1 = omega arith in
    none_below p 0 1 n (omega arith) ∙ ap (λ k. filter p (range_with_len 1 k)) none
below_is p n (suc i) few =
    let next : suc i ≡ 1 + i = omega arith in
    let behind : i ≡ suc i - 1 = omega arith in
    ap (λ b. filter (λ m. nat_lt m b) (filter p (range_with_len 1 n))) next ∙ passing_below p 1 i n (omega arith)
    ∙ ap (λ k. filter p (range_with_len 1 k)) behind
