-- How many of the first elements of a list pass a test.
use Rattle.std.proofs.Common.{◌≡◌, ◌||◌, ℕ, zero, suc, ◌+◌, ◌<◌, ◌≤◌, Bool, true, false, cond, not, List, [], ◌∷◌, ◌++◌, count_by, filter, length, replicate, take, refl, sym, ap, ◌∙◌, subst, arith}
use Rattle.std.specs.List.{list_any, position_or_len}
use Rattle.std.proofs.lemmas.Bool.{both_ways, false≢true, true≢false}
use Rattle.std.proofs.lemmas.List.Sums.{sum_by-cons}

-- 1 where a test holds, and 0 where it fails
abbrev pub tally : Bool → ℕ
tally b = cond b 1 0

-- how many pass
abbrev pub counted : {X : Type 0} → (X → Bool) → List X → ℕ
counted p [] = 0
counted p (x ∷ xs) = tally (p x) + counted p xs

pub counted_is : {X : Type 0} (p : X → Bool) (xs : List X) → count_by p xs ≡ counted p xs
counted_is p [] = refl
counted_is p (x ∷ xs) = sum_by-cons (λ x. cond (p x) 1 0) x xs ∙ ap (λ n. tally (p x) + n) (counted_is p xs)

pub counted_agree : {X : Type 0} (p q : X → Bool) → ((x : X) → p x ≡ q x) → (xs : List X) → counted p xs ≡ counted q xs
counted_agree p q same [] = refl
counted_agree p q same (x ∷ xs) = λ i. tally (same x i) + counted_agree p q same xs i

pub counted_both : {X : Type 0} (p : X → Bool) (xs ys : List X) → counted p (xs ++ ys) ≡ counted p xs + counted p ys
counted_both p [] ys = omega arith
counted_both p (x ∷ xs) ys = omega (arith, counted_both p xs ys)

-- ---- copies of one element

pub counted_copies : {X : Type 0} (p : X → Bool) (n : ℕ) (x : X) → p x ≡ true → counted p (replicate n x) ≡ n
counted_copies p zero x pass = refl
counted_copies p (suc n) x pass = let here : tally (p x) ≡ 1 = ap tally pass in omega (arith, counted_copies p n x pass)

pub counted_no_copies : {X : Type 0} (p : X → Bool) (n : ℕ) (x : X) → p x ≡ false → counted p (replicate n x) ≡ 0
counted_no_copies p zero x fails = refl
counted_no_copies p (suc n) x fails = let here : tally (p x) ≡ 0 = ap tally fails in omega (arith, counted_no_copies p n x fails)

-- ---- a front of the list

pub counted_front : {X : Type 0} (p : X → Bool) (t : ℕ) (xs : List X) → counted p (take t xs) ≤ counted p xs
counted_front p zero xs = omega arith
counted_front p (suc t) [] = omega arith
counted_front p (suc t) (x ∷ xs) = omega (arith, counted_front p t xs)

pub counted_longer : {X : Type 0} (p : X → Bool) (t u : ℕ) (xs : List X) → t ≤ u → counted p (take t xs) ≤ counted p (take u xs)
counted_longer p zero u xs more = omega arith
counted_longer p (suc t) zero xs more = absurd (omega arith)
counted_longer p (suc t) (suc u) [] more = omega arith
counted_longer p (suc t) (suc u) (x ∷ xs) more = omega (arith, counted_longer p t u xs (omega arith))

pub counted_within : {X : Type 0} (p : X → Bool) (xs : List X) → counted p xs ≤ length xs
counted_within p [] = omega arith
counted_within p (x ∷ xs) =
    elim (p x) as (λ b. tally b + counted p xs ≤ suc (length xs)) [
      | true ↦ omega (arith, counted_within p xs)
      | false ↦ omega (arith, counted_within p xs)
    ]

-- ---- a filter

pub counted_filter : {X : Type 0} (k p : X → Bool) (xs : List X) → counted p (filter k xs) ≤ counted p xs
counted_filter k p [] = omega arith
counted_filter k p (x ∷ xs) =
    elim (k x) as (λ b. counted p (cond b (x ∷ filter k xs) (filter k xs)) ≤ tally (p x) + counted p xs) [
      | true ↦ omega (arith, counted_filter k p xs)
      | false ↦ omega (arith, counted_filter k p xs)
    ]

-- a filter that keeps all that pass keeps their number
pub counted_kept : {X : Type 0} (k p : X → Bool) → ((x : X) → p x ≡ true → k x ≡ true) → (xs : List X) → counted p (filter k xs) ≡ counted p xs
counted_kept k p keeps [] = refl
counted_kept k p keeps (x ∷ xs) =
    elim (k x) as (λ b. k x ≡ b → counted p (cond b (x ∷ filter k xs) (filter k xs)) ≡ tally (p x) + counted p xs) [
      | true ↦ λ kept. ap (λ n. tally (p x) + n) (counted_kept k p keeps xs)
      | false ↦ λ out.
          elim (p x) as (λ b. p x ≡ b → counted p (filter k xs) ≡ tally b + counted p xs) [
            | true ↦ λ pass. absurd (both_ways (k x) out (keeps x pass))
            | false ↦ λ fails. omega (arith, counted_kept k p keeps xs)
          ] refl
    ] refl

-- ---- whether any passes

pub none_counted : {X : Type 0} (p : X → Bool) (xs : List X) → list_any p xs ≡ false → counted p xs ≡ 0
none_counted p [] none = refl
none_counted p (x ∷ xs) none =
    elim (p x) as (λ b. (b || list_any p xs) ≡ false → tally b + counted p xs ≡ 0) [
      | true ↦ λ h. absurd (true≢false h)
      | false ↦ λ h. omega (arith, none_counted p xs h)
    ] none

pub some_counted : {X : Type 0} (p : X → Bool) (xs : List X) → list_any p xs ≡ true → 1 ≤ counted p xs
some_counted p [] some = absurd (false≢true some)
some_counted p (x ∷ xs) some =
    elim (p x) as (λ b. (b || list_any p xs) ≡ true → 1 ≤ tally b + counted p xs) [
      | true ↦ λ h. omega arith
      | false ↦ λ h. omega (arith, some_counted p xs h)
    ] some

pub none_from_count : {X : Type 0} (p : X → Bool) (xs : List X) → counted p xs ≡ 0 → list_any p xs ≡ false
none_from_count p [] none = refl
none_from_count p (x ∷ xs) none =
    elim (p x) as (λ b. tally b + counted p xs ≡ 0 → (b || list_any p xs) ≡ false) [
      | true ↦ λ h. absurd (omega arith)
      | false ↦ λ h. none_from_count p xs (omega arith)
    ] none

-- none passes among those ahead of the first that does
pub none_ahead : {X : Type 0} (p : X → Bool) (t : ℕ) (xs : List X) → t ≤ position_or_len p xs → counted p (take t xs) ≡ 0
none_ahead p zero xs few = refl
none_ahead p (suc t) [] few = refl
none_ahead p (suc t) (x ∷ xs) few =
    elim (p x) as (λ b. suc t ≤ cond (not b) (1 + position_or_len p xs) 0 → tally b + counted p (take t xs) ≡ 0) [
      | true ↦ λ h. absurd (omega arith)
      | false ↦ λ h. omega (arith, none_ahead p t xs (omega arith))
    ] few

-- one passes among those up to the first that does
pub one_with_first : {X : Type 0} (p : X → Bool) (xs : List X) → position_or_len p xs < length xs → counted p (take (position_or_len p xs + 1) xs) ≡ 1
one_with_first p [] room = absurd (omega arith)
one_with_first p (x ∷ xs) room =
    elim (p x) as (λ b. p x ≡ b → cond (not b) (1 + position_or_len p xs) 0 < suc (length xs) → counted p (take (cond (not b) (1 + position_or_len p xs) 0 + 1) (x ∷ xs)) ≡ 1) [
      | true ↦ λ pass h. let here : tally (p x) ≡ 1 = ap tally pass in omega arith
      | false ↦ λ fails h.
          let next : 1 + position_or_len p xs + 1 ≡ suc (position_or_len p xs + 1) = omega arith in
          let none : tally (p x) ≡ 0 = ap tally fails in
          subst (λ j. counted p (take j (x ∷ xs)) ≡ 1) (sym next) (omega (arith, one_with_first p xs (omega arith)))
    ] refl room

pub first_within : {X : Type 0} (p : X → Bool) (xs : List X) → 1 ≤ counted p xs → position_or_len p xs < length xs
first_within p [] some = absurd (omega arith)
first_within p (x ∷ xs) some =
    elim (p x) as (λ b. 1 ≤ tally b + counted p xs → cond (not b) (1 + position_or_len p xs) 0 < suc (length xs)) [
      | true ↦ λ h. omega arith
      | false ↦ λ h. omega (arith, first_within p xs (omega arith))
    ] some
