-- Lists in which all that pass one test stand ahead of all that pass another.
use Rattle.std.proofs.Common.{◌≡◌, ℕ, zero, suc, ◌+◌, ◌-◌, ◌≤◌, Bool, true, false, cond, not, List, [], ◌∷◌, ◌++◌, filter, length, replicate, take, refl, sym, ap, subst, arith}
use Rattle.std.specs.List.{position_or_len}
use Rattle.std.proofs.lemmas.Bool.{both_ways}
use Rattle.rank_slots.proofs.LineCounts.{counted, counted_filter, counted_front, counted_within, tally}

-- behind each one that passes q none passes p
abbrev pub Precedes : {X : Type 0} → (X → Bool) → (X → Bool) → List X → Type 0
Precedes p q [] = Unit {0}
Precedes p q (x ∷ xs) = (q x ≡ true → counted p xs ≡ 0) × Precedes p q xs

pub precedes_none : {X : Type 0} (p q : X → Bool) (xs : List X) → counted p xs ≡ 0 → Precedes p q xs
precedes_none p q [] none = tt
precedes_none p q (x ∷ xs) none = (λ _. omega arith, precedes_none p q xs (omega arith))

pub precedes_copies : {X : Type 0} (p q : X → Bool) (n : ℕ) (x : X) (xs : List X) → q x ≡ false → Precedes p q xs → Precedes p q (replicate n x ++ xs)
precedes_copies p q zero x xs other ahead = ahead
precedes_copies p q (suc n) x xs other ahead = (λ same. absurd (both_ways (q x) other same), precedes_copies p q n x xs other ahead)

pub precedes_filter : {X : Type 0} (k p q : X → Bool) (xs : List X) → Precedes p q xs → Precedes p q (filter k xs)
precedes_filter k p q [] ahead = tt
precedes_filter k p q (x ∷ xs) ahead =
    elim (k x) as (λ b. Precedes p q (cond b (x ∷ filter k xs) (filter k xs))) [
      | true ↦ (λ last. let none = ahead.0 last in omega (arith, counted_filter k p xs), precedes_filter k p q xs ahead.1)
      | false ↦ precedes_filter k p q xs ahead.1
    ]

-- ---- a window of so many elements as pass q in all

-- no element passes both tests
abbrev pub AreApart : {X : Type 0} → (X → Bool) → (X → Bool) → Type 0
AreApart {X} p q = (x : X) → q x ≡ true → p x ≡ false

pub apart_within : {X : Type 0} (p q : X → Bool) → AreApart p q → (t : ℕ) (xs : List X) → counted p (take t xs) + counted q (take t xs) ≤ t
apart_within p q apart zero xs = omega arith
apart_within p q apart (suc t) [] = omega arith
apart_within p q apart (suc t) (x ∷ xs) =
    let rest = apart_within p q apart t xs in
    elim (q x) as (λ b. q x ≡ b → (tally (p x) + counted p (take t xs)) + (tally b + counted q (take t xs)) ≤ suc t) [
      | true ↦ λ pass. let none : tally (p x) ≡ 0 = ap tally (apart x pass) in omega arith
      | false ↦ λ fails.
          elim (p x) as (λ b. (tally b + counted p (take t xs)) + (tally false + counted q (take t xs)) ≤ suc t) [
            | true ↦ omega arith
            | false ↦ omega arith
          ]
    ] refl

pub window : {X : Type 0} (p q : X → Bool) → AreApart p q → (u e c : ℕ) (xs : List X) → Precedes p q xs → counted q xs ≤ c → e ≤ c
    → counted p (take (u + e) xs) + counted q (take (u + e) xs) ≤ counted p (take u xs) + c
window p q apart zero e c xs ahead few less =
    let none : zero + e ≡ e = omega arith in
    subst (λ t. counted p (take t xs) + counted q (take t xs) ≤ 0 + c) (sym none) (omega (arith, apart_within p q apart e xs))
window p q apart (suc u) e c [] ahead few less =
    let next : suc u + e ≡ suc (u + e) = omega arith in
    subst (λ t. counted p (take t []) + counted q (take t []) ≤ 0 + c) (sym next) (omega arith)
window p q apart (suc u) e c (x ∷ xs) ahead few less =
    let next : suc u + e ≡ suc (u + e) = omega arith in
    subst (λ t. counted p (take t (x ∷ xs)) + counted q (take t (x ∷ xs)) ≤ (tally (p x) + counted p (take u xs)) + c) (sym next)
    (elim (q x) as (λ b. q x ≡ b → tally b + counted q xs ≤ c → (tally (p x) + counted p (take (u + e) xs)) + (tally b + counted q (take (u + e) xs)) ≤ (tally (p x) + counted p (take u xs)) + c) [
      | true ↦ λ pass all.
          let none = ahead.0 pass in
          let own : tally (p x) ≡ 0 = ap tally (apart x pass) in
          omega (arith, counted_front p (u + e) xs, counted_front q (u + e) xs)
      | false ↦ λ fails all.
          let rest = window p q apart u e c xs ahead.1 (omega arith) less in omega arith
    ] refl few)

-- those that pass p and those that pass q among the first t are together at most c more than those that pass p among the first t - c
pub window_below : {X : Type 0} (p q : X → Bool) → AreApart p q → (t c : ℕ) (xs : List X) → Precedes p q xs → counted q xs ≤ c
    → counted p (take t xs) + counted q (take t xs) ≤ counted p (take (t - c) xs) + c
window_below p q apart t c xs ahead few =
    let same : (t - c) + (t - (t - c)) ≡ t = omega arith in
    subst (λ s. counted p (take s xs) + counted q (take s xs) ≤ counted p (take (t - c) xs) + c) same (window p q apart (t - c) (t - (t - c)) c xs ahead few (omega arith))

-- ---- the first that passes p

-- where one passes p, none passes q up to the first that passes p
pub first_ahead : {X : Type 0} (p q : X → Bool) → AreApart p q → (t : ℕ) (xs : List X) → Precedes p q xs → 1 ≤ counted p xs → t ≤ position_or_len p xs + 1 → counted q (take t xs) ≡ 0
first_ahead p q apart zero xs ahead some few = refl
first_ahead p q apart (suc t) [] ahead some few = refl
first_ahead p q apart (suc t) (x ∷ xs) ahead some few =
    elim (p x) as (λ b. p x ≡ b → 1 ≤ tally b + counted p xs → suc t ≤ cond (not b) (1 + position_or_len p xs) 0 + 1 → tally (q x) + counted q (take t xs) ≡ 0) [
      | true ↦ λ pass h less.
          let none : t ≡ 0 = omega arith in
          elim (q x) as (λ d. q x ≡ d → tally d + counted q (take t xs) ≡ 0) [
            | true ↦ λ last. absurd (both_ways (p x) (apart x last) pass)
            | false ↦ λ other. subst (λ n. tally false + counted q (take n xs) ≡ 0) (sym none) refl
          ] refl
      | false ↦ λ fails h less.
          elim (q x) as (λ d. q x ≡ d → tally d + counted q (take t xs) ≡ 0) [
            | true ↦ λ last. let none = ahead.0 last in absurd (omega arith)
            | false ↦ λ other. omega (arith, first_ahead p q apart t xs ahead.1 (omega arith) (omega arith))
          ] refl
    ] refl some few

-- all that pass q stand behind the first that passes p
pub room_behind : {X : Type 0} (p q : X → Bool) → AreApart p q → (xs : List X) → Precedes p q xs → 1 ≤ counted p xs → position_or_len p xs + 1 + counted q xs ≤ length xs
room_behind p q apart [] ahead some = absurd (omega arith)
room_behind p q apart (x ∷ xs) ahead some =
    elim (q x) as (λ d. q x ≡ d → cond (not (p x)) (1 + position_or_len p xs) 0 + 1 + (tally d + counted q xs) ≤ suc (length xs)) [
      | true ↦ λ last.
          let none = ahead.0 last in
          let own : tally (p x) ≡ 0 = ap tally (apart x last) in absurd (omega arith)
      | false ↦ λ other.
          elim (p x) as (λ b. 1 ≤ tally b + counted p xs → cond (not b) (1 + position_or_len p xs) 0 + 1 + (tally false + counted q xs) ≤ suc (length xs)) [
            | true ↦ λ h. omega (arith, counted_within q xs)
            | false ↦ λ h. omega (arith, room_behind p q apart xs ahead.1 (omega arith))
          ] some
    ] refl
