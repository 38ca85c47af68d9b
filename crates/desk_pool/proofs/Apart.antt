-- Two folios that together hold what they held before hold each what it held, as the first has the lower number.
use Rattle.std.proofs.Common.{◌≡◌, ⊎_elim, ℕ, Bool, true, false, ◌||◌, cond, List, refl, sym, ap, subst, ◌∙◌, arith}
use Rattle.std.specs.Cmp.{both_ways}
use Rattle.std.proofs.lemmas.Bool.{cases_Bool, or_cases, or_left, or_right}
use Rattle.gb_base.specs.declared.keys.Key.{Key}
use Rattle.folio_sections.specs.declared.entries.Entry.{Entry}
use Rattle.desk_pool.specs.inner.FolioPairs.{AreApart, of_either}

-- no key is held by both
pub not_both : (first second : Key → Bool) (k : Key) → AreApart first second → first k ≡ true → second k ≡ true → ⊥
not_both first second k apart here there = let less = apart.rise k k here there in absurd (omega arith)

pub not_first : (first second : Key → Bool) (k : Key) → AreApart first second → second k ≡ true → first k ≡ false
not_first first second k apart there = ⊎_elim (λ here. absurd (not_both first second k apart here there)) (λ no. no) (cases_Bool (first k))

module _ (first second first1 second1 : Key → Bool) (apart : AreApart first second) (apart1 : AreApart first1 second1) (same : (k : Key) → (first1 k || second1 k) ≡ (first k || second k)) (a b : Key)
    (of_first : first a ≡ true) (of_second : second b ≡ true) where
  held_now : (k : Key) → (first k || second k) ≡ true → (first1 k || second1 k) ≡ true
  held_now k is = same k ∙ is

  held_before : (k : Key) → (first1 k || second1 k) ≡ true → (first k || second k) ≡ true
  held_before k is = sym (same k) ∙ is

  -- the first still holds the key that it held
  still_first : first1 a ≡ true
  still_first =
      ⊎_elim (λ here. here)
      (λ there.
      ⊎_elim
      (λ turned. let less = apart.rise a b of_first of_second in let more = apart1.rise b a turned there in absurd (omega (arith, less, more)))
      (λ beside. let less = apart.rise a b of_first of_second in let equal = apart1.one_second a b there beside in absurd (omega (arith, less, equal)))
      (or_cases (first1 b) (second1 b) (held_now b (or_right (first b) (second b) of_second))))
      (or_cases (first1 a) (second1 a) (held_now a (or_left (first a) (second a) of_first)))

  -- the second still holds the key that it held
  still_second : second1 b ≡ true
  still_second =
      ⊎_elim
      (λ turned. let less = apart.rise a b of_first of_second in let equal = apart1.one_first a b still_first turned in absurd (omega (arith, less, equal)))
      (λ there. there)
      (or_cases (first1 b) (second1 b) (held_now b (or_right (first b) (second b) of_second)))

  first_was : (k : Key) → first1 k ≡ true → first k ≡ true
  first_was k is =
      ⊎_elim (λ here. here)
      (λ there. let less = apart.rise a k of_first there in let equal = apart1.one_first k a is still_first in absurd (omega (arith, less, equal)))
      (or_cases (first k) (second k) (held_before k (or_left (first1 k) (second1 k) is)))

  first_is : (k : Key) → first k ≡ true → first1 k ≡ true
  first_is k was =
      ⊎_elim (λ here. here)
      (λ there. let less = apart.rise k b was of_second in let equal = apart1.one_second k b there still_second in absurd (omega (arith, less, equal)))
      (or_cases (first1 k) (second1 k) (held_now k (or_left (first k) (second k) was)))

  second_was : (k : Key) → second1 k ≡ true → second k ≡ true
  second_was k is =
      ⊎_elim
      (λ there. let less = apart.rise k b there of_second in let equal = apart1.one_second k b is still_second in absurd (omega (arith, less, equal)))
      (λ here. here)
      (or_cases (first k) (second k) (held_before k (or_right (first1 k) (second1 k) is)))

  second_is : (k : Key) → second k ≡ true → second1 k ≡ true
  second_is k was =
      ⊎_elim
      (λ there. let less = apart.rise a k of_first was in let equal = apart1.one_first k a there still_first in absurd (omega (arith, less, equal)))
      (λ here. here)
      (or_cases (first1 k) (second1 k) (held_now k (or_right (first k) (second k) was)))

  pub first_same : first1 ≡ first
  first_same = λ i k. both_ways (first1 k) (first k) (first_was k) (first_is k) i

  pub second_same : second1 ≡ second
  second_same = λ i k. both_ways (second1 k) (second k) (second_was k) (second_is k) i

-- ---- what holds of the entries and the room at each key of the first and of the second

pub at_either : (P : Key → List Entry → ℕ → Type 0) (first second : Key → Bool) (x y : Key → List Entry) (r s : Key → ℕ) → ((k : Key) → first k ≡ true → P k (x k) (r k)) → ((k : Key) → second k ≡ true → P k (y k) (s k))
    → (k : Key) → (first k || second k) ≡ true → P k (of_either first x y k) (of_either first r s k)
at_either P first second x y r s one other k held =
    elim (first k) as (λ v. first k ≡ v → (v || second k) ≡ true → P k (cond v (x k) (y k)) (cond v (r k) (s k))) [
      | true ↦ λ is either. one k is
      | false ↦ λ is either. other k either
    ] refl held

pub at_first : (P : Key → List Entry → ℕ → Type 0) (first second first1 : Key → Bool) (x y : Key → List Entry) (r s : Key → ℕ) → first1 ≡ first
    → ((k : Key) → (first k || second k) ≡ true → P k (of_either first1 x y k) (of_either first1 r s k)) → (k : Key) → first k ≡ true → P k (x k) (r k)
at_first P first second first1 x y r s same all k is =
    subst (λ v. P k (cond v (x k) (y k)) (cond v (r k) (s k))) (ap (λ holds. holds k) same ∙ is) (all k (or_left (first k) (second k) is))

pub at_second : (P : Key → List Entry → ℕ → Type 0) (first second first1 : Key → Bool) (x y : Key → List Entry) (r s : Key → ℕ) → AreApart first second → first1 ≡ first
    → ((k : Key) → (first k || second k) ≡ true → P k (of_either first1 x y k) (of_either first1 r s k)) → (k : Key) → second k ≡ true → P k (y k) (s k)
at_second P first second first1 x y r s apart same all k is =
    subst (λ v. P k (cond v (x k) (y k)) (cond v (r k) (s k))) (ap (λ holds. holds k) same ∙ not_first first second k apart is) (all k (or_right (first k) (second k) is))
