-- The first filing above a number, of those that wait: it is the first of the rest, since their numbers ascend.
use Rattle.std.proofs.Common.{◌≡◌, ℕ, suc, zero, ◌+◌, ◌-◌, ◌<◌, ◌≤◌, Bool, true, false, cond, nat_lt, List, [], ◌∷◌, find, filter, Option, Some, None, is_none, is_some, refl, sym, ap, subst, ◌∙◌, arith}
use Rattle.std.specs.List.{AllByRecursion, range_with_len}
use Rattle.std.proofs.lemmas.Bool.{false≢true}
use Rattle.std.proofs.lemmas.Bool.Decides.{nat_tests}
use Rattle.folio_sections.specs.Waiting.{is_above, is_pending, notice, receipts_before, waiting_before, waiting_unnoticed}
use Rattle.folio_sections.specs.declared.entries.Entry.{Entry}
use Rattle.folio_sections.specs.inner.Naming.{Rises}
use Rattle.folio_sections.proofs.FilteredLists.{filter_ascends}
use Rattle.folio_sections.proofs.ListLemmas.{filter_all}
use Rattle.folio_sections.proofs.Unchanged.{all_weaker}

-- ---- filings in ascending order

range_rises : (a b n : ℕ) → a ≤ b → Rises a (range_with_len b n)
range_rises a b zero low = tt
range_rises a b (suc n) low = (low, range_rises (b + 1) (b + 1) n (omega arith))

pub waiting_ascend : (m : ℕ) (entries : List Entry) → Rises 0 (waiting_before m entries)
waiting_ascend m entries = filter_ascends (λ n. n) (λ n. is_pending n entries) 0 (receipts_before m) (range_rises 0 1 (m - 1) (omega arith))

pub unnoticed_ascend : (m : ℕ) (entries : List Entry) → Rises 0 (waiting_unnoticed m entries)
unnoticed_ascend m entries = filter_ascends (λ n. n) (λ n. is_none (notice n entries)) 0 (waiting_before m entries) (waiting_ascend m entries)

-- numbers that ascend from above x on are all above x
all_later : (x a : ℕ) (ys : List ℕ) → x < a → Rises a ys → AllByRecursion (λ y. nat_lt x y ≡ true) ys
all_later x a [] less up = tt
all_later x a (y ∷ ys) less up =
    let low = up.0 in
    (grind (arith, nat_tests, low, less), all_later x (y + 1) ys (omega arith) up.1)

-- ---- the first above a number, and those after it

pub above_further : (after : Option ℕ) (n k : ℕ) → is_above after n ≡ true → nat_lt n k ≡ true → is_above after k ≡ true
above_further None n k high above = refl
above_further (Some m) n k high above = grind (arith, nat_tests, high, above)

pub all_above : (xs : List ℕ) → filter (is_above None) xs ≡ xs
all_above [] = refl
all_above (x ∷ xs) = ap (λ ys. x ∷ ys) (all_above xs)

found_has : (P : ℕ → Type 0) (p : ℕ → Bool) (xs : List ℕ) (n : ℕ) → AllByRecursion P xs → find p xs ≡ Some n → P n
found_has P p [] n all h = absurd (false≢true (ap is_some h))
found_has P p (x ∷ xs) n all h =
    elim (p x) as (λ b. cond b (Some x) (find p xs) ≡ Some n → P n) [
      | true ↦ λ here. let same : x ≡ n = cc in subst P same all.0
      | false ↦ λ later. found_has P p xs n all.1 later
    ] h

first_above_from : (after : Option ℕ) (a : ℕ) (xs : List ℕ) (n : ℕ) → Rises a xs → find (is_above after) xs ≡ Some n → filter (is_above after) xs ≡ n ∷ filter (is_above (Some n)) xs
first_above_from after a [] n up h = absurd (false≢true (ap is_some h))
first_above_from after a (x ∷ xs) n up h =
    let later_ones = all_later x (x + 1) xs (omega arith) up.1 in
    elim (is_above after x) as (λ b. is_above after x ≡ b → cond b (Some x) (find (is_above after) xs) ≡ Some n → cond b (x ∷ filter (is_above after) xs) (filter (is_above after) xs) ≡ n ∷ cond (nat_lt n x) (x ∷ filter (is_above (Some n)) xs) (filter (is_above (Some n)) xs)) [
      | true ↦ λ high here.
          let same : x ≡ n = cc in
          let itself : nat_lt x x ≡ false = grind (arith, nat_tests) in
          let ours : filter (is_above after) xs ≡ xs =
          filter_all (is_above after) xs (all_weaker (λ y. nat_lt x y ≡ true) (λ y. is_above after y ≡ true) xs (λ y above. above_further after x y high above) later_ones) in
          let theirs : filter (is_above (Some x)) xs ≡ xs = filter_all (is_above (Some x)) xs later_ones in
          subst (λ k. x ∷ filter (is_above after) xs ≡ k ∷ cond (nat_lt k x) (x ∷ filter (is_above (Some k)) xs) (filter (is_above (Some k)) xs)) same
          (ap (λ ys. x ∷ ys) (ours ∙ sym theirs ∙ ap (λ b. cond b (x ∷ filter (is_above (Some x)) xs) (filter (is_above (Some x)) xs)) (sym itself)))
      | false ↦ λ low later.
          let above : nat_lt x n ≡ true = found_has (λ y. nat_lt x y ≡ true) (is_above after) xs n later_ones later in
          let not_less : nat_lt n x ≡ false = grind (arith, nat_tests, above) in
          first_above_from after (x + 1) xs n up.1 later
          ∙ ap (λ b. n ∷ cond b (x ∷ filter (is_above (Some n)) xs) (filter (is_above (Some n)) xs)) (sym not_less)
    ] refl h

-- what is found is the first of those above the number, and the others are those above it
pub first_above : (after : Option ℕ) (xs : List ℕ) (n : ℕ) → Rises 0 xs → find (is_above after) xs ≡ Some n → filter (is_above after) xs ≡ n ∷ filter (is_above (Some n)) xs
first_above after xs n up h = first_above_from after 0 xs n up h

-- where none is found there are none
pub none_above : (p : ℕ → Bool) (xs : List ℕ) → find p xs ≡ None → filter p xs ≡ []
none_above p [] h = refl
none_above p (x ∷ xs) h =
    elim (p x) as (λ b. cond b (Some x) (find p xs) ≡ None → cond b (x ∷ filter p xs) (filter p xs) ≡ []) [
      | true ↦ λ here. absurd (false≢true (sym (ap is_some here)))
      | false ↦ λ later. none_above p xs later
    ] h
