-- Values in the order of their filings: one is found by its filing, written in its place, or put into the order.
use Rattle.std.proofs.Common.{◌≡◌, ℕ, zero, suc, ◌+◌, ◌<◌, ◌≤◌, Bool, true, false, cond, count_by, ◌==◌, nat_lt, List, [], ◌∷◌, Option, Some, None, get_or, length, option_map, set, slice_get, take, refl, sym, ap, subst, ◌∙◌, arith}
use Rattle.std.specs.List.{AllByRecursion, insert}
use Rattle.std.proofs.lemmas.Bool.{eqb-true}
use Rattle.std.proofs.lemmas.Bool.Decides.{nat_tests}
use Rattle.std.proofs.lemmas.List.Sums.{sum_by-cons, sum_by-insert}
use Rattle.folio_sections.specs.declared.filing_list.OfFiling.{OfFiling}
use Rattle.folio_sections.specs.inner.FilingLists.{Ascends, at_filing, of_filing, value_in}

-- the filings of the first i waiters are below m
abbrev pub AreBelow : {V : Type 0} → ℕ → List (OfFiling V) → ℕ → Type 0
AreBelow {V = V} m ws i = (k : ℕ) (d : OfFiling V) → k < i → nat_lt (get_or ws k d).filing m ≡ true

rest_below : {V : Type 0} (m : ℕ) (x : OfFiling V) (xs : List (OfFiling V)) (i : ℕ) → AreBelow m (x ∷ xs) (suc i) → AreBelow m xs i
rest_below m x xs i below = λ k d less. below (suc k) d (omega arith)

first_below : {V : Type 0} (m : ℕ) (x : OfFiling V) (xs : List (OfFiling V)) (i : ℕ) → AreBelow m (x ∷ xs) (suc i) → nat_lt x.filing m ≡ true
first_below m x xs i below = below zero x (omega arith)

lower_is_other : (a m : ℕ) → nat_lt a m ≡ true → (a == m) ≡ false
lower_is_other a m less = grind (arith, nat_tests, less)

-- the filing at i is m
pub found : {V : Type 0} (m : ℕ) (ws : List (OfFiling V)) (i : ℕ) (w : OfFiling V) → AreBelow m ws i → slice_get ws i ≡ Some w → (w.filing == m) ≡ true → of_filing m ws ≡ Some w
found m [] i w below at is = cc
found m (x ∷ xs) zero w below at is =
    let same : x ≡ w = cc in
    subst (λ v. cond (v.filing == m) (Some v) (of_filing m xs) ≡ Some w) (sym same) (rw is refl)
found m (x ∷ xs) (suc i) w below at is =
    rw (lower_is_other x.filing m (first_below m x xs i below)) (found m xs i w (rest_below m x xs i below) at is)

pub none_below : {V : Type 0} (m a : ℕ) (ws : List (OfFiling V)) → Ascends a ws → m < a → of_filing m ws ≡ None
none_below m a [] up less = refl
none_below m a (x ∷ xs) up less =
    let first = up.0 in
    let other : (x.filing == m) ≡ false = grind (arith, nat_tests, first, less) in
    rw other (none_below m (x.filing + 1) xs up.1 (omega arith))

-- the filing at i, if any, is above m
abbrev pub IsBehind : {V : Type 0} → ℕ → List (OfFiling V) → ℕ → Type 0
IsBehind {V = V} m ws i = (d : OfFiling V) → i < length ws → m < (get_or ws i d).filing

pub not_found : {V : Type 0} (m a : ℕ) (ws : List (OfFiling V)) (i : ℕ) → Ascends a ws → AreBelow m ws i → IsBehind m ws i → of_filing m ws ≡ None
not_found m a [] i up below behind = refl
not_found m a (x ∷ xs) zero up below behind =
    let more = behind x (omega arith) in
    let other : (x.filing == m) ≡ false = grind (arith, nat_tests, more) in
    rw other (none_below m (x.filing + 1) xs up.1 (omega arith))
not_found m a (x ∷ xs) (suc i) up below behind =
    rw (lower_is_other x.filing m (first_below m x xs i below))
    (not_found m (x.filing + 1) xs i up.1 (rest_below m x xs i below) (λ d within. behind d (omega arith)))

-- the filing at i, if any, is not below m
abbrev pub IsNotBelow : {V : Type 0} → ℕ → List (OfFiling V) → ℕ → Type 0
IsNotBelow {V = V} m ws i = (d : OfFiling V) → i < length ws → nat_lt (get_or ws i d).filing m ≡ false

pub is_of : {V : Type 0} (m : ℕ) (o : Option (OfFiling V)) (v : OfFiling V) → at_filing m o ≡ Some v → (o ≡ Some v) × (v.filing ≡ m)
is_of m None v is = cc
is_of m (Some w) v is =
    elim (w.filing == m) as (λ b. (w.filing == m) ≡ b → cond b (Some w) None ≡ Some v → (Some w ≡ Some v) × (v.filing ≡ m)) [
      | true ↦ λ same found.
          let one : w ≡ v = cc in
          (ap Some one, subst (λ u. u.filing ≡ m) one (eqb-true w.filing m same))
      | false ↦ λ apart found. cc
    ] refl is

-- where a value is found, it stands of that filing at the index
pub is_there : {V : Type 0} (m : ℕ) (o : Option (OfFiling V)) (value : V) → option_map (λ x. x.value) (at_filing m o) ≡ Some value → (v : OfFiling V) × ((o ≡ Some v) × (v.filing ≡ m))
is_there m o value is =
    elim (at_filing m o) as (λ p. at_filing m o ≡ p → option_map (λ x. x.value) p ≡ Some value → (v : OfFiling _) × ((o ≡ Some v) × (v.filing ≡ m))) [
      | Some v ↦ λ there found. (v, is_of m o v there)
      | None ↦ λ there found. cc
    ] refl is

pub is_not_there : {V : Type 0} (o : Option (OfFiling V)) → option_map (λ x. x.value) o ≡ None → o ≡ None
is_not_there None is = refl
is_not_there (Some v) is = cc

pub is_behind : {V : Type 0} (m : ℕ) (ws : List (OfFiling V)) (i : ℕ) → at_filing m (slice_get ws i) ≡ None → IsNotBelow m ws i → IsBehind m ws i
is_behind m [] i none low = λ d within. absurd (omega arith)
is_behind m (x ∷ xs) zero none low = λ d within.
    let not_less = low x (omega arith) in
    elim (x.filing == m) as (λ b. (x.filing == m) ≡ b → cond b (Some x) None ≡ None → m < x.filing) [
      | true ↦ λ same found. cc
      | false ↦ λ apart found. grind (arith, nat_tests, apart, not_less)
    ] refl none
is_behind m (x ∷ xs) (suc i) none low = λ d within. is_behind m xs i none (λ e inside. low e (omega arith)) d (omega arith)

-- a search by halves gives what stands of the filing
pub searched : {V : Type 0} (m : ℕ) (ws : List (OfFiling V)) (i : ℕ) → Ascends 1 ws → AreBelow m ws i → IsNotBelow m ws i → at_filing m (slice_get ws i) ≡ of_filing m ws
searched m ws i up below low =
    elim (at_filing m (slice_get ws i)) as (λ o. at_filing m (slice_get ws i) ≡ o → o ≡ of_filing m ws) [
      | Some v ↦ λ is.
          let of_it = is_of m (slice_get ws i) v is in
          let same : (v.filing == m) ≡ true = grind (arith, nat_tests, of_it.1) in
          sym (found m ws i v below of_it.0 same)
      | None ↦ λ is. sym (not_found m 1 ws i up below (is_behind m ws i is low))
    ] refl

-- ---- one after others of lower filings

step : {V : Type 0} (x w : OfFiling V) (n : ℕ) (new old : Option (OfFiling V)) → (x.filing == w.filing) ≡ false → new ≡ cond (w.filing == n) (Some w) old
    → cond (x.filing == n) (Some x) new ≡ cond (w.filing == n) (Some w) (cond (x.filing == n) (Some x) old)
step x w n new old other is =
    elim (x.filing == n) as (λ b. (x.filing == n) ≡ b → cond b (Some x) new ≡ cond (w.filing == n) (Some w) (cond b (Some x) old)) [
      | true ↦ λ same.
          let apart : (w.filing == n) ≡ false = grind (arith, nat_tests, same, other) in
          sym (ap (λ b. cond b (Some w) (Some x)) apart)
      | false ↦ λ apart. is
    ] refl

-- a value written at its place
pub written : {V : Type 0} (ws : List (OfFiling V)) (i : ℕ) (v w : OfFiling V) → AreBelow w.filing ws i → slice_get ws i ≡ Some v → v.filing ≡ w.filing
    → (n : ℕ) → of_filing n (set ws i w) ≡ cond (w.filing == n) (Some w) (of_filing n ws)
written [] i v w below at same n = cc
written (x ∷ xs) zero v w below at same n =
    let is : x ≡ v = cc in
    let filing : x.filing ≡ w.filing = ap (λ u. u.filing) is ∙ same in
    subst (λ f. cond (w.filing == n) (Some w) (of_filing n xs) ≡ cond (w.filing == n) (Some w) (cond (f == n) (Some x) (of_filing n xs))) (sym filing)
    (elim (w.filing == n) as (λ b. cond b (Some w) (of_filing n xs) ≡ cond b (Some w) (cond b (Some x) (of_filing n xs))) [
      | true ↦ refl
      | false ↦ refl
    ])
written (x ∷ xs) (suc i) v w below at same n =
    step x w n (of_filing n (set xs i w)) (of_filing n xs) (lower_is_other x.filing w.filing (first_below w.filing x xs i below))
    (written xs i v w (rest_below w.filing x xs i below) at same n)

pub written_ascends : {V : Type 0} (a : ℕ) (ws : List (OfFiling V)) (i : ℕ) (v w : OfFiling V) → Ascends a ws → slice_get ws i ≡ Some v → v.filing ≡ w.filing → Ascends a (set ws i w)
written_ascends a [] i v w up at same = cc
written_ascends a (x ∷ xs) zero v w up at same =
    let is : x ≡ v = cc in
    subst (λ f. (a ≤ f) × Ascends (f + 1) xs) (ap (λ u. u.filing) is ∙ same) up
written_ascends a (x ∷ xs) (suc i) v w up at same = (up.0, written_ascends (x.filing + 1) xs i v w up.1 at same)

-- a value put into the order
pub put_in : {V : Type 0} (ws : List (OfFiling V)) (i : ℕ) (w : OfFiling V) → i ≤ length ws → AreBelow w.filing ws i
    → (n : ℕ) → of_filing n (insert ws i w) ≡ cond (w.filing == n) (Some w) (of_filing n ws)
put_in ws zero w within below n = refl
put_in [] (suc i) w within below n = absurd (omega arith)
put_in (x ∷ xs) (suc i) w within below n =
    step x w n (of_filing n (insert xs i w)) (of_filing n xs) (lower_is_other x.filing w.filing (first_below w.filing x xs i below))
    (put_in xs i w (omega arith) (rest_below w.filing x xs i below) n)

pub put_in_ascends : {V : Type 0} (a : ℕ) (ws : List (OfFiling V)) (i : ℕ) (w : OfFiling V) → Ascends a ws → a ≤ w.filing → i ≤ length ws → AreBelow w.filing ws i → IsBehind w.filing ws i
    → Ascends a (insert ws i w)
put_in_ascends a [] zero w up low within below behind = (low, tt)
put_in_ascends a (x ∷ xs) zero w up low within below behind =
    let more = behind x (omega arith) in
    (low, (omega arith, up.1))
put_in_ascends a [] (suc i) w up low within below behind = absurd (omega arith)
put_in_ascends a (x ∷ xs) (suc i) w up low within below behind =
    let first = first_below w.filing x xs i below in
    let lower : x.filing + 1 ≤ w.filing = grind (arith, nat_tests, first) in
    (up.0, put_in_ascends (x.filing + 1) xs i w up.1 lower (omega arith) (rest_below w.filing x xs i below) (λ d inside. behind d (omega arith)))

-- ---- the first ones

pub fewer : {X : Type 0} (P : X → Type 0) (n m : ℕ) (xs : List X) → m ≤ n → AllByRecursion P (take n xs) → AllByRecursion P (take m xs)
fewer P n zero xs less all = tt
fewer P zero (suc m) xs less all = absurd (omega arith)
fewer P (suc n) (suc m) [] less all = tt
fewer P (suc n) (suc m) (x ∷ xs) less all = (all.0, fewer P n m xs (omega arith) all.1)

pub one_further : {X : Type 0} (P : X → Type 0) (n : ℕ) (xs : List X) (d : X) → n < length xs → AllByRecursion P (take n xs) → P (get_or xs n d) → AllByRecursion P (take (suc n) xs)
one_further P n [] d within all is = absurd (omega arith)
one_further P zero (x ∷ xs) d within all is = (is, tt)
one_further P (suc n) (x ∷ xs) d within all is = (all.0, one_further P n xs d (omega arith) all.1 is)

pub among_first : {X : Type 0} (P : X → Type 0) (n : ℕ) (xs : List X) (k : ℕ) (d : X) → k < n → k < length xs → AllByRecursion P (take n xs) → P (get_or xs k d)
among_first P n [] k d less within all = absurd (omega arith)
among_first P zero (x ∷ xs) k d less within all = absurd (omega arith)
among_first P (suc n) (x ∷ xs) zero d less within all = all.0
among_first P (suc n) (x ∷ xs) (suc k) d less within all = among_first P n xs k d (omega arith) (omega arith) all.1

pub first_written : {X : Type 0} (P : X → Type 0) (n : ℕ) (xs : List X) (i : ℕ) (y : X) → AllByRecursion P (take n xs) → (i < n → P y) → AllByRecursion P (take n (set xs i y))
first_written P zero xs i y all is = tt
first_written P (suc n) [] i y all is = tt
first_written P (suc n) (x ∷ xs) zero y all is = (is (omega arith), all.1)
first_written P (suc n) (x ∷ xs) (suc i) y all is = (all.0, first_written P n xs i y all.1 (λ less. is (omega arith)))

pub first_put_in : {X : Type 0} (P : X → Type 0) (n : ℕ) (xs : List X) (i : ℕ) (y : X) → i ≤ length xs → AllByRecursion P (take n xs) → (i < n → P y) → AllByRecursion P (take n (insert xs i y))
first_put_in P zero xs i y within all is = tt
first_put_in P (suc n) xs zero y within all is = (is (omega arith), fewer P (suc n) n xs (omega arith) all)
first_put_in P (suc n) [] (suc i) y within all is = absurd (omega arith)
first_put_in P (suc n) (x ∷ xs) (suc i) y within all is = (all.0, first_put_in P n xs i y (omega arith) all.1 (λ less. is (omega arith)))

-- ---- values

-- the value of what is put is that of its filing
pub value_put : {V : Type 0} (w : OfFiling V) (n : ℕ) (new old : List (OfFiling V)) → of_filing n new ≡ cond (w.filing == n) (Some w) (of_filing n old)
    → value_in n new ≡ cond (w.filing == n) (Some w.value) (value_in n old)
value_put w n new old is =
    ap (option_map (λ x. x.value)) is
    ∙ elim (w.filing == n) as (λ b. option_map (λ x. x.value) (cond b (Some w) (of_filing n old)) ≡ cond b (Some w.value) (value_in n old)) [
      | true ↦ refl
      | false ↦ refl
    ]

-- ---- how many pass a test

one_for_another : (new old a b n : ℕ) → new ≡ b + n → old ≡ a + n → new ≤ old + b
one_for_another new old a b n is was = omega arith

more_behind : (new old a b n m : ℕ) → new ≡ a + m → old ≡ a + n → m ≤ n + b → new ≤ old + b
more_behind new old a b n m is was less = omega arith

pub counted_written : {X : Type 0} (t : X → Bool) (xs : List X) (i : ℕ) (y : X) → count_by t (set xs i y) ≤ count_by t xs + cond (t y) 1 0
counted_written t [] i y = omega arith
counted_written t (x ∷ xs) zero y =
    one_for_another (count_by t (y ∷ xs)) (count_by t (x ∷ xs)) (cond (t x) 1 0) (cond (t y) 1 0) (count_by t xs)
    (sum_by-cons (λ z. cond (t z) 1 0) y xs) (sum_by-cons (λ z. cond (t z) 1 0) x xs)
counted_written t (x ∷ xs) (suc i) y =
    more_behind (count_by t (x ∷ set xs i y)) (count_by t (x ∷ xs)) (cond (t x) 1 0) (cond (t y) 1 0) (count_by t xs) (count_by t (set xs i y))
    (sum_by-cons (λ z. cond (t z) 1 0) x (set xs i y)) (sum_by-cons (λ z. cond (t z) 1 0) x xs) (counted_written t xs i y)

same_is_up_to : (n m : ℕ) → n ≡ m → n ≤ m
same_is_up_to n m same = omega arith

pub counted_put_in : {X : Type 0} (t : X → Bool) (xs : List X) (i : ℕ) (y : X) → count_by t (insert xs i y) ≤ count_by t xs + cond (t y) 1 0
counted_put_in t xs i y = same_is_up_to (count_by t (insert xs i y)) (count_by t xs + cond (t y) 1 0) (sum_by-insert (λ z. cond (t z) 1 0) xs i y)
