-- What holds of each element of lists that are mapped, joined or filtered, and what such lists contain.
use Rattle.std.proofs.Common.{◌≡◌, ⊎_elim, ℕ, suc, zero, ◌+◌, ◌-◌, ◌<◌, ◌≤◌, Bool, true, false, cond, ◌||◌, List, [], ◌∷◌, ◌++◌, length, get_or, map, filter, flat_map, slice_get, All, AllPairs, Any, Contains, Some, refl, sym, ap, subst, ◌∙◌, length-append, get_or-append-add, arith}
use Rattle.std.specs.List.{AllByRecursion, enumerate_from, list_any, range_with_len}
use Rattle.std.proofs.lemmas.Bool.{cases_lt}
use Rattle.std.proofs.lemmas.List.{get_or_append_left}
use Rattle.std.proofs.lemmas.List.Concat.{flat_map-cons}
use Rattle.std.proofs.lemmas.List.Elements.{All-contains_itself, Contains-append_left, Contains-append_right, recursion_from_All}
use Rattle.folio_sections.proofs.Unchanged.{all_both, all_weaker}

-- ---- each element

pub all_mapped : {X Y : Type 0} (P : Y → Type 0) (f : X → Y) (xs : List X) → AllByRecursion (λ x. P (f x)) xs → AllByRecursion P (map f xs)
all_mapped P f [] all = tt
all_mapped P f (x ∷ xs) all = (all.0, all_mapped P f xs all.1)

pub all_flat_mapped : {X Y : Type 0} (P : Y → Type 0) (f : X → List Y) (xs : List X) → AllByRecursion (λ x. AllByRecursion P (f x)) xs → AllByRecursion P (flat_map f xs)
all_flat_mapped P f [] all = tt
all_flat_mapped P f (x ∷ xs) all = all_both P (f x) (flat_map f xs) all.0 (all_flat_mapped P f xs all.1)

pub each_so : {X : Type 0} (P : X → Type 0) (xs : List X) → ((x : X) → P x) → AllByRecursion P xs
each_so P [] each = tt
each_so P (x ∷ xs) each = (each x, each_so P xs each)

pub each_mapped : {X Y : Type 0} (P : Y → Type 0) (f : X → Y) (xs : List X) → ((x : X) → P (f x)) → AllByRecursion P (map f xs)
each_mapped P f xs each = all_mapped P f xs (each_so (λ x. P (f x)) xs each)

-- P holds of all that the parts bring together, where it holds of what each part brings, given what is known of the part
pub all_joined : {X Y : Type 0} (P : Y → Type 0) (Q : X → Type 0) (f : X → List Y) (xs : List X) → ((x : X) → Q x → AllByRecursion P (f x)) → AllByRecursion Q xs → AllByRecursion P (flat_map f xs)
all_joined P Q f xs each known = all_flat_mapped P f xs (all_weaker Q (λ x. AllByRecursion P (f x)) xs each known)

pub all_parts : {X Y : Type 0} (P : Y → Type 0) (f : X → List Y) (xs : List X) → ((x : X) → AllByRecursion P (f x)) → AllByRecursion P (flat_map f xs)
all_parts P f xs each = all_flat_mapped P f xs (each_so (λ x. AllByRecursion P (f x)) xs each)

-- what holds of all that a list contains holds of each in turn
pub all_contained : {X : Type 0} (P : X → Type 0) (xs : List X) → ((x : X) → Contains xs x → P x) → AllByRecursion P xs
all_contained P xs each = all_weaker (Contains xs) P xs each (recursion_from_All (Contains xs) xs (All-contains_itself xs))

-- numbers in a row are below what follows them
pub all_in_range : (a n bound : ℕ) → a + n ≤ bound → AllByRecursion (λ k. k < bound) (range_with_len a n)
all_in_range a zero bound within = tt
all_in_range a (suc n) bound within = (omega arith, all_in_range (a + 1) n bound (omega arith))

pub cond_same : {X : Type 0} (b : Bool) (x y : X) → x ≡ y → cond b x y ≡ y
cond_same true x y same = same
cond_same false x y same = refl

-- R holds of all pairs of two lists joined, where it holds of the pairs of each, and of each element of the first with each of the second
pub pairs_append : {X : Type 0} (R : X → X → Type 0) (xs ys : List X) → AllPairs R xs → AllPairs R ys → All (λ x. All (R x) ys) xs → AllPairs R (xs ++ ys)
pairs_append R xs ys first second across i j d less within =
    let long = length-append xs ys in
    ⊎_elim
    (λ j_first.
    let i_is = get_or_append_left xs ys d i (omega arith) in
    let j_is = get_or_append_left xs ys d j j_first in
    rw (i_is, j_is) (first i j d less j_first))
    (λ j_second. let back : length xs + (j - length xs) ≡ j = omega arith in
    let j_is : get_or (xs ++ ys) j d ≡ get_or ys (j - length xs) d = ap (λ k. get_or (xs ++ ys) k d) (sym back) ∙ get_or-append-add xs ys (j - length xs) d in
    ⊎_elim
    (λ i_first.
    let i_is = get_or_append_left xs ys d i i_first in
    rw (i_is, j_is) (across i d i_first (j - length xs) d (omega arith)))
    (λ i_second. let from : length xs + (i - length xs) ≡ i = omega arith in
    let i_is : get_or (xs ++ ys) i d ≡ get_or ys (i - length xs) d = ap (λ k. get_or (xs ++ ys) k d) (sym from) ∙ get_or-append-add xs ys (i - length xs) d in
    rw (i_is, j_is) (second (i - length xs) (j - length xs) d (omega arith) (omega arith)))
    (cases_lt i (length xs)))
    (cases_lt j (length xs))

pub all_paired : {X : Type 0} (P Q : X → Type 0) (xs : List X) → AllByRecursion P xs → AllByRecursion Q xs → AllByRecursion (λ x. P x × Q x) xs
all_paired P Q [] first second = tt
all_paired P Q (x ∷ xs) first second = ((first.0, second.0), all_paired P Q xs first.1 second.1)

pub first_of_both : {X : Type 0} (P : X → Type 0) (xs ys : List X) → AllByRecursion P (xs ++ ys) → AllByRecursion P xs
first_of_both P [] ys all = tt
first_of_both P (x ∷ xs) ys all = (all.0, first_of_both P xs ys all.1)

-- each element of a list is contained in it
pub all_themselves : {X : Type 0} (xs : List X) → AllByRecursion (Contains xs) xs
all_themselves xs = recursion_from_All (Contains xs) xs (All-contains_itself xs)

-- what holds of each element holds of each with its number
pub all_numbered : {X : Type 0} (P : X → Type 0) (n : ℕ) (xs : List X) → AllByRecursion P xs → AllByRecursion (λ numbered. P numbered.1) (enumerate_from n xs)
all_numbered P n [] all = tt
all_numbered P n (x ∷ xs) all = (all.0, all_numbered P (n + 1) xs all.1)

-- what holds of the element at each place, under its number, holds of each with its number
pub all_at_numbers : {X : Type 0} (P : ℕ → X → Type 0) (n : ℕ) (xs : List X) → ((k : ℕ) (x : X) → slice_get xs k ≡ Some x → P (n + k) x) → AllByRecursion (λ numbered. P numbered.0 numbered.1) (enumerate_from n xs)
all_at_numbers P n [] there = tt
all_at_numbers P n (x ∷ xs) there = (
  subst (λ k. P k x) (omega arith) (there 0 x refl),
  all_at_numbers P (n + 1) xs (λ k y is. subst (λ j. P j y) (omega arith) (there (suc k) y is)),
)

-- ---- what is contained

pub contains_first : {X : Type 0} (x : X) (xs : List X) → Contains (x ∷ xs) x
contains_first x xs = (0, omega arith, refl)

pub contains_later : {X : Type 0} (y : X) (xs : List X) (x : X) → Contains xs x → Contains (y ∷ xs) x
contains_later y xs x there = Contains-append_right (y ∷ []) xs x there

pub contains_part : {X Y : Type 0} (f : X → List Y) (xs : List X) (x : X) (y : Y) → Contains xs x → Contains (f x) y → Contains (flat_map f xs) y
contains_part {X = X} f xs x y among here = by xs among.0 among.1 among.2
  where
    by : (zs : List X) (k : ℕ) → k < length zs → get_or zs k x ≡ x → Contains (flat_map f zs) y
    by [] k within is = absurd (omega arith)
    by (z ∷ zs) zero within is =
        subst (λ ys. Contains ys y) (sym (flat_map-cons f z zs))
        (Contains-append_left (f z) (flat_map f zs) y (subst (λ w. Contains (f w) y) (sym is) here))
    by (z ∷ zs) (suc k) within is =
        subst (λ ys. Contains ys y) (sym (flat_map-cons f z zs)) (Contains-append_right (f z) (flat_map f zs) y (by zs k (omega arith) is))

pub contains_kept : {X : Type 0} (p : X → Bool) (xs : List X) (x : X) → p x ≡ true → Contains xs x → Contains (filter p xs) x
contains_kept {X = X} p xs x passes among = by xs among.0 among.1 among.2
  where
    behind : (b : Bool) (z : X) (zs : List X) → Contains zs x → Contains (cond b (z ∷ zs) zs) x
    behind true z zs there = contains_later z zs x there
    behind false z zs there = there

    by : (zs : List X) (k : ℕ) → k < length zs → get_or zs k x ≡ x → Contains (filter p zs) x
    by [] k within is = absurd (omega arith)
    by (z ∷ zs) zero within is =
        subst (λ b. Contains (cond b (z ∷ filter p zs) (filter p zs)) x) (sym (ap p is ∙ passes))
        (subst (λ w. Contains (w ∷ filter p zs) x) (sym is) (contains_first x (filter p zs)))
    by (z ∷ zs) (suc k) within is = behind (p z) z (filter p zs) (by zs k (omega arith) is)

-- some element has what one of them has
pub any_of : {X : Type 0} (P : X → Type 0) (xs : List X) (x : X) → Contains xs x → P x → Any P xs
any_of P xs x among has = (among.0, x, among.1, among.2, has)

pub any_in_first : {X : Type 0} (P : X → Type 0) (xs ys : List X) → Any P xs → Any P (xs ++ ys)
any_in_first P xs ys some = any_of P (xs ++ ys) some.1 (Contains-append_left xs ys some.1 (some.0, some.2, some.3)) some.4

pub any_in_second : {X : Type 0} (P : X → Type 0) (xs ys : List X) → Any P ys → Any P (xs ++ ys)
any_in_second P xs ys some = any_of P (xs ++ ys) some.1 (Contains-append_right xs ys some.1 (some.0, some.2, some.3)) some.4

pub list_any_of : {X : Type 0} (p : X → Bool) (xs : List X) (k : ℕ) (x : X) → slice_get xs k ≡ Some x → p x ≡ true → list_any p xs ≡ true
list_any_of p [] k x is passes = absurd (cc is)
list_any_of p (y ∷ xs) zero x is passes =
    let same : y ≡ x = cc is in
    ap (λ b. b || list_any p xs) (ap p same ∙ passes)
list_any_of p (y ∷ xs) (suc k) x is passes = by (p y) (list_any_of p xs k x is passes)
  where
    by : (b : Bool) → list_any p xs ≡ true → (b || list_any p xs) ≡ true
    by true later = refl
    by false later = later
