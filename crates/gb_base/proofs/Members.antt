-- Elements of lists, and what a search among them finds.
use Rattle.std.proofs.Common.{◌≡◌, ◌⊎◌, ℕ, zero, suc, ◌+◌, ◌<◌, ◌≤◌, Bool, true, List, [], ◌∷◌, ◌++◌, map, flat_map, find, Some, inl, inr, refl, sym, ap, ◌∙◌, subst, ⊎_elim, arith}
use Rattle.std.specs.List.{range_with_len}
use Rattle.std.proofs.lemmas.Bool.{cases_Bool, true≢false, cases_lt}

-- y is an element
abbrev pub In : {X : Type 0} → X → List X → Type 0
In y [] = ⊥
In y (x ∷ xs) = (x ≡ y) ⊎ In y xs

-- a search finds an element, which passes the test
pub record Found {X : Type 0} (p : X → Bool) (xs : List X) : Type 0 where
  pub item : X
  pub is : find p xs ≡ Some item
  pub there : In item xs
  pub passes : p item ≡ true

-- a search finds something where an element passes
pub find_complete : {X : Type 0} (p : X → Bool) (xs : List X) (y : X) → In y xs → p y ≡ true → Found p xs
find_complete p [] y there passes = absurd there
find_complete {X} p (x ∷ xs) y there passes =
    ⊎_elim
    (λ yes. record { item = x; is = rw yes refl; there = inl refl; passes = yes })
    (λ no.
    let later : Found p xs = ⊎_elim (λ e. absurd (true≢false (sym passes ∙ ap p (sym e) ∙ no))) (λ more. find_complete p xs y more passes) there in
    record { item = later.item; is = rw no later.is; there = inr later.there; passes = later.passes })
    (cases_Bool (p x))

-- what a search finds is an element that passes
pub find_sound : {X : Type 0} (p : X → Bool) (xs : List X) (y : X) → find p xs ≡ Some y → In y xs × (p y ≡ true)
find_sound p [] y e = absurd (grind arith)
find_sound {X} p (x ∷ xs) y e =
    ⊎_elim
    (λ yes. let same : x ≡ y = (let here : Some x ≡ Some y = (let e = rw yes at e in e) in grind arith) in (inl same, subst (λ z. p z ≡ true) same yes))
    (λ no. let rest = find_sound p xs y (let e = rw no at e in e) in (inr rest.0, rest.1))
    (cases_Bool (p x))

pub in_append_left : {X : Type 0} (xs ys : List X) (z : X) → In z xs → In z (xs ++ ys)
in_append_left [] ys z there = absurd there
in_append_left (x ∷ xs) ys z there = ⊎_elim (λ e. inl e) (λ more. inr (in_append_left xs ys z more)) there

pub in_append_right : {X : Type 0} (xs ys : List X) (z : X) → In z ys → In z (xs ++ ys)
in_append_right [] ys z there = there
in_append_right (x ∷ xs) ys z there = inr (in_append_right xs ys z there)

pub of_append : {X : Type 0} (xs ys : List X) (z : X) → In z (xs ++ ys) → In z xs ⊎ In z ys
of_append [] ys z there = inr there
of_append (x ∷ xs) ys z there =
    ⊎_elim (λ e. inl (inl e)) (λ more. ⊎_elim (λ h. inl (inr h)) (λ h. inr h) (of_append xs ys z more)) there

-- numbers in a row
pub in_range : (a n k : ℕ) → a ≤ k → k < a + n → In k (range_with_len a n)
in_range a zero k low high = absurd (omega arith)
in_range a (suc n) k low high =
    ⊎_elim (λ more. inr (in_range (a + 1) n k (omega arith) (omega arith))) (λ same. inl (omega arith)) (cases_lt a k)

pub of_range : (a n k : ℕ) → In k (range_with_len a n) → (a ≤ k) × (k < a + n)
of_range a zero k there = absurd there
of_range a (suc n) k there =
    ⊎_elim (λ e. (omega arith, omega arith)) (λ more. let h = of_range (a + 1) n k more in (omega (arith, h.0), omega (arith, h.1))) there

pub in_map : {X Y : Type 0} (f : X → Y) (xs : List X) (x : X) → In x xs → In (f x) (map f xs)
in_map f [] x there = absurd there
in_map f (y ∷ xs) x there = ⊎_elim (λ e. inl (ap f e)) (λ more. inr (in_map f xs x more)) there

pub of_map : {X Y : Type 0} (f : X → Y) (xs : List X) (y : Y) → In y (map f xs) → (x : X) × In x xs × (f x ≡ y)
of_map f [] y there = absurd there
of_map f (x ∷ xs) y there =
    ⊎_elim (λ e. (x, inl refl, e)) (λ more. let h = of_map f xs y more in (h.0, inr h.1, h.2)) there

pub in_flat_map : {X Y : Type 0} (f : X → List Y) (xs : List X) (x : X) (y : Y) → In x xs → In y (f x) → In y (flat_map f xs)
in_flat_map f [] x y there here = absurd there
in_flat_map f (z ∷ xs) x y there here =
    ⊎_elim (λ e. in_append_left (f z) (flat_map f xs) y (subst (λ w. In y (f w)) (sym e) here))
    (λ more. in_append_right (f z) (flat_map f xs) y (in_flat_map f xs x y more here)) there

pub of_flat_map : {X Y : Type 0} (f : X → List Y) (xs : List X) (y : Y) → In y (flat_map f xs) → (x : X) × In x xs × In y (f x)
of_flat_map f [] y there = absurd there
of_flat_map f (x ∷ xs) y there =
    ⊎_elim (λ here. (x, inl refl, here)) (λ more. let h = of_flat_map f xs y more in (h.0, inr h.1, h.2))
    (of_append (f x) (flat_map f xs) y there)
