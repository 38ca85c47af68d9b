-- Lemmas on filters, tests and what elements bring.
use Rattle.std.proofs.Common.{◌≡◌, ℕ, ◌+◌, Bool, true, false, cond, ◌||◌, List, [], ◌∷◌, ◌++◌, filter, filter_map, flat_map, Option, Some, None, inl, inr, refl, sym, ap, ◌∙◌, subst, ⊎_elim, arith}
use Rattle.std.specs.List.{AllByRecursion, cons_option, list_any}
use Rattle.std.proofs.lemmas.Bool.{cases_Bool, cond-false, cond-true, false≢true, or_left, or_right}
use Rattle.gb_base.specs.Ascending.{AscendsBy}
use Rattle.gb_base.proofs.Ascending.{ascends_later}
use Rattle.gb_base.proofs.Members.{In}

pub filter_takes : {X : Type 0} (p : X → Bool) (x : X) (xs : List X) → p x ≡ true → filter p (x ∷ xs) ≡ x ∷ filter p xs
filter_takes p x xs is = cond-true (p x) _ _ is

pub filter_skips : {X : Type 0} (p : X → Bool) (x : X) (xs : List X) → p x ≡ false → filter p (x ∷ xs) ≡ filter p xs
filter_skips p x xs fails = cond-false (p x) _ _ fails

-- what each element has, each that is left has
pub all_filtered : {X : Type 0} (P : X → Type 0) (p : X → Bool) (xs : List X) → AllByRecursion P xs → AllByRecursion P (filter p xs)
all_filtered P p [] all = tt
all_filtered P p (x ∷ xs) all =
    elim (p x) as (λ b. AllByRecursion P (cond b (x ∷ filter p xs) (filter p xs))) [
      | true ↦ (all.0, all_filtered P p xs all.1)
      | false ↦ all_filtered P p xs all.1
    ]

-- what is left of a list in ascending order is in this order
pub filter_ascends : {X : Type 0} (f : X → ℕ) (p : X → Bool) (a : ℕ) (xs : List X) → AscendsBy f a xs → AscendsBy f a (filter p xs)
filter_ascends f p a [] up = tt
filter_ascends f p a (x ∷ xs) up =
    let first = up.0 in
    let rest = filter_ascends f p (f x + 1) xs up.1 in
    elim (p x) as (λ b. AscendsBy f a (cond b (x ∷ filter p xs) (filter p xs))) [
      | true ↦ (up.0, rest)
      | false ↦ ascends_later f (f x + 1) a (filter p xs) (omega arith) rest
    ]

-- where none passes nothing is left
pub filter_none : {X : Type 0} (p : X → Bool) (xs : List X) → AllByRecursion (λ x. p x ≡ false) xs → filter p xs ≡ []
filter_none p [] all = refl
filter_none p (x ∷ xs) all = filter_skips p x xs all.0 ∙ filter_none p xs all.1

-- tests that agree on the elements
pub filter_alike : {X : Type 0} (p q : X → Bool) (xs : List X) → AllByRecursion (λ x. p x ≡ q x) xs → filter p xs ≡ filter q xs
filter_alike p q [] all = refl
filter_alike p q (x ∷ xs) all = λ i. cond (all.0 i) (x ∷ filter_alike p q xs all.1 i) (filter_alike p q xs all.1 i)

pub flat_map_alike : {X Y : Type 0} (f g : X → List Y) (xs : List X) → AllByRecursion (λ x. f x ≡ g x) xs → flat_map f xs ≡ flat_map g xs
flat_map_alike f g [] all = refl
flat_map_alike f g (x ∷ xs) all = λ i. all.0 i ++ flat_map_alike f g xs all.1 i

-- where each fails a test or is left out, none of those left passes it
pub none_left : {X : Type 0} (p q : X → Bool) (xs : List X) → AllByRecursion (λ x. q x ≡ false) xs → list_any q (filter p xs) ≡ false
none_left p q [] all = refl
none_left p q (x ∷ xs) all =
    ⊎_elim
    (λ is. ap (list_any q) (filter_takes p x xs is) ∙ (rw all.0 (none_left p q xs all.1)))
    (λ fails. ap (list_any q) (filter_skips p x xs fails) ∙ none_left p q xs all.1)
    (cases_Bool (p x))

-- what each element has, by membership
pub all_in : {X : Type 0} (P : X → Type 0) (xs : List X) → ((x : X) → In x xs → P x) → AllByRecursion P xs
all_in P [] each = tt
all_in P (x ∷ xs) each = (each x (inl refl), all_in P xs (λ y there. each y (inr there)))

pub in_all : {X : Type 0} (P : X → Type 0) (xs : List X) (x : X) → AllByRecursion P xs → In x xs → P x
in_all P [] x all there = absurd there
in_all P (y ∷ xs) x all there = ⊎_elim (λ e. subst P e all.0) (λ more. in_all P xs x all.1 more) there

-- an element of what a filter leaves
pub of_filter : {X : Type 0} (p : X → Bool) (xs : List X) (y : X) → In y (filter p xs) → In y xs × (p y ≡ true)
of_filter p [] y there = absurd there
of_filter p (x ∷ xs) y there =
    ⊎_elim
    (λ is. ⊎_elim (λ e. (inl e, ap p (sym e) ∙ is)) (λ more. let rest = of_filter p xs y more in (inr rest.0, rest.1)) (subst (In y) (filter_takes p x xs is) there))
    (λ fails. let rest = of_filter p xs y (subst (In y) (filter_skips p x xs fails) there) in (inr rest.0, rest.1))
    (cases_Bool (p x))

-- an element of what the elements give
pub of_filter_map : {X Y : Type 0} (h : X → Option Y) (xs : List X) (y : Y) → In y (filter_map h xs) → (x : X) × In x xs × (h x ≡ Some y)
of_filter_map h [] y there = absurd there
of_filter_map {X} {Y} h (x ∷ xs) y there =
    elim (h x) as (λ o. h x ≡ o → In y (cons_option o (filter_map h xs)) → (z : X) × In z (x ∷ xs) × (h z ≡ Some y)) [
      | None ↦ λ _ more. (let rest = of_filter_map h xs y more in (rest.0, inr rest.1, rest.2))
      | Some z ↦ λ is here. ⊎_elim (λ e. (x, inl refl, is ∙ ap Some e)) (λ more. let rest = of_filter_map h xs y more in (rest.0, inr rest.1, rest.2)) here
    ] refl there

-- what passes is left, and what an element gives is there
pub in_filter : {X : Type 0} (p : X → Bool) (xs : List X) (y : X) → In y xs → p y ≡ true → In y (filter p xs)
in_filter p [] y there passes = absurd there
in_filter p (x ∷ xs) y there passes =
    ⊎_elim
    (λ e. subst (In y) (sym (filter_takes p x xs (ap p e ∙ passes))) (inl e))
    (λ more. ⊎_elim
    (λ is. subst (In y) (sym (filter_takes p x xs is)) (inr (in_filter p xs y more passes)))
    (λ fails. subst (In y) (sym (filter_skips p x xs fails)) (in_filter p xs y more passes))
    (cases_Bool (p x)))
    there

pub in_filter_map : {X Y : Type 0} (h : X → Option Y) (xs : List X) (x : X) (y : Y) → In x xs → h x ≡ Some y → In y (filter_map h xs)
in_filter_map h [] x y there is = absurd there
in_filter_map h (z ∷ xs) x y there is =
    ⊎_elim
    (λ e. subst (λ o. In y (cons_option o (filter_map h xs))) (sym (ap h e ∙ is)) (inl refl))
    (λ more. elim (h z) as (λ o. In y (cons_option o (filter_map h xs))) [ None ↦ in_filter_map h xs x y more is | Some w ↦ inr (in_filter_map h xs x y more is) ])
    there

-- a test holds of some element where it holds of this one, and the other way round
pub any_in : {X : Type 0} (p : X → Bool) (xs : List X) (y : X) → In y xs → p y ≡ true → list_any p xs ≡ true
any_in p [] y there passes = absurd there
any_in p (x ∷ xs) y there passes =
    ⊎_elim
    (λ e. or_left (p x) (list_any p xs) (ap p e ∙ passes))
    (λ more. or_right (p x) (list_any p xs) (any_in p xs y more passes))
    there

pub of_any : {X : Type 0} (p : X → Bool) (xs : List X) → list_any p xs ≡ true → (x : X) × In x xs × (p x ≡ true)
of_any p [] is = absurd (false≢true is)
of_any p (x ∷ xs) is =
    ⊎_elim
    (λ passes. (x, inl refl, passes))
    (λ fails. let rest = of_any p xs (sym (ap (λ b. b || list_any p xs) fails) ∙ is) in (rest.0, inr rest.1, rest.2))
    (cases_Bool (p x))
