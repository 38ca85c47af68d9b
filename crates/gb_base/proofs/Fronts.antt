-- Fronts of lists: what passes a test at the front alone, and the last element.
use Rattle.std.proofs.Common.{◌≡◌, ℕ, zero, suc, ◌-◌, ◌<◌, ◌≤◌, Bool, true, false, List, [], ◌∷◌, filter, length, take, get_or, slice_get, Some, None, refl, sym, ap, ◌∙◌, arith}
use Rattle.std.specs.List.{last_or}

-- none passes
pub none_pass : {X : Type 0} (p : X → Bool) (xs : List X) → ((k : ℕ) (d : X) → 0 ≤ k → k < length xs → p (get_or xs k d) ≡ false) → filter p xs ≡ []
none_pass p [] fail = refl
none_pass p (x ∷ xs) fail =
    let first : p x ≡ false = fail zero x (omega arith) (omega arith) in
    rw first (none_pass p xs (λ k d low within. fail (suc k) d (omega arith) (omega arith)))

-- what passes stands at the front
pub front_passes : {X : Type 0} (p : X → Bool) (xs : List X) (i : ℕ) → i ≤ length xs
    → ((k : ℕ) (d : X) → 0 ≤ k → k < i → p (get_or xs k d) ≡ true)
    → ((k : ℕ) (d : X) → i ≤ k → k < length xs → p (get_or xs k d) ≡ false)
    → take i xs ≡ filter p xs
front_passes p [] zero within pass fail = refl
front_passes p [] (suc i) within pass fail = refl
front_passes p (x ∷ xs) zero within pass fail = sym (none_pass p (x ∷ xs) fail)
front_passes p (x ∷ xs) (suc i) within pass fail =
    let first : p x ≡ true = pass zero x (omega arith) (omega arith) in
    rw first (ap (λ rest. x ∷ rest) (front_passes p xs i (omega arith)
    (λ k d low less. pass (suc k) d (omega arith) (omega arith)) (λ k d low less. fail (suc k) d (omega arith) (omega arith))))

-- ---- the last one

last_from : {X : Type 0} (x : X) (xs : List X) → slice_get (x ∷ xs) (length xs) ≡ last_or (Some x) xs
last_from x [] = refl
last_from x (y ∷ ys) = last_from y ys

pub last_is : {X : Type 0} (xs : List X) → slice_get xs (length xs - 1) ≡ last_or None xs
last_is [] = refl
last_is (x ∷ xs) =
    let behind : length (x ∷ xs) - 1 ≡ length xs = omega arith in
    ap (λ i. slice_get (x ∷ xs) i) behind ∙ last_from x xs
