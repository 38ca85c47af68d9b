-- Where the first element that passes a test stands, and what a push or a write makes of it.
use Rattle.std.proofs.Common.{◌≡◌, ℕ, ◌+◌, Bool, true, false, cond, not, ◌||◌, nat_lt, List, [], ◌∷◌, ◌++◌, length, get_or, set, Option, Some, None, is_some, option_map, find, position, refl, sym, ap, subst, ◌∙◌, arith}
use Rattle.std.specs.List.{list_any, slice_get, position_or_len}
use Rattle.std.specs.Option.{option_or}
use Rattle.std.proofs.lemmas.Bool.{false≢true}
use Rattle.std.proofs.lemmas.List.Folds.{find_at, position_or_len-set, position_or_len_push}
use Rattle.std.proofs.lemmas.List.Sums.{prefix_len-le-length}
use Rattle.std.proofs.lemmas.Grind.{common_steps}

is_some-mapped : (o : Option ℕ) → is_some (option_map (λ n. 1 + n) o) ≡ is_some o
is_some-mapped None = refl
is_some-mapped (Some n) = refl

pub is_none_of : {X : Type 0} (o : Option X) → is_some o ≡ false → o ≡ None
is_none_of None h = refl
is_none_of (Some x) h = absurd (false≢true (sym h))

-- the element that is found passes
pub find_passes : {X : Type 0} (p : X → Bool) (xs : List X) (x : X) → find p xs ≡ Some x → p x ≡ true
find_passes p [] x h = cc
find_passes p (y ∷ ys) x h =
    elim (p y) as (λ b. p y ≡ b → cond b (Some y) (find p ys) ≡ Some x → p x ≡ true) [
      | true ↦ λ e g. let same : y ≡ x = cc in subst (λ z. p z ≡ true) same e
      | false ↦ λ e g. find_passes p ys x g
    ] refl h

-- one is found exactly where some element passes
pub is_some-find : {X : Type 0} (p : X → Bool) (xs : List X) → is_some (find p xs) ≡ list_any p xs
is_some-find p [] = refl
is_some-find p (y ∷ ys) =
    elim (p y) as (λ b. is_some (cond b (Some y) (find p ys)) ≡ (b || list_any p ys)) [
      | true ↦ refl
      | false ↦ is_some-find p ys
    ]

-- the index in a list with one more in front
pub position-cons : {X : Type 0} (p : X → Bool) (x : X) (xs : List X) → position p (x ∷ xs) ≡ cond (p x) (Some 0) (option_map (λ n. 1 + n) (position p xs))
position-cons p x xs =
    elim (p x) as (λ b. cond (nat_lt (cond (not b) (1 + position_or_len p xs) 0) (length (x ∷ xs))) (Some (cond (not b) (1 + position_or_len p xs) 0)) None ≡ cond b (Some 0) (option_map (λ n. 1 + n) (position p xs))) [
      | true ↦ grind (arith, common_steps)
      | false ↦ grind (arith, common_steps)
    ]

-- it is the first that passes
pub position-at : {X : Type 0} (p : X → Bool) (xs : List X) (i : ℕ) → position p xs ≡ Some i → position_or_len p xs ≡ i
position-at p xs i h =
    elim (nat_lt (position_or_len p xs) (length xs)) as (λ b. cond b (Some (position_or_len p xs)) None ≡ Some i → position_or_len p xs ≡ i) [
      | true ↦ λ g. cc
      | false ↦ λ g. cc
    ] h

-- what is found stands at its index
pub find-position : {X : Type 0} (p : X → Bool) (xs : List X) (i : ℕ) → position p xs ≡ Some i → find p xs ≡ slice_get xs i
find-position p xs i h = find_at p xs ∙ ap (λ n. slice_get xs n) (position-at p xs i h)

-- there is an index exactly where some element passes
pub is_some-position : {X : Type 0} (p : X → Bool) (xs : List X) → is_some (position p xs) ≡ list_any p xs
is_some-position p [] = refl
is_some-position p (y ∷ ys) =
    ap is_some (position-cons p y ys)
    ∙ elim (p y) as (λ b. is_some (cond b (Some 0) (option_map (λ n. 1 + n) (position p ys))) ≡ (b || list_any p ys)) [
      | true ↦ refl
      | false ↦ is_some-mapped (position p ys) ∙ is_some-position p ys
    ]

-- what has no index is not found
pub find-none : {X : Type 0} (p : X → Bool) (xs : List X) → position p xs ≡ None → find p xs ≡ None
find-none p xs h = is_none_of (find p xs) (is_some-find p xs ∙ sym (is_some-position p xs) ∙ ap is_some h)

-- a write of an element that passes as the one before leaves the index
pub position-set : {X : Type 0} (p : X → Bool) (xs : List X) (i : ℕ) (y d : X) → p y ≡ p (get_or xs i d) → position p (set xs i y) ≡ position p xs
position-set p xs i y d h = grind (arith, common_steps, position_or_len-set)

-- the index after a push
pub position_push : {X : Type 0} (p : X → Bool) (xs : List X) (y : X) → position p (xs ++ y ∷ []) ≡ option_or (position p xs) (cond (p y) (Some (length xs)) None)
position_push p xs y = grind (arith, common_steps, position_or_len_push, prefix_len-le-length)
