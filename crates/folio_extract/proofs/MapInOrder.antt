-- The entries of a map whose keys are numbers, compared with the numbers in order.
use Rattle.std.proofs.Common.{◌≡◌, ℕ, zero, suc, ◌+◌, ◌≤◌, ◌<◌, Bool, true, false, cond, eqb, nat_lt, List, [], ◌∷◌, map, Option, Some, None, option_map, filter_map, is_some, refl, sym, ap, subst, ◌∙◌, ⊎_elim, arith}
use Rattle.std.specs.List.{AllByRecursion, cons_option, range_with_len}
use Rattle.std.specs.List.Sorted.{IsStrictlySortedBy}
use Rattle.std.specs.Map.{keys_of, lookup}
use Rattle.std.specs.Ordering.{is_eq, is_lt, nat_cmp}
use Rattle.std.specs.declared.cmp.Ordering.TheVariants.{Less, Equal, Greater}
use Rattle.std.proofs.lemmas.Bool.{cases_lt, false≢true}
use Rattle.std.proofs.lemmas.Bool.Decides.{nat_tests}

-- the keys ascend, and none is below this number
abbrev pub RisesFrom : ℕ → List (ℕ × ℕ) → Type 0
RisesFrom from [] = Unit {0}
RisesFrom from (e ∷ es) = (from ≤ e.0) × RisesFrom (e.0 + 1) es

-- the value at a number
abbrev pub found : ℕ → List (ℕ × ℕ) → Option ℕ
found n es = lookup (λ k. is_eq (nat_cmp n k)) es

some_is_not_none : {X : Type 0} {x : X} → Some x ≡ None → ⊥
some_is_not_none is = false≢true (sym (ap is_some is))

less : (x y : ℕ) → nat_cmp x y ≡ Less → x < y
less x y is =
    elim (nat_lt x y) as (λ b. nat_lt x y ≡ b → cond b Less (cond (eqb x y) Equal Greater) ≡ Less → x < y) [
      | true ↦ λ below _. grind (arith, nat_tests, below)
      | false ↦ λ _. elim (eqb x y) as (λ b. cond b Equal Greater ≡ Less → x < y) [
        | true ↦ λ tied. absurd (false≢true (ap is_lt tied))
        | false ↦ λ more. absurd (false≢true (ap is_lt more))
      ]
    ] refl is

here : (n k : ℕ) → n ≡ k → is_eq (nat_cmp n k) ≡ true
here n k same = grind (arith, nat_tests, same)

pub apart : (n k : ℕ) → n < k → is_eq (nat_cmp n k) ≡ false
apart n k below = grind (arith, nat_tests, below)

pub behind : (n k : ℕ) → k < n → is_eq (nat_cmp n k) ≡ false
behind n k above = grind (arith, nat_tests, above)

-- where nothing stood, nothing stands after a removal
pub none_left : (b : Bool) (o : Option ℕ) → o ≡ None → cond b None o ≡ None
none_left true o none = refl
none_left false o none = none

-- ---- what is found

at_first : (n : ℕ) (e : ℕ × ℕ) (es : List (ℕ × ℕ)) → n ≡ e.0 → found n (e ∷ es) ≡ Some e.1
at_first n e es same = ap (λ b. cond b (Some e.1) (found n es)) (here n e.0 same)

past_first : (n : ℕ) (e : ℕ × ℕ) (es : List (ℕ × ℕ)) → e.0 < n → found n (e ∷ es) ≡ found n es
past_first n e es above = ap (λ b. cond b (Some e.1) (found n es)) (behind n e.0 above)

ahead_of_first : (n : ℕ) (e : ℕ × ℕ) (es : List (ℕ × ℕ)) → n < e.0 → found n (e ∷ es) ≡ found n es
ahead_of_first n e es below = ap (λ b. cond b (Some e.1) (found n es)) (apart n e.0 below)

ahead_of_all : (n from : ℕ) (es : List (ℕ × ℕ)) → RisesFrom from es → n < from → found n es ≡ None
ahead_of_all n from [] rises below = refl
ahead_of_all n from (e ∷ es) rises below =
    let le = rises.0 in
    ahead_of_first n e es (omega (arith, below, le)) ∙ ahead_of_all n (e.0 + 1) es rises.1 (omega (arith, below, le))

-- ---- a map's keys rise

above_all : (k : ℕ) (ks : List ℕ) → AllByRecursion (λ y. nat_cmp k y ≡ Less) ks → AllByRecursion (λ y. k + 1 ≤ y) ks
above_all k [] all = tt
above_all k (y ∷ ks) all = (let lt = less k y all.0 in omega (arith, lt), above_all k ks all.1)

rises_from : (from : ℕ) (es : List (ℕ × ℕ)) → AllByRecursion (λ k. from ≤ k) (keys_of es) → IsStrictlySortedBy nat_cmp (keys_of es) → RisesFrom from es
unfolding IsStrictlySortedBy
rises_from from [] all sorted = tt
rises_from from (e ∷ es) all sorted = (all.0, rises_from (e.0 + 1) es (above_all e.0 (keys_of es) sorted.0) sorted.1)

from_one : (es : List (ℕ × ℕ)) → found 0 es ≡ None → AllByRecursion (λ k. 1 ≤ k) (keys_of es)
from_one [] none = tt
from_one (e ∷ es) none =
    ⊎_elim
    (λ above. (omega (arith, above), from_one es (sym (ahead_of_first 0 e es above) ∙ none)))
    (λ zero. absurd (some_is_not_none (sym (at_first 0 e es (omega (arith, zero))) ∙ none)))
    (cases_lt 0 e.0)

-- where nothing stands at 0, the keys ascend from 1 on
pub rises_from_one : (es : List (ℕ × ℕ)) → found 0 es ≡ None → IsStrictlySortedBy nat_cmp (keys_of es) → RisesFrom 1 es
rises_from_one es none sorted = rises_from 1 es (from_one es none) sorted

-- ---- together

-- A function of the map's entries gives the same list as one of the numbers in order, where that gives nothing for a number that is no key.
pub in_order : {X : Type 0} (f : ℕ → Option X) (g : ℕ × ℕ → X) (from n : ℕ) (es : List (ℕ × ℕ)) → RisesFrom from es
    → ((m : ℕ) → from ≤ m → f m ≡ option_map (λ v. g (m, v)) (found m es)) → ((m : ℕ) → from + n ≤ m → f m ≡ None)
    → map g es ≡ filter_map f (range_with_len from n)
in_order f g from zero [] rises made beyond = refl
in_order f g from zero (e ∷ es) rises made beyond =
    let le = rises.0 in
    absurd (some_is_not_none (sym (made e.0 le ∙ ap (option_map (λ v. g (e.0, v))) (at_first e.0 e es refl)) ∙ beyond e.0 (omega (arith, le))))
in_order f g from (suc n) [] rises made beyond =
    in_order f g (from + 1) n [] tt (λ m le. made m (omega (arith, le))) (λ m le. beyond m (omega (arith, le)))
    ∙ sym (ap (λ o. cons_option o (filter_map f (range_with_len (from + 1) n))) (made from (omega arith)))
in_order f g from (suc n) (e ∷ es) rises made beyond =
    let le = rises.0 in
    ⊎_elim
    (λ ahead.
    in_order f g (from + 1) n (e ∷ es) (omega (arith, ahead), rises.1) (λ m le. made m (omega (arith, le))) (λ m le. beyond m (omega (arith, le)))
    ∙ sym (ap (λ o. cons_option o (filter_map f (range_with_len (from + 1) n)))
    (made from (omega arith) ∙ ap (option_map (λ v. g (from, v))) (ahead_of_all from e.0 (e ∷ es) (omega arith, rises.1) ahead))))
    (λ most.
    let same : from ≡ e.0 = omega (arith, most, le) in
    ap (λ xs. g e ∷ xs) (in_order f g (from + 1) n es (subst (λ k. RisesFrom (k + 1) es) (sym same) rises.1)
    (λ m above. made m (omega (arith, above)) ∙ ap (option_map (λ v. g (m, v))) (past_first m e es (omega (arith, above, same))))
    (λ m above. beyond m (omega (arith, above))))
    ∙ sym (ap (λ o. cons_option o (filter_map f (range_with_len (from + 1) n)))
    (made from (omega arith) ∙ ap (option_map (λ v. g (from, v))) (at_first from e es same) ∙ ap (λ k. Some (g (k, e.1))) same)))
    (cases_lt from e.0)
