-- Where the place of a right stands among places of different rights.
use Rattle.std.proofs.Common.{◌≡◌, ℕ, zero, suc, ◌+◌, ◌<◌, Bool, true, false, cond, not, ◌||◌, List, [], ◌∷◌, Some, find, get_or, length, refl, sym, ap, ◌∙◌, subst, arith}
use Rattle.std.specs.List.{list_any, position_or_len}
use Rattle.std.specs.Option.{option_map_or}
use Rattle.std.proofs.lemmas.Bool.{false≢true, or_left, or_right}
use Rattle.gb_base.specs.RightNo.{RightNo, same_right}
use Rattle.std.proofs.lemmas.List.Sums.{passes_at_first}
use Rattle.gb_base.proofs.SameRights.{right_from, right_is}
use Rattle.rank_slots.specs.Groups.{is_of}
use Rattle.rank_slots.specs.Payments.{claim_of}
use Rattle.rank_slots.specs.declared.places.Place.{Place}
use Rattle.rank_slots.proofs.PlaceLines.{AreDifferent, different_behind, none_behind}

-- the first that passes is one of them, where one does
pub first_within : {X : Type 0} (p : X → Bool) (xs : List X) → list_any p xs ≡ true → position_or_len p xs < length xs
first_within p [] there = absurd (false≢true there)
first_within p (x ∷ xs) there =
    elim (p x) as (λ b. (b || list_any p xs) ≡ true → cond (not b) (1 + position_or_len p xs) 0 < length (x ∷ xs)) [
      | true ↦ λ here. omega arith
      | false ↦ λ more. let rest = first_within p xs more in omega arith
    ] there

pub any_at : {X : Type 0} (p : X → Bool) (xs : List X) (n : ℕ) (d : X) → n < length xs → p (get_or xs n d) ≡ true → list_any p xs ≡ true
any_at p [] n d within passes = absurd (omega (arith, within))
any_at p (x ∷ xs) zero d within passes = or_left (p x) (list_any p xs) passes
any_at p (x ∷ xs) (suc n) d within passes = or_right (p x) (list_any p xs) (any_at p xs n d (omega (arith, within)) passes)

-- a place of the right is its first
pub number_is : (places : List Place) (r : RightNo) (n : ℕ) (p : Place) → AreDifferent places → n < length places → p ≡ get_or places n p → same_right p.right r ≡ true → n ≡ position_or_len (is_of r) places
number_is [] r n p differ within here own = absurd (omega (arith, within))
number_is (x ∷ xs) r zero p differ within here own =
    let it : same_right x.right r ≡ true = subst (λ (q : Place). same_right q.right r ≡ true) here own in λ i. cond (not (sym it i)) (1 + position_or_len (is_of r) xs) 0
number_is (x ∷ xs) r (suc n) p differ within here own =
    let behind = any_at (is_of r) xs n p (omega (arith, within)) (subst (λ (q : Place). same_right q.right r ≡ true) here own) in
    elim (same_right x.right r) as (λ b. same_right x.right r ≡ b → suc n ≡ cond (not b) (1 + position_or_len (is_of r) xs) 0) [
      | true ↦ λ it. absurd (false≢true (sym (none_behind x xs r differ it) ∙ behind))
      | false ↦ λ other. let rest = number_is xs r n p (different_behind x xs differ) (omega (arith, within)) here own in omega (arith, rest)
    ] refl

-- the claim of a right is that of its place
pub claim_at : (places : List Place) (r : RightNo) (d : Place) → list_any (is_of r) places ≡ true → claim_of places r ≡ (get_or places (position_or_len (is_of r) places) d).claim
claim_at [] r d there = absurd (false≢true there)
claim_at (x ∷ xs) r d there =
    elim (same_right x.right r)
    as (λ b. (b || list_any (is_of r) xs) ≡ true → option_map_or (λ (q : Place). q.claim) (cond b (Some x) (find (is_of r) xs)) 0 ≡ (get_or (x ∷ xs) (cond (not b) (1 + position_or_len (is_of r) xs) 0) d).claim) [
      | true ↦ λ here. refl
      | false ↦ λ more.
          let next : suc (position_or_len (is_of r) xs) ≡ 1 + position_or_len (is_of r) xs = omega arith in
          claim_at xs r d more ∙ ap (λ n. (get_or (x ∷ xs) n d).claim) next
    ] there

-- two rights that differ have two places
pub numbers_differ : (places : List Place) (a b : RightNo) → list_any (is_of a) places ≡ true → list_any (is_of b) places ≡ true → same_right a b ≡ false → position_or_len (is_of a) places ≡ position_or_len (is_of b) places → ⊥
numbers_differ [] a b first second differ same = false≢true first
numbers_differ (p ∷ ps) a b first second differ same =
    let places = p ∷ ps in
    let one = passes_at_first (is_of a) places p (first_within (is_of a) places first) in
    let other = subst (λ n. is_of b (get_or places n p) ≡ true) (sym same) (passes_at_first (is_of b) places p (first_within (is_of b) places second)) in
    let it = get_or places (position_or_len (is_of a) places) p in
    false≢true (sym differ ∙ right_from a b (sym (right_is it.right a one) ∙ right_is it.right b other))

pub claim_read : (places : List Place) (r : RightNo) (n : ℕ) (d : Place) → list_any (is_of r) places ≡ true → n ≡ position_or_len (is_of r) places → (get_or places n d).claim ≡ claim_of places r
claim_read places r n d there at = ap (λ k. (get_or places k d).claim) at ∙ sym (claim_at places r d there)
