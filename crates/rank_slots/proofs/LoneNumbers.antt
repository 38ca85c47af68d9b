-- Where a right's place stands, found among the last places, and the group of one that stands alone.
use Rattle.std.proofs.Common.{◌≡◌, ℕ, zero, suc, ◌+◌, ◌<◌, true, false, cond, not, ◌||◌, List, [], ◌∷◌, Some, drop, find, get_or, length, take, refl, sym, ap, ◌∙◌, subst, arith}
use Rattle.std.specs.List.{list_any, position_or_len}
use Rattle.std.specs.Option.{option_map_or}
use Rattle.std.proofs.lemmas.Bool.{both_ways, false≢true}
use Rattle.std.proofs.lemmas.List.{get_or-drop, get_or-take, length-drop}
use Rattle.std.proofs.lemmas.List.Sums.{passes_at_first}
use Rattle.gb_base.specs.RightNo.{RightNo, same_right}
use Rattle.rank_slots.specs.Groups.{group_of, groups, is_of, joins, with_first}
use Rattle.rank_slots.specs.declared.places.Place.{Place}
use Rattle.rank_slots.proofs.PlaceLines.{AreDifferent, different_behind, none_behind}
use Rattle.rank_slots.proofs.PlaceNumbers.{any_at}

-- the first of a right among the last places is the first of all
pub number_behind : (places : List Place) (r : RightNo) (m : ℕ) → AreDifferent places → position_or_len (is_of r) (drop m places) < length (drop m places)
    → m + position_or_len (is_of r) (drop m places) ≡ position_or_len (is_of r) places
number_behind places r zero differ within = omega arith
number_behind [] r (suc m) differ within = absurd (omega (arith, within))
number_behind (p ∷ ps) r (suc m) differ within =
    let rest = number_behind ps r m (different_behind p ps differ) within in
    let k = position_or_len (is_of r) (drop m ps) in
    let there : list_any (is_of r) ps ≡ true =
    any_at (is_of r) ps (m + k) p (omega (arith, within, length-drop m ps)) (ap (is_of r) (sym (get_or-drop m ps k p)) ∙ passes_at_first (is_of r) (drop m ps) p within) in
    elim (same_right p.right r) as (λ b. same_right p.right r ≡ b → suc m + position_or_len (is_of r) (drop m ps) ≡ cond (not b) (1 + position_or_len (is_of r) ps) 0) [
      | true ↦ λ own. absurd (both_ways (list_any (is_of r) ps) (none_behind p ps r differ own) there)
      | false ↦ λ other. omega (arith, rest)
    ] refl

-- ---- the group of a right that stands alone

-- the first of these groups that has the right
abbrev group_in : List (List Place) → RightNo → List Place
group_in gs r = option_map_or (λ g. g) (find (list_any (is_of r)) gs) []

-- the first group begins with the first place
first_begins : (q : Place) (qs : List Place) → (g : List Place) × ((gs : List (List Place)) × (groups (q ∷ qs) ≡ (q ∷ g) ∷ gs))
first_begins q qs =
    elim (joins qs) as (λ b. (g : List Place) × ((gs : List (List Place)) × (cond b (with_first q (groups qs)) ((q ∷ []) ∷ groups qs) ≡ (q ∷ g) ∷ gs))) [
      | true ↦ joined (groups qs)
      | false ↦ ([], (groups qs, refl))
    ]
  where
    joined : (hs : List (List Place)) → (g : List Place) × ((gs : List (List Place)) × (with_first q hs ≡ (q ∷ g) ∷ gs))
    joined [] = ([], ([], refl))
    joined (h ∷ hs) = (h, (hs, refl))

-- a list of one is the place at this number
one_at : (q : Place) (g places : List Place) (n : ℕ) → q ∷ g ≡ take 1 (drop n places) → q ≡ get_or places n q
one_at q g places n is = ap (λ qs. get_or qs 0 q) is ∙ get_or-take 1 (drop n places) 0 q (omega arith) ∙ get_or-drop n places 0 q ∙ ap (λ k. get_or places k q) (omega arith)

-- one more place, which the first of the others joins
joined_at : (p q : Place) (qs : List Place) (r : RightNo) (n : ℕ) → same_right p.right r ≡ false → q.with_previous ≡ true → n < length (q ∷ qs) → n ≡ position_or_len (is_of r) (q ∷ qs) → joins (drop n (q ∷ qs)) ≡ false
    → group_of (q ∷ qs) r ≡ take 1 (drop n (q ∷ qs)) → group_in (with_first p (groups (q ∷ qs))) r ≡ take 1 (drop n (q ∷ qs))
joined_at p q qs r n other joined within at own rest =
    let g = (first_begins q qs).0 in
    let gs = (first_begins q qs).1.0 in
    let is = (first_begins q qs).1.1 in
    let whole : group_of (q ∷ qs) r ≡ option_map_or (λ h. h) (cond (list_any (is_of r) (q ∷ g)) (Some (q ∷ g)) (find (list_any (is_of r)) gs)) [] = ap (λ hs. group_in hs r) is in
    ap (λ hs. group_in (with_first p hs) r) is
    ∙ (λ i. option_map_or (λ h. h) (cond (other i || list_any (is_of r) (q ∷ g)) (Some (p ∷ q ∷ g)) (find (list_any (is_of r)) gs)) [])
    ∙ elim (list_any (is_of r) (q ∷ g)) as (λ b. list_any (is_of r) (q ∷ g) ≡ b → option_map_or (λ h. h) (cond b (Some (p ∷ q ∷ g)) (find (list_any (is_of r)) gs)) [] ≡ take 1 (drop n (q ∷ qs))) [
      | true ↦ λ has.
          let alone : q ∷ g ≡ take 1 (drop n (q ∷ qs)) = sym (whole ∙ (λ i. option_map_or (λ h. h) (cond (has i) (Some (q ∷ g)) (find (list_any (is_of r)) gs)) [])) ∙ rest in
          let first : same_right q.right r ≡ true =
          ap (is_of r) (one_at q g (q ∷ qs) n alone) ∙ ap (λ k. is_of r (get_or (q ∷ qs) k q)) at ∙ passes_at_first (is_of r) (q ∷ qs) q (subst (λ k. k < length (q ∷ qs)) at within) in
          let none : n ≡ 0 = at ∙ (λ i. cond (not (first i)) (1 + position_or_len (is_of r) qs) 0) in
          absurd (false≢true (sym own ∙ ap (λ k. joins (drop k (q ∷ qs))) none ∙ joined))
      | false ↦ λ lacks. sym (whole ∙ (λ i. option_map_or (λ h. h) (cond (lacks i) (Some (q ∷ g)) (find (list_any (is_of r)) gs)) [])) ∙ rest
    ] refl

-- a place that joins none, and that none joins, is the group of its right
pub group_at : (places : List Place) (r : RightNo) (n : ℕ) → n < length places → n ≡ position_or_len (is_of r) places → joins (drop n places) ≡ false → joins (drop (suc n) places) ≡ false
    → group_of places r ≡ take 1 (drop n places)
group_at [] r n within at own next = absurd (omega (arith, within))
group_at (p ∷ ps) r zero within at own next =
    elim (same_right p.right r) as (λ b. same_right p.right r ≡ b → zero ≡ cond (not b) (1 + position_or_len (is_of r) ps) 0 → group_of (p ∷ ps) r ≡ p ∷ []) [
      | true ↦ λ its first.
          (λ i. group_in (cond (next i) (with_first p (groups ps)) ((p ∷ []) ∷ groups ps)) r)
          ∙ (λ i. option_map_or (λ h. h) (cond (its i || false) (Some (p ∷ [])) (find (list_any (is_of r)) (groups ps))) [])
      | false ↦ λ other first. absurd (omega (arith, first))
    ] refl at
group_at (p ∷ []) r (suc n) within at own next = absurd (omega (arith, within))
group_at (p ∷ q ∷ qs) r (suc n) within at own next =
    elim (same_right p.right r) as (λ b. same_right p.right r ≡ b → suc n ≡ cond (not b) (1 + position_or_len (is_of r) (q ∷ qs)) 0 → group_of (p ∷ q ∷ qs) r ≡ take 1 (drop n (q ∷ qs))) [
      | true ↦ λ its first. absurd (omega (arith, first))
      | false ↦ λ other behind.
          let here : n ≡ position_or_len (is_of r) (q ∷ qs) = omega (arith, behind) in
          let less : n < length (q ∷ qs) = omega (arith, within) in
          let rest = group_at (q ∷ qs) r n less here own next in
          elim q.with_previous as (λ b. q.with_previous ≡ b → group_in (cond b (with_first p (groups (q ∷ qs))) ((p ∷ []) ∷ groups (q ∷ qs))) r ≡ take 1 (drop n (q ∷ qs))) [
            | true ↦ λ joined. joined_at p q qs r n other joined less here own rest
            | false ↦ λ apart. (λ i. option_map_or (λ h. h) (cond (other i || false) (Some (p ∷ [])) (find (list_any (is_of r)) (groups (q ∷ qs)))) []) ∙ rest
          ] refl
    ] refl at
