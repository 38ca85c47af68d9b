-- The cents of several places are their claims.
use Rattle.std.proofs.Common.{◌≡◌, ℕ, suc, ◌+◌, true, false, cond, not, ◌&&◌, ◌||◌, List, [], ◌∷◌, Some, filter, find, map, sum_by, refl, sym, ap, ◌∙◌, subst, arith}
use Rattle.std.specs.List.{AllByRecursion, list_any, position_or_len, slice_get}
use Rattle.std.specs.Option.{option_map_or}
use Rattle.std.proofs.lemmas.Bool.{both_ways, false_from_ne_true}
use Rattle.std.proofs.lemmas.List.Sums.{sum_by-cons}
use Rattle.std.proofs.lemmas.Map.Keys.{IsDistinct-head}
use Rattle.gb_base.specs.RightNo.{RightNo, same_right}
use Rattle.gb_base.specs.Shares.{claim_at}
use Rattle.gb_base.proofs.SameRights.{right_is, right_self}
use Rattle.rank_slots.specs.CentLine.{is_dropped}
use Rattle.rank_slots.specs.Groups.{is_of}
use Rattle.rank_slots.specs.Payments.{claim_of}
use Rattle.rank_slots.specs.declared.places.Place.{Place}
use Rattle.rank_slots.proofs.LineCents.{counted_either}
use Rattle.rank_slots.proofs.LineCounts.{counted, none_from_count, tally}
use Rattle.rank_slots.proofs.PlaceLines.{AreDifferent, different_behind}
use Rattle.rank_slots.proofs.SharedCents.{AreOnce}

-- ---- the claim of a place is that of its right

passed : (p : Place) (ps qs : List Place) → AllByRecursion (λ q. same_right p.right q.right ≡ false) qs → AllByRecursion (λ q. claim_of ps q.right ≡ q.claim) qs → AllByRecursion (λ q. claim_of (p ∷ ps) q.right ≡ q.claim) qs
passed p ps [] others own = tt
passed p ps (q ∷ qs) others own =
    ((λ i. option_map_or (λ (x : Place). x.claim) (cond (others.0 i) (Some p) (find (is_of q.right) ps)) 0) ∙ own.0, passed p ps qs others.1 own.1)

pub own_claims : (places : List Place) → AreDifferent places → AllByRecursion (λ p. claim_of places p.right ≡ p.claim) places
own_claims [] differ = tt
own_claims (p ∷ ps) differ = (
  λ i. option_map_or (λ (x : Place). x.claim) (cond (right_self p.right i) (Some p) (find (is_of p.right) ps)) 0,
  passed p ps ps (IsDistinct-head (λ (x y : Place). same_right x.right y.right) p ps differ) (own_claims ps (different_behind p ps differ)),
)

-- the claim of a right is, in a list of claims, the one at the number of its place
pub claim_at_place : (group : List Place) (r : RightNo) → claim_at (map (λ p. p.claim) group) (position_or_len (is_of r) group) ≡ claim_of group r
claim_at_place [] r = refl
claim_at_place (p ∷ ps) r =
    let claims = map (λ (q : Place). q.claim) ps in
    let k = position_or_len (is_of r) ps in
    let next : 1 + k ≡ suc k = omega arith in
    elim (same_right p.right r)
    as (λ b. option_map_or (λ c. c) (slice_get (p.claim ∷ claims) (cond (not b) (1 + k) 0)) 0 ≡ option_map_or (λ (q : Place). q.claim) (cond b (Some p) (find (is_of r) ps)) 0) [
      | true ↦ refl
      | false ↦ ap (claim_at (p.claim ∷ claims)) next ∙ claim_at_place ps r
    ]

-- ---- sums over places

pub sums_are_claims : (f : RightNo → ℕ) (ps : List Place) → AllByRecursion (λ p. f p.right ≡ p.claim) ps → sum_by (λ p. f p.right) ps ≡ sum_by (λ p. p.claim) ps
sums_are_claims f [] own = refl
sums_are_claims f (p ∷ ps) own =
    let here = own.0 in
    let later = sums_are_claims f ps own.1 in
    sum_by-cons (λ (q : Place). f q.right) p ps ∙ (λ i. here i + later i) ∙ sym (sum_by-cons (λ (q : Place). q.claim) p ps)

none_passes : (cs : List RightNo) → counted (λ c. false) cs ≡ 0
none_passes [] = refl
none_passes (c ∷ cs) = omega (arith, none_passes cs)

-- the cents of these places are those of each
pub listed_cents : (ps : List Place) → AreOnce ps → (cs : List RightNo) → counted (λ c. list_any (is_of c) ps) cs ≡ sum_by (λ p. counted (same_right p.right) cs) ps
listed_cents [] once cs = none_passes cs
listed_cents (p ∷ ps) once cs =
    let own : tally (same_right p.right p.right) ≡ 1 = ap tally (right_self p.right) in
    let none : list_any (is_of p.right) ps ≡ false = none_from_count (is_of p.right) ps (let few = once p.right in omega arith) in
    counted_either (same_right p.right) (λ c. list_any (is_of c) ps)
    (λ c there. false_from_ne_true (same_right p.right c) (λ is. both_ways (list_any (is_of p.right) ps) none (subst (λ z. list_any (is_of z) ps ≡ true) (sym (right_is p.right c is)) there))) cs
    ∙ ap (λ n. counted (same_right p.right) cs + n) (listed_cents ps (λ r. let few = once r in omega arith) cs)
    ∙ sym (sum_by-cons (λ (q : Place). counted (same_right q.right) cs) p ps)

-- ---- dropped places

pub dropped_listed : (places : List Place) (c : RightNo) → is_dropped places c ≡ list_any (is_of c) (filter (λ p. p.dropped) places)
dropped_listed [] c = refl
dropped_listed (p ∷ ps) c =
    let rest = filter (λ (q : Place). q.dropped) ps in
    elim p.dropped as (λ d. ((same_right p.right c && d) || is_dropped ps c) ≡ list_any (is_of c) (cond d (p ∷ rest) rest)) [
      | true ↦ elim (same_right p.right c) as (λ b. ((b && true) || is_dropped ps c) ≡ (b || list_any (is_of c) rest)) [ true ↦ refl | false ↦ dropped_listed ps c ]
      | false ↦ elim (same_right p.right c) as (λ b. ((b && false) || is_dropped ps c) ≡ list_any (is_of c) rest) [ true ↦ dropped_listed ps c | false ↦ dropped_listed ps c ]
    ]
