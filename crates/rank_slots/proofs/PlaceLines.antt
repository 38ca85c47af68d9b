-- The claims of places, written cent by cent.
use Rattle.std.proofs.Common.{◌≡◌, suc, ◌+◌, ◌≤◌, Bool, true, false, cond, not, ◌&&◌, ◌||◌, List, [], ◌∷◌, ◌++◌, All, Some, find, replicate, take, refl, sym, ap, ◌∙◌, subst, arith}
use Rattle.std.specs.List.{AllByRecursion, IsDistinct, list_any, position_or_len}
use Rattle.std.specs.Option.{option_map_or}
use Rattle.std.proofs.lemmas.Bool.{both_ways, false_from_ne_true, false≢true, or_parts}
use Rattle.std.proofs.lemmas.List.Elements.{All-head, All-tail}
use Rattle.std.proofs.lemmas.Map.Keys.{IsDistinct-head, IsDistinct-tail}
use Rattle.gb_base.specs.RightNo.{RightNo, same_right}
use Rattle.gb_base.proofs.SameRights.{others_turned, right_is, right_turned}
use Rattle.rank_slots.specs.CentLine.{is_dropped, written}
use Rattle.rank_slots.specs.Groups.{is_listed_ahead, is_of, keeps_place}
use Rattle.rank_slots.specs.Payments.{claim_of}
use Rattle.rank_slots.specs.declared.places.Place.{Place}
use Rattle.rank_slots.proofs.LineCounts.{counted, counted_both, counted_copies, counted_no_copies, none_counted, tally}
use Rattle.rank_slots.proofs.Precedence.{Precedes, precedes_copies, precedes_none}

-- the right has a place here
abbrev pub is_listed : List Place → RightNo → Bool
is_listed places right = list_any (is_of right) places

-- the places are of different rights
abbrev pub AreDifferent : List Place → Type 0
AreDifferent places = IsDistinct (λ p q. same_right p.right q.right) places

-- none of the places is this right's, where each differs from it
pub none_of : (a r : RightNo) (places : List Place) → a ≡ r → AllByRecursion (λ q. same_right a q.right ≡ false) places → list_any (is_of r) places ≡ false
none_of a r [] same others = refl
none_of a r (p ∷ ps) same others =
    let here : same_right p.right r ≡ false = subst (λ z. same_right p.right z ≡ false) same (others_turned a p.right others.0) in
    ap (λ b. b || list_any (is_of r) ps) here ∙ none_of a r ps same others.1

-- none behind a place is of its right
pub none_behind : (p : Place) (ps : List Place) (r : RightNo) → AreDifferent (p ∷ ps) → same_right p.right r ≡ true → list_any (is_of r) ps ≡ false
none_behind p ps r differ own = none_of p.right r ps (right_is p.right r own) (IsDistinct-head (λ (p q : Place). same_right p.right q.right) p ps differ)

pub different_behind : (p : Place) (ps : List Place) → AreDifferent (p ∷ ps) → AreDifferent ps
different_behind p ps differ = IsDistinct-tail (λ (p q : Place). same_right p.right q.right) p ps differ

-- ---- how many places a right has

pub places_few : (r : RightNo) (places : List Place) → AreDifferent places → counted (is_of r) places ≤ 1
places_few r [] differ = omega arith
places_few r (p ∷ ps) differ =
    elim (same_right p.right r) as (λ b. same_right p.right r ≡ b → tally b + counted (is_of r) ps ≤ 1) [
      | true ↦ λ own. omega (arith, none_counted (is_of r) ps (none_behind p ps r differ own))
      | false ↦ λ other. omega (arith, places_few r ps (different_behind p ps differ))
    ] refl

-- ---- the cents of a right

pub none_written : (r : RightNo) (places : List Place) → list_any (is_of r) places ≡ false → counted (same_right r) (written places) ≡ 0
none_written r [] none = refl
none_written r (p ∷ ps) none =
    let parts = or_parts (same_right p.right r) (list_any (is_of r) ps) none in
    let own = counted_no_copies (same_right r) p.claim p.right (others_turned p.right r parts.0) in
    let rest = none_written r ps parts.1 in
    counted_both (same_right r) (replicate p.claim p.right) (written ps) ∙ omega arith

pub claim_written : (r : RightNo) (places : List Place) → AreDifferent places → counted (same_right r) (written places) ≡ claim_of places r
claim_written r [] differ = refl
claim_written r (p ∷ ps) differ =
    counted_both (same_right r) (replicate p.claim p.right) (written ps)
    ∙ elim (same_right p.right r)
    as (λ b. same_right p.right r ≡ b → counted (same_right r) (replicate p.claim p.right) + counted (same_right r) (written ps) ≡ option_map_or (λ (q : Place). q.claim) (cond b (Some p) (find (is_of r) ps)) 0) [
      | true ↦ λ own.
          let here = counted_copies (same_right r) p.claim p.right (right_turned p.right r own) in
          let rest = none_written r ps (none_behind p ps r differ own) in omega arith
      | false ↦ λ other.
          let here = counted_no_copies (same_right r) p.claim p.right (others_turned p.right r other) in
          let rest = claim_written r ps (different_behind p ps differ) in omega arith
    ] refl

-- a right with a place has a claim
pub claim_least : (r : RightNo) (places : List Place) → All (λ p. 1 ≤ p.claim) places → list_any (is_of r) places ≡ true → 1 ≤ claim_of places r
claim_least r [] least there = absurd (false≢true there)
claim_least r (p ∷ ps) least there =
    elim (same_right p.right r)
    as (λ b. (b || list_any (is_of r) ps) ≡ true → 1 ≤ option_map_or (λ (q : Place). q.claim) (cond b (Some p) (find (is_of r) ps)) 0) [
      | true ↦ λ own. All-head (λ (q : Place). 1 ≤ q.claim) p ps least
      | false ↦ λ rest. claim_least r ps (All-tail (λ (q : Place). 1 ≤ q.claim) p ps least) rest
    ] there

-- ---- the place of one right ahead of another's

-- a right's place stands ahead of another's, by recursion
abbrev stands_ahead : List Place → RightNo → RightNo → Bool
stands_ahead [] a c = false
stands_ahead (p ∷ ps) a c = not (same_right p.right c) && (same_right p.right a || stands_ahead ps a c)

stands_ahead_is : (places : List Place) (a c : RightNo) → is_listed_ahead places a c ≡ stands_ahead places a c
stands_ahead_is [] a c = refl
stands_ahead_is (p ∷ ps) a c =
    let k = position_or_len (is_of c) ps in
    let next : 1 + k ≡ suc k = omega arith in
    elim (same_right p.right c) as (λ b. list_any (is_of a) (take (cond (not b) (1 + k) 0) (p ∷ ps)) ≡ (not b && (same_right p.right a || stands_ahead ps a c))) [
      | true ↦ refl
      | false ↦ subst (λ j. list_any (is_of a) (take j (p ∷ ps)) ≡ (same_right p.right a || stands_ahead ps a c)) (sym next) (ap (λ b. same_right p.right a || b) (stands_ahead_is ps a c))
    ]

not_ahead_of_itself : (places : List Place) (a : RightNo) → stands_ahead places a a ≡ false
not_ahead_of_itself [] a = refl
not_ahead_of_itself (p ∷ ps) a =
    elim (same_right p.right a) as (λ b. (not b && (b || stands_ahead ps a a)) ≡ false) [ true ↦ refl | false ↦ not_ahead_of_itself ps a ]

precedes_by : (a c : RightNo) (places : List Place) → AreDifferent places → stands_ahead places a c ≡ true → Precedes (same_right a) (same_right c) (written places)
precedes_by a c [] differ ahead = tt
precedes_by a c (p ∷ ps) differ ahead =
    elim (same_right p.right c) as (λ b. same_right p.right c ≡ b → (not b && (same_right p.right a || stands_ahead ps a c)) ≡ true → Precedes (same_right a) (same_right c) (replicate p.claim p.right ++ written ps)) [
      | true ↦ λ last h. absurd (false≢true h)
      | false ↦ λ other h.
          precedes_copies (same_right a) (same_right c) p.claim p.right (written ps) (others_turned p.right c other)
          (elim (same_right p.right a) as (λ b. same_right p.right a ≡ b → (b || stands_ahead ps a c) ≡ true → Precedes (same_right a) (same_right c) (written ps)) [
            | true ↦ λ own g. precedes_none (same_right a) (same_right c) (written ps) (none_written a ps (none_behind p ps a differ own))
            | false ↦ λ no g. precedes_by a c ps (different_behind p ps differ) g
          ] refl h)
    ] refl ahead

pub precedes_written : (a c : RightNo) (places : List Place) → AreDifferent places → is_listed_ahead places a c ≡ true → Precedes (same_right a) (same_right c) (written places)
precedes_written a c places differ ahead = precedes_by a c places differ (sym (stands_ahead_is places a c) ∙ ahead)

-- two rights of which one is listed ahead of the other are not one
pub ahead_differ : (places : List Place) (a c : RightNo) → is_listed_ahead places a c ≡ true → same_right a c ≡ false
ahead_differ places a c ahead =
    false_from_ne_true (same_right a c)
    (λ same. both_ways (stands_ahead places a a) (not_ahead_of_itself places a) (subst (λ z. stands_ahead places a z ≡ true) (sym (right_is a c same)) (sym (stands_ahead_is places a c) ∙ ahead)))

-- ---- a right whose place is not dropped

pub kept_listed : (r : RightNo) (places : List Place) → keeps_place places r ≡ true → list_any (is_of r) places ≡ true
kept_listed r [] kept = kept
kept_listed r (p ∷ ps) kept =
    elim (same_right p.right r) as (λ b. ((b && not p.dropped) || keeps_place ps r) ≡ true → (b || list_any (is_of r) ps) ≡ true) [
      | true ↦ λ h. refl
      | false ↦ λ h. kept_listed r ps h
    ] kept

unlisted_undropped : (r : RightNo) (places : List Place) → list_any (is_of r) places ≡ false → is_dropped places r ≡ false
unlisted_undropped r [] none = refl
unlisted_undropped r (p ∷ ps) none =
    elim (same_right p.right r) as (λ b. (b || list_any (is_of r) ps) ≡ false → ((b && p.dropped) || is_dropped ps r) ≡ false) [
      | true ↦ λ h. absurd (false≢true (sym h))
      | false ↦ λ h. unlisted_undropped r ps h
    ] none

pub kept_undropped : (r : RightNo) (places : List Place) → AreDifferent places → keeps_place places r ≡ true → is_dropped places r ≡ false
kept_undropped r [] differ kept = refl
kept_undropped r (p ∷ ps) differ kept =
    elim (same_right p.right r) as (λ b. same_right p.right r ≡ b → ((b && not p.dropped) || keeps_place ps r) ≡ true → ((b && p.dropped) || is_dropped ps r) ≡ false) [
      | true ↦ λ own h.
          let none = none_behind p ps r differ own in
          elim p.dropped as (λ d. (not d || keeps_place ps r) ≡ true → (d || is_dropped ps r) ≡ false) [
            | true ↦ λ g. absurd (both_ways (list_any (is_of r) ps) none (kept_listed r ps g))
            | false ↦ λ g. unlisted_undropped r ps none
          ] h
      | false ↦ λ other h. kept_undropped r ps (different_behind p ps differ) h
    ] refl kept
