-- What the members of a group get together of the group's cents.
use Rattle.std.proofs.Common.{◌≡◌, ℕ, zero, suc, ◌+◌, ◌/◌, ◌≤◌, ◌==◌, true, false, cond, not, List, [], ◌∷◌, All, length, map, sum_by, refl, sym, ap, ◌∙◌, arith, if◌then◌else◌}
use Rattle.std.specs.Prelude.{nat_le, nat_lt, sum}
use Rattle.std.specs.List.{AllByRecursion, list_any, position_or_len, range_with_len}
use Rattle.std.proofs.Math.Nat.{zero-div, zero-mul}
use Rattle.std.proofs.lemmas.Bool.{false≢true, or_parts}
use Rattle.std.proofs.lemmas.Bool.Decides.{nat_tests}
use Rattle.std.proofs.lemmas.List.{length-map}
use Rattle.std.proofs.lemmas.List.Elements.{recursion_from_All}
use Rattle.std.proofs.lemmas.List.Sums.{sum_by-cons, sum-map}
use Rattle.gb_base.specs.RightNo.{RightNo, same_right}
use Rattle.gb_base.specs.Shares.{claim_at, left_over, share, shares, whole_part}
use Rattle.gb_base.proofs.SameRights.{others_turned, right_self}
use Rattle.gb_base.proofs.Sharing.{sum_of_shares}
use Rattle.rank_slots.specs.Groups.{is_of}
use Rattle.rank_slots.specs.Payments.{share_in_group}
use Rattle.rank_slots.specs.declared.places.Place.{Place}
use Rattle.rank_slots.proofs.LineCounts.{counted, none_from_count, tally}

-- ---- of no cents

no_claim : (claims : List ℕ) (i : ℕ) → sum claims ≤ 0 → claim_at claims i ≡ 0
no_claim [] i none = refl
no_claim (x ∷ xs) zero none = let whole = sum_by-cons (λ c. c) x xs in omega arith
no_claim (x ∷ xs) (suc i) none = let whole = sum_by-cons (λ c. c) x xs in no_claim xs i (omega arith)

no_share : (claims : List ℕ) (i : ℕ) → share 0 claims i ≡ 0
no_share claims i =
    elim (nat_le (sum claims) 0) as (λ b. nat_le (sum claims) 0 ≡ b → (if b then claim_at claims i else whole_part 0 claims (claim_at claims i) + (if nat_lt i (left_over 0 claims) then 1 else 0)) ≡ 0) [
      | true ↦ λ yes. let none : sum claims ≤ 0 = grind (arith, nat_tests) in no_claim claims i none
      | false ↦ λ no.
          let part : whole_part 0 claims (claim_at claims i) ≡ 0 = ap (λ n. n / sum claims) (zero-mul (claim_at claims i)) ∙ zero-div (sum claims) in
          let more : (if nat_lt i (left_over 0 claims) then 1 else 0) ≡ 0 = grind (arith, nat_tests) in
          λ i. part i + more i
    ] refl

pub no_part : (group : List Place) (r : RightNo) → share_in_group group r 0 ≡ 0
no_part group r =
    let claims = map (λ (p : Place). p.claim) group in
    let place = position_or_len (is_of r) group in
    elim (length group == 1) as (λ b. (if b then 0 else share 0 claims place) ≡ 0) [
      | true ↦ refl
      | false ↦ no_share claims place
    ]

-- ---- each member at its place

-- no right has two of these places
abbrev pub AreOnce : List Place → Type 0
AreOnce group = (a : RightNo) → counted (is_of a) group ≤ 1

-- the places of others, seen with one more place ahead
shifted : (f : ℕ → ℕ) (a : ℕ) (p : Place) (ps qs : List Place) → list_any (is_of p.right) qs ≡ false
    → sum_by (λ q. f (a + position_or_len (is_of q.right) (p ∷ ps))) qs ≡ sum_by (λ q. f (a + 1 + position_or_len (is_of q.right) ps)) qs
shifted f a p ps [] none = refl
shifted f a p ps (q ∷ qs) none =
    let parts = or_parts (same_right q.right p.right) (list_any (is_of p.right) qs) none in
    let k = position_or_len (is_of q.right) ps in
    let next : a + (1 + k) ≡ a + 1 + k = omega arith in
    let other = others_turned q.right p.right parts.0 in
    let here : f (a + position_or_len (is_of q.right) (p ∷ ps)) ≡ f (a + 1 + k) = (λ i. f (a + cond (not (other i)) (1 + k) 0)) ∙ ap f next in
    let later = shifted f a p ps qs parts.1 in
    sum_by-cons (λ (x : Place). f (a + position_or_len (is_of x.right) (p ∷ ps))) q qs
    ∙ (λ i. here i + later i)
    ∙ sym (sum_by-cons (λ (x : Place). f (a + 1 + position_or_len (is_of x.right) ps)) q qs)

by_place : (f : ℕ → ℕ) (a : ℕ) (group : List Place) → AreOnce group
    → sum_by (λ p. f (a + position_or_len (is_of p.right) group)) group ≡ sum (map f (range_with_len a (length group)))
by_place f a [] once = refl
by_place f a (p ∷ ps) once =
    let none = none_from_count (is_of p.right) ps (let few = once p.right in let own : tally (same_right p.right p.right) ≡ 1 = ap tally (right_self p.right) in omega arith) in
    let first : a + 0 ≡ a = omega arith in
    let here : f (a + position_or_len (is_of p.right) (p ∷ ps)) ≡ f a = (λ i. f (a + cond (not (right_self p.right i)) (1 + position_or_len (is_of p.right) ps) 0)) ∙ ap f first in
    let later = shifted f a p ps ps none ∙ by_place f (a + 1) ps (λ r. let few = once r in omega arith) in
    sum_by-cons (λ (x : Place). f (a + position_or_len (is_of x.right) (p ∷ ps))) p ps
    ∙ (λ i. here i + later i)
    ∙ sym (sum_by-cons (λ (x : ℕ). x) (f a) (map f (range_with_len (a + 1) (length ps))))

-- the shares of the members are those of their claims
member_shares : (cents : ℕ) (group : List Place) → AreOnce group
    → sum_by (λ p. share cents (map (λ q. q.claim) group) (position_or_len (is_of p.right) group)) group ≡ sum (shares cents (map (λ q. q.claim) group))
member_shares cents group once =
    let claims = map (λ (q : Place). q.claim) group in
    let at : (k : ℕ) → k ≡ 0 + k = λ k. omega arith in
    (λ i. sum_by (λ (p : Place). share cents claims (at (position_or_len (is_of p.right) group) i)) group)
    ∙ by_place (share cents claims) 0 group once
    ∙ ap (λ n. sum (map (share cents claims) (range_with_len 0 n))) (sym (length-map group (λ (q : Place). q.claim)))

-- a member that does not stand alone gets its share
pub shared : (group : List Place) (r : RightNo) (cents : ℕ) → (length group == 1) ≡ false → share_in_group group r cents ≡ share cents (map (λ p. p.claim) group) (position_or_len (is_of r) group)
shared group r cents more = λ i. if more i then cents else share cents (map (λ (p : Place). p.claim) group) (position_or_len (is_of r) group)

-- the claims come to a cent at least where a right has one of them
some_claims : (group : List Place) (r : RightNo) → list_any (is_of r) group ≡ true → AllByRecursion (λ p. 1 ≤ p.claim) group → 1 ≤ sum_by (λ p. p.claim) group
some_claims [] r there least = absurd (false≢true there)
some_claims (p ∷ ps) r there least = let whole = sum_by-cons (λ (x : Place). x.claim) p ps in let own = least.0 in omega arith

-- the members get one cent together, where the group has one
pub one_shared : (group : List Place) (r : RightNo) → AreOnce group → All (λ p. 1 ≤ p.claim) group → list_any (is_of r) group ≡ true → (length group == 1) ≡ false
    → sum_by (λ p. share_in_group group p.right 1) group ≡ 1
one_shared group r once least there more =
    let claims = map (λ (p : Place). p.claim) group in
    let some = some_claims group r there (recursion_from_All (λ (p : Place). 1 ≤ p.claim) group least) in
    let whole = sum-map (λ (p : Place). p.claim) group in
    (λ i. sum_by (λ (p : Place). shared group p.right 1 more i) group)
    ∙ member_shares 1 group once
    ∙ sum_of_shares 1 claims
    ∙ omega arith
