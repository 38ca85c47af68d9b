-- What the members of a group get together is no more than the group's cents.
use Rattle.std.proofs.Common.{◌≡◌, ℕ, ◌+◌, ◌≤◌, ◌==◌, true, false, not, cond, List, [], ◌∷◌, length, map, sum_by, refl, sym, ap, ◌∙◌, arith, if◌then◌else◌}
use Rattle.std.specs.Prelude.{min, sum}
use Rattle.std.specs.List.{list_any, position_or_len, range_with_len}
use Rattle.std.proofs.lemmas.Bool.{eqb-true, or_parts}
use Rattle.std.proofs.lemmas.List.{length-map}
use Rattle.std.proofs.lemmas.List.Sums.{sum_by-cons}
use Rattle.gb_base.specs.RightNo.{RightNo, same_right}
use Rattle.gb_base.specs.Shares.{share, shares}
use Rattle.gb_base.proofs.SameRights.{others_turned, right_self}
use Rattle.gb_base.proofs.Sharing.{sum_of_shares}
use Rattle.rank_slots.specs.Groups.{is_of}
use Rattle.rank_slots.specs.Payments.{share_in_group}
use Rattle.rank_slots.specs.declared.places.Place.{Place}
use Rattle.rank_slots.proofs.LineCounts.{none_from_count, tally}
use Rattle.rank_slots.proofs.SharedCents.{AreOnce}

-- the places of others, seen with one more place ahead
shifted : (f : ℕ → ℕ) (a : ℕ) (p : Place) (ps qs : List Place) → list_any (is_of p.right) qs ≡ false
    → sum_by (λ q. f (a + position_or_len (is_of q.right) (p ∷ ps))) qs ≡ sum_by (λ q. f (a + 1 + position_or_len (is_of q.right) ps)) qs
shifted f a p ps [] none = refl
shifted f a p ps (q ∷ qs) none =
    let parts = or_parts (same_right q.right p.right) (list_any (is_of p.right) qs) none in
    let k = position_or_len (is_of q.right) ps in
    let next : a + (1 + k) ≡ a + 1 + k = omega arith in
    let other = others_turned q.right p.right parts.0 in
    let here : f (a + position_or_len (is_of q.right) (p ∷ ps)) ≡ f (a + 1 + k) = (λ i. f (a + cond (not (other i)) (1 + k) 0)) ∙ ap f next in
    let later = shifted f a p ps qs parts.1 in
    sum_by-cons (λ (x : Place). f (a + position_or_len (is_of x.right) (p ∷ ps))) q qs
    ∙ (λ i. here i + later i)
    ∙ sym (sum_by-cons (λ (x : Place). f (a + 1 + position_or_len (is_of x.right) ps)) q qs)

by_place : (f : ℕ → ℕ) (a : ℕ) (group : List Place) → AreOnce group
    → sum_by (λ p. f (a + position_or_len (is_of p.right) group)) group ≡ sum (map f (range_with_len a (length group)))
by_place f a [] once = refl
by_place f a (p ∷ ps) once =
    let none = none_from_count (is_of p.right) ps (let few = once p.right in let own : tally (same_right p.right p.right) ≡ 1 = ap tally (right_self p.right) in omega arith) in
    let first : a + 0 ≡ a = omega arith in
    let here : f (a + position_or_len (is_of p.right) (p ∷ ps)) ≡ f a = (λ i. f (a + cond (not (right_self p.right i)) (1 + position_or_len (is_of p.right) ps) 0)) ∙ ap f first in
    let later = shifted f a p ps ps none ∙ by_place f (a + 1) ps (λ r. let few = once r in omega arith) in
    sum_by-cons (λ (x : Place). f (a + position_or_len (is_of x.right) (p ∷ ps))) p ps
    ∙ (λ i. here i + later i)
    ∙ sym (sum_by-cons (λ (x : ℕ). x) (f a) (map f (range_with_len (a + 1) (length ps))))

-- the shares of the members are those of their claims
member_shares : (cents : ℕ) (group : List Place) → AreOnce group
    → sum_by (λ p. share cents (map (λ q. q.claim) group) (position_or_len (is_of p.right) group)) group ≡ sum (shares cents (map (λ q. q.claim) group))
member_shares cents group once =
    let claims = map (λ (q : Place). q.claim) group in
    let at : (k : ℕ) → k ≡ 0 + k = λ k. omega arith in
    (λ i. sum_by (λ (p : Place). share cents claims (at (position_or_len (is_of p.right) group) i)) group)
    ∙ by_place (share cents claims) 0 group once
    ∙ ap (λ n. sum (map (share cents claims) (range_with_len 0 n))) (sym (length-map group (λ (q : Place). q.claim)))

-- a member that does not stand alone gets its share
shared : (group : List Place) (r : RightNo) (cents : ℕ) → (length group == 1) ≡ false → share_in_group group r cents ≡ share cents (map (λ p. p.claim) group) (position_or_len (is_of r) group)
shared group r cents more = λ i. if more i then cents else share cents (map (λ (p : Place). p.claim) group) (position_or_len (is_of r) group)

-- all members get no more together than the group's cents
pub members_share : (cents : ℕ) (group : List Place) → AreOnce group → sum_by (λ p. share_in_group group p.right cents) group ≤ cents
members_share cents group once =
    elim (length group == 1) as (λ b. (length group == 1) ≡ b → sum_by (λ p. share_in_group group p.right cents) group ≤ cents) [
      | true ↦ λ alone. one_member cents group (eqb-true (length group) 1 alone) alone
      | false ↦ λ more.
          let claims = map (λ (p : Place). p.claim) group in
          let each : sum_by (λ (p : Place). share_in_group group p.right cents) group ≡ min cents (sum claims) =
          (λ i. sum_by (λ (p : Place). shared group p.right cents more i) group) ∙ member_shares cents group once ∙ sum_of_shares cents claims in
          omega (arith, each)
    ] refl
  where
    one_member : (n : ℕ) (g : List Place) → length g ≡ 1 → (length g == 1) ≡ true → sum_by (λ (p : Place). share_in_group g p.right n) g ≤ n
    one_member n [] one alone = omega arith
    one_member n (p ∷ []) one alone = let whole = sum_by-cons (λ (q : Place). share_in_group (p ∷ []) q.right n) p [] in omega (arith, whole)
    one_member n (p ∷ (q ∷ ps)) one alone = absurd (omega (arith, one))
