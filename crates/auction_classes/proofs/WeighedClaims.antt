-- By any measure, such as what they come to or how many are of a class, claims come to no more in their order, and to the same in their row.
use Rattle.std.proofs.Common.{◌≡◌, ℕ, zero, suc, ◌+◌, ◌≤◌, Bool, true, false, cond, not, ◌&&◌, ◌==◌, List, [], ◌∷◌, ◌++◌, filter, sum_by, Option, Some, None, refl, sym, ap, subst, ◌∙◌, arith}
use Rattle.std.proofs.lemmas.Bool.{and_parts, eqb-true}
use Rattle.std.proofs.lemmas.List.Sums.{sum_by-append, sum_by-cons}
use Rattle.auction_classes.specs.Claims.{are_both, by_class, claim_after, in_order, in_row, of_class}
use Rattle.auction_classes.specs.declared.claim_items.Claim.{Claim}
use Rattle.auction_classes.specs.declared.claim_items.ClaimItem.{ClaimItem}
use Rattle.auction_classes.specs.inner.ClaimRows.{row_after}
use Rattle.auction_classes.proofs.ClaimsInRow.{row_is}
use Rattle.auction_classes.proofs.OrderedClaims.{in_classes, passed_class}

-- those that pass a test weigh no more than all
pub filter_weighs : {X : Type 0} (w : X → ℕ) (p : X → Bool) (xs : List X) → sum_by w (filter p xs) ≤ sum_by w xs
filter_weighs w p [] = omega arith
filter_weighs w p (x ∷ xs) =
    let rest = filter_weighs w p xs in
    let whole = sum_by-cons w x xs in
    let own = sum_by-cons w x (filter p xs) in
    elim (p x) as (λ b. sum_by w (cond b (x ∷ filter p xs) (filter p xs)) ≤ sum_by w (x ∷ xs)) [ true ↦ omega (arith, rest, whole, own) | false ↦ omega (arith, rest, whole) ]

-- a claim adds its weight once at most, and that only where it is timely or late as asked
one_weighs : (w : Claim → ℕ) (late : Bool) (c : Claim) (cs : List Claim) (from many : ℕ)
    → sum_by w (in_classes late (c ∷ cs) from many) ≤ cond (are_both late c.late) (w c) 0 + sum_by w (in_classes late cs from many)
one_weighs w late c cs from zero = omega arith
one_weighs w late c cs from (suc many) =
    let here = of_class late cs from in
    let rest = in_classes late cs (from + 1) many in
    let next = in_classes late (c ∷ cs) (from + 1) many in
    let asked : ℕ = cond (are_both late c.late) (w c) 0 in
    elim (are_both late c.late && c.class == from) as (λ b. (are_both late c.late && c.class == from) ≡ b → sum_by w (cond b (c ∷ here) here ++ next) ≤ asked + sum_by w (here ++ rest)) [
      | true ↦ λ is.
          let parts = and_parts (are_both late c.late) (c.class == from) is in
          let class : c.class ≡ from = eqb-true _ _ parts.1 in
          let same = passed_class late c cs (from + 1) many (omega (arith, class)) in
          let one : asked ≡ w c = ap (λ b. cond b (w c) 0) parts.0 in
          let whole = sum_by-cons w c (here ++ rest) in
          subst (λ ys. sum_by w (c ∷ here ++ ys) ≤ asked + sum_by w (here ++ rest)) (sym same) (omega (arith, one, whole))
      | false ↦ λ is.
          let more = one_weighs w late c cs (from + 1) many in
          let left = sum_by-append w here next in
          let right = sum_by-append w here rest in
          omega (arith, more, left, right)
    ] refl

both_weigh : (w : Claim → ℕ) (cs : List Claim) → sum_by w (by_class false cs) + sum_by w (by_class true cs) ≤ sum_by w cs
both_weigh w [] = omega arith
both_weigh w (c ∷ cs) =
    let timely = one_weighs w false c cs 1 8 in
    let late = one_weighs w true c cs 1 8 in
    let few = both_weigh w cs in
    let whole = sum_by-cons w c cs in
    let one = elim c.late as (λ b. cond {A = ℕ} (not b) (w c) 0 + cond {A = ℕ} b (w c) 0 ≡ w c) [ true ↦ omega arith | false ↦ omega arith ] in
    omega (arith, timely, late, few, one, whole)

pub order_weighs : (w : Claim → ℕ) (cs : List Claim) → sum_by w (in_order cs) ≤ sum_by w cs
order_weighs w cs =
    let both = both_weigh w cs in
    let parts = sum_by-append w (by_class false cs) (by_class true cs) in
    omega (arith, both, parts)

after_weighs : (v : ClaimItem → ℕ) (w : Claim → ℕ) → ((before : Option Claim) (c : Claim) → v (claim_after before c) ≡ w c) → (before : Option Claim) (cs : List Claim)
    → sum_by v (row_after before cs) ≡ sum_by w cs
after_weighs v w same before [] = refl
after_weighs v w same before (c ∷ cs) =
    let rest = after_weighs v w same (Some c) cs in
    let one = same before c in
    let items = sum_by-cons v (claim_after before c) (row_after (Some c) cs) in
    let claims = sum_by-cons w c cs in
    omega (arith, rest, one, items, claims)

-- in its row each claim weighs what it does
pub row_weighs : (v : ClaimItem → ℕ) (w : Claim → ℕ) → ((before : Option Claim) (c : Claim) → v (claim_after before c) ≡ w c) → (cs : List Claim) → sum_by v (in_row cs) ≡ sum_by w cs
row_weighs v w same cs = ap (sum_by v) (row_is cs) ∙ after_weighs v w same None cs
