-- What is looked up by its number in a list that is numbered.
use Rattle.std.proofs.Common.{◌≡◌, ℕ, zero, suc, ◌+◌, ◌-◌, ◌<◌, eqb, true, false, cond, ◌==◌, List, [], ◌∷◌, find, Some, None, option_map, slice_get, refl, sym, ap, subst, ◌∙◌, arith}
use Rattle.std.specs.List.{enumerate_from}
use Rattle.std.proofs.lemmas.Bool.Decides.{nat_tests}
use Rattle.registrar.specs.RegisterState.{verdict_among}
use Rattle.registrar.specs.declared.verdicts.Verdict.{Verdict}

-- none has a number below the first
pub none_below : (vs : List Verdict) (a n : ℕ) → n < a → verdict_among (enumerate_from a vs) n ≡ None
none_below [] a n below = refl
none_below (v ∷ vs) a n below =
    let other : eqb a n ≡ false = grind (arith, nat_tests, below) in
    subst (λ b. option_map (λ (p : ℕ × Verdict). p.1) (cond b (Some (a, v)) (find (λ p. p.0 == n) (enumerate_from (a + 1) vs))) ≡ None) (sym other)
    (none_below vs (a + 1) n (omega arith))

pub numbered_from : (vs : List Verdict) (a k : ℕ) → verdict_among (enumerate_from a vs) (a + k) ≡ slice_get vs k
numbered_from [] a k = refl
numbered_from (v ∷ vs) a zero =
    let same : eqb a (a + 0) ≡ true = grind (arith, nat_tests) in
    subst (λ b. option_map (λ (p : ℕ × Verdict). p.1) (cond b (Some (a, v)) (find (λ p. p.0 == a + 0) (enumerate_from (a + 1) vs))) ≡ Some v) (sym same) refl
numbered_from (v ∷ vs) a (suc k) =
    let other : eqb a (a + suc k) ≡ false = grind (arith, nat_tests) in
    let next : a + suc k ≡ (a + 1) + k = omega arith in
    subst (λ b. option_map (λ (p : ℕ × Verdict). p.1) (cond b (Some (a, v)) (find (λ p. p.0 == a + suc k) (enumerate_from (a + 1) vs))) ≡ slice_get vs k) (sym other)
    (ap (λ n. verdict_among (enumerate_from (a + 1) vs) n) next ∙ numbered_from vs (a + 1) k)

pub numbered : (vs : List Verdict) (n : ℕ) → 0 < n → verdict_among (enumerate_from 1 vs) n ≡ slice_get vs (n - 1)
numbered vs n positive =
    let is : n ≡ 1 + (n - 1) = omega arith in
    ap (verdict_among (enumerate_from 1 vs)) is ∙ numbered_from vs 1 (n - 1)
