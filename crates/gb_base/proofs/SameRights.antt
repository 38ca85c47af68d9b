-- Rights with the same number are the same.
use Rattle.std.proofs.Common.{◌≡◌, true, false, eqb, refl, sym, subst}
use Rattle.std.proofs.lemmas.Bool.{and_from, and_parts, both_ways, eq-eqb, eqb-true, false_from_ne_true}
use Rattle.gb_base.specs.RightNo.{RightNo, same_right}

pub right_is : (a b : RightNo) → same_right a b ≡ true → a ≡ b
right_is a b same =
    let parts = and_parts (eqb a.receipt b.receipt) (eqb a.act b.act) same in
    let receipt = eqb-true a.receipt b.receipt parts.0 in
    let act = eqb-true a.act b.act parts.1 in
    λ i. record { receipt = receipt i; act = act i }

pub right_self : (a : RightNo) → same_right a a ≡ true
right_self a = and_from (eqb a.receipt a.receipt) (eqb a.act a.act) (eq-eqb a.receipt a.receipt refl) (eq-eqb a.act a.act refl)

pub right_from : (a b : RightNo) → a ≡ b → same_right a b ≡ true
right_from a b e = subst (λ c. same_right a c ≡ true) e (right_self a)

pub right_turned : (a b : RightNo) → same_right a b ≡ true → same_right b a ≡ true
right_turned a b same = right_from b a (sym (right_is a b same))

pub others_turned : (a b : RightNo) → same_right a b ≡ false → same_right b a ≡ false
others_turned a b other = false_from_ne_true (same_right b a) (λ same. both_ways (same_right a b) other (right_turned b a same))
