-- What an exchange makes of the cents of one piece.
use Rattle.std.proofs.Common.{◌≡◌, ℕ, ◌+◌, ◌-◌, ◌==◌, true, false, cond, List, ◌∷◌, ◌++◌, min, refl, replicate, sym, zero, suc, ap, arith, inl, inr, ◌∙◌}
use Rattle.std.proofs.lemmas.Bool.{cases_lt, ne_eqb}
use Rattle.std.proofs.lemmas.List.{append_assoc, replicate-append-replicate}
use Rattle.gb_base.specs.RightNo.{RightNo}
use Rattle.rank_slots.specs.CentLine.{exchanged, is_of_either}
use Rattle.rank_slots.specs.declared.places.Swap.{Swap}

-- a third right keeps its cents
pub third_keeps : (s : Swap) (left n : ℕ) (c : RightNo) (cs : List RightNo) → is_of_either s c ≡ false → exchanged s left (replicate n c ++ cs) ≡ replicate n c ++ exchanged s left cs
third_keeps s left zero c cs third = refl
third_keeps s left (suc n) c cs third =
    (λ i. cond (third i) (cond (left == 0) (s.recede ∷ exchanged s 0 (replicate n c ++ cs)) (s.rise ∷ exchanged s (left - 1) (replicate n c ++ cs))) (c ∷ exchanged s left (replicate n c ++ cs)))
    ∙ ap (λ t. c ∷ t) (third_keeps s left n c cs third)

-- while cents are left to rise, those of the two rights rise
all_rise : (s : Swap) (n m : ℕ) (c : RightNo) (cs : List RightNo) → is_of_either s c ≡ true → exchanged s (n + m) (replicate n c ++ cs) ≡ replicate n s.rise ++ exchanged s m cs
all_rise s zero m c cs party = ap (λ k. exchanged s k cs) (omega arith)
all_rise s (suc n) m c cs party =
    let some : (suc n + m == 0) ≡ false = ne_eqb (suc n + m) 0 (λ h. absurd (omega arith)) in
    let next : suc n + m - 1 ≡ n + m = omega arith in
    (λ i. cond (party i) (cond (some i) (s.recede ∷ exchanged s 0 (replicate n c ++ cs)) (s.rise ∷ exchanged s (next i) (replicate n c ++ cs))) (c ∷ exchanged s (suc n + m) (replicate n c ++ cs)))
    ∙ ap (λ t. s.rise ∷ t) (all_rise s n m c cs party)

-- where no cents are left to rise, those of the two rights recede
all_recede : (s : Swap) (n : ℕ) (c : RightNo) (cs : List RightNo) → is_of_either s c ≡ true → exchanged s 0 (replicate n c ++ cs) ≡ replicate n s.recede ++ exchanged s 0 cs
all_recede s zero c cs party = refl
all_recede s (suc n) c cs party =
    (λ i. cond (party i) (s.recede ∷ exchanged s 0 (replicate n c ++ cs)) (c ∷ exchanged s 0 (replicate n c ++ cs)))
    ∙ ap (λ t. s.recede ∷ t) (all_recede s n c cs party)

-- a piece of one of the two rights rises as far as cents are left to rise, and recedes from there on
pub party_splits : (s : Swap) (left n : ℕ) (c : RightNo) (cs : List RightNo) → is_of_either s c ≡ true
    → exchanged s left (replicate n c ++ cs) ≡ replicate (min left n) s.rise ++ (replicate (n - min left n) s.recede ++ exchanged s (left - min left n) cs)
party_splits s left n c cs party = elim (cases_lt left n) [
  | inl less ↦
      let all : min left n ≡ left = omega arith in
      let none : left - left ≡ 0 = omega arith in
      let whole : left + (n - left) ≡ n = omega arith in
      let zeroed : left + 0 ≡ left = omega arith in
      let split = (λ i. exchanged s (sym zeroed i) (replicate (sym whole i) c ++ cs))
      ∙ ap (λ t. exchanged s (left + 0) (t ++ cs)) (sym (replicate-append-replicate left (n - left) c))
      ∙ ap (exchanged s (left + 0)) (append_assoc (replicate left c) (replicate (n - left) c) cs)
      ∙ all_rise s left 0 c (replicate (n - left) c ++ cs) party
      ∙ ap (λ t. replicate left s.rise ++ t) (all_recede s (n - left) c cs party) in
      rw (all, none) split
  | inr more ↦
      let all : min left n ≡ n = omega arith in
      let none : n - n ≡ 0 = omega arith in
      let whole : n + (left - n) ≡ left = omega arith in
      let split = ap (λ k. exchanged s k (replicate n c ++ cs)) (sym whole) ∙ all_rise s n (left - n) c cs party in
      rw (all, none) split
]
