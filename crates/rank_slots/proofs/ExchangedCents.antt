-- What an exchange makes of a line: where the cents of the two rights stand, and in which order they are the one's and the other's.
use Rattle.std.proofs.Common.{◌≡◌, ℕ, zero, suc, ◌+◌, ◌-◌, ◌≤◌, true, false, cond, eqb, not, List, [], ◌∷◌, ◌++◌, filter, map, replicate, refl, sym, ap, ◌∙◌, arith}
use Rattle.std.proofs.lemmas.Bool.{ne_eqb, or_left, or_right}
use Rattle.gb_base.specs.RightNo.{RightNo, same_right}
use Rattle.gb_base.proofs.SameRights.{right_self}
use Rattle.rank_slots.specs.CentLine.{cents_of, exchange, exchanged, is_of_either}
use Rattle.rank_slots.specs.declared.places.Swap.{Swap}
use Rattle.rank_slots.proofs.LineCents.{apart_rights, counted_either}
use Rattle.rank_slots.proofs.LineCounts.{counted, counted_is, tally}

recedes : (s : Swap) → is_of_either s s.recede ≡ true
recedes s = or_left (same_right s.recede s.recede) (same_right s.rise s.recede) (right_self s.recede)

rises : (s : Swap) → is_of_either s s.rise ≡ true
rises s = or_right (same_right s.recede s.rise) (same_right s.rise s.rise) (right_self s.rise)

-- the cents of the two stand where theirs stood
two_stay : (s : Swap) (left : ℕ) (cs : List RightNo) → map (is_of_either s) (exchanged s left cs) ≡ map (is_of_either s) cs
two_stay s left [] = refl
two_stay s left (c ∷ cs) =
    elim (is_of_either s c)
    as (λ b. is_of_either s c ≡ b → map (is_of_either s) (cond b (cond (eqb left 0) (s.recede ∷ exchanged s 0 cs) (s.rise ∷ exchanged s (left - 1) cs)) (c ∷ exchanged s left cs)) ≡ b ∷ map (is_of_either s) cs) [
      | true ↦ λ is.
          elim (eqb left 0) as (λ d. map (is_of_either s) (cond d (s.recede ∷ exchanged s 0 cs) (s.rise ∷ exchanged s (left - 1) cs)) ≡ true ∷ map (is_of_either s) cs) [
            | true ↦ λ i. recedes s i ∷ two_stay s 0 cs i
            | false ↦ λ i. rises s i ∷ two_stay s (left - 1) cs i
          ]
      | false ↦ λ other. λ i. other i ∷ two_stay s left cs i
    ] refl

-- the cents of all other rights are as before
others_stay : (s : Swap) (left : ℕ) (cs : List RightNo) → filter (λ c. not (is_of_either s c)) (exchanged s left cs) ≡ filter (λ c. not (is_of_either s c)) cs
others_stay s left [] = refl
others_stay s left (c ∷ cs) =
    let kept = filter (λ c. not (is_of_either s c)) in
    elim (is_of_either s c)
    as (λ b. is_of_either s c ≡ b → kept (cond b (cond (eqb left 0) (s.recede ∷ exchanged s 0 cs) (s.rise ∷ exchanged s (left - 1) cs)) (c ∷ exchanged s left cs)) ≡ cond (not b) (c ∷ kept cs) (kept cs)) [
      | true ↦ λ is.
          elim (eqb left 0) as (λ d. kept (cond d (s.recede ∷ exchanged s 0 cs) (s.rise ∷ exchanged s (left - 1) cs)) ≡ kept cs) [
            | true ↦ (λ i. cond (not (recedes s i)) (s.recede ∷ kept (exchanged s 0 cs)) (kept (exchanged s 0 cs))) ∙ others_stay s 0 cs
            | false ↦ (λ i. cond (not (rises s i)) (s.rise ∷ kept (exchanged s (left - 1) cs)) (kept (exchanged s (left - 1) cs))) ∙ others_stay s (left - 1) cs
          ]
      | false ↦ λ other. (λ i. cond (not (other i)) (c ∷ kept (exchanged s left cs)) (kept (exchanged s left cs))) ∙ ap (λ ys. c ∷ ys) (others_stay s left cs)
    ] refl

-- with no cents left to rise, all cents of the two are the receding one's
all_recede : (s : Swap) (cs : List RightNo) → filter (is_of_either s) (exchanged s 0 cs) ≡ replicate (counted (is_of_either s) cs) s.recede
all_recede s [] = refl
all_recede s (c ∷ cs) =
    let kept = filter (is_of_either s) in
    let n = counted (is_of_either s) cs in
    let next : tally true + n ≡ suc n = omega arith in
    let same : tally false + n ≡ n = omega arith in
    elim (is_of_either s c)
    as (λ b. is_of_either s c ≡ b → kept (cond b (s.recede ∷ exchanged s 0 cs) (c ∷ exchanged s 0 cs)) ≡ replicate (tally b + n) s.recede) [
      | true ↦ λ is.
          (λ i. cond (recedes s i) (s.recede ∷ kept (exchanged s 0 cs)) (kept (exchanged s 0 cs)))
          ∙ ap (λ ys. s.recede ∷ ys) (all_recede s cs)
          ∙ ap (λ k. replicate k s.recede) (sym next)
      | false ↦ λ other.
          (λ i. cond (other i) (c ∷ kept (exchanged s 0 cs)) (kept (exchanged s 0 cs))) ∙ all_recede s cs ∙ ap (λ k. replicate k s.recede) (sym same)
    ] refl

-- the first cents of the two are the rising one's
first_rise : (s : Swap) (left : ℕ) (cs : List RightNo) → left ≤ counted (is_of_either s) cs
    → filter (is_of_either s) (exchanged s left cs) ≡ replicate left s.rise ++ replicate (counted (is_of_either s) cs - left) s.recede
first_rise s zero cs few =
    let none : counted (is_of_either s) cs - 0 ≡ counted (is_of_either s) cs = omega arith in
    all_recede s cs ∙ ap (λ k. replicate k s.recede) (sym none)
first_rise s (suc left) [] few = absurd (omega arith)
first_rise s (suc left) (c ∷ cs) few =
    let kept = filter (is_of_either s) in
    let n = counted (is_of_either s) cs in
    let some : eqb (suc left) 0 ≡ false = ne_eqb (suc left) 0 (λ h. absurd (omega arith)) in
    let next : suc left - 1 ≡ left = omega arith in
    elim (is_of_either s c)
    as (λ b. is_of_either s c ≡ b → suc left ≤ tally b + n
    → kept (cond b (cond (eqb (suc left) 0) (s.recede ∷ exchanged s 0 cs) (s.rise ∷ exchanged s (suc left - 1) cs)) (c ∷ exchanged s (suc left) cs)) ≡ replicate (suc left) s.rise ++ replicate ((tally b + n) - suc left) s.recede) [
      | true ↦ λ is less.
          let rest : n - left ≡ (tally true + n) - suc left = omega arith in
          (λ i. kept (cond (some i) (s.recede ∷ exchanged s 0 cs) (s.rise ∷ exchanged s (next i) cs)))
          ∙ (λ i. cond (rises s i) (s.rise ∷ kept (exchanged s left cs)) (kept (exchanged s left cs)))
          ∙ ap (λ ys. s.rise ∷ ys) (first_rise s left cs (omega arith))
          ∙ ap (λ k. s.rise ∷ (replicate left s.rise ++ replicate k s.recede)) rest
      | false ↦ λ other less.
          let rest : n - suc left ≡ (tally false + n) - suc left = omega arith in
          (λ i. cond (other i) (c ∷ kept (exchanged s (suc left) cs)) (kept (exchanged s (suc left) cs)))
          ∙ first_rise s (suc left) cs (omega arith)
          ∙ ap (λ k. replicate (suc left) s.rise ++ replicate k s.recede) rest
    ] refl few

-- ---- of the whole line

pub stay : (s : Swap) (line : List RightNo) → map (is_of_either s) (exchange line s) ≡ map (is_of_either s) line
stay s line = two_stay s (cents_of s.rise line) line

pub thirds : (s : Swap) (line : List RightNo) → filter (λ c. not (is_of_either s c)) (exchange line s) ≡ filter (λ c. not (is_of_either s c)) line
thirds s line = others_stay s (cents_of s.rise line) line

pub in_order : (s : Swap) (line : List RightNo) → same_right s.recede s.rise ≡ false
    → filter (is_of_either s) (exchange line s) ≡ replicate (cents_of s.rise line) s.rise ++ replicate (cents_of s.recede line) s.recede
in_order s line two =
    let rise = counted_is (same_right s.rise) line in
    let recede = counted_is (same_right s.recede) line in
    let both = counted_either (same_right s.recede) (same_right s.rise) (apart_rights s.recede s.rise two) line in
    let left : counted (is_of_either s) line - cents_of s.rise line ≡ cents_of s.recede line = omega arith in
    first_rise s (cents_of s.rise line) line (omega arith) ∙ ap (λ k. replicate (cents_of s.rise line) s.rise ++ replicate k s.recede) left
