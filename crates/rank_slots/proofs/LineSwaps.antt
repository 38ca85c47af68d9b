-- What an exchange leaves of a line.
use Rattle.std.proofs.Common.{◌≡◌, ℕ, zero, suc, ◌+◌, ◌-◌, Bool, true, false, cond, eqb, List, [], ◌∷◌, filter, take, refl, sym, ap, ◌∙◌, subst, ⊎_elim, arith}
use Rattle.std.proofs.lemmas.Bool.{cond-true, or_cases, or_parts}
use Rattle.gb_base.specs.RightNo.{RightNo, same_right}
use Rattle.gb_base.proofs.SameRights.{others_turned, right_is}
use Rattle.rank_slots.specs.CanFill.{is_swapped}
use Rattle.rank_slots.specs.CentLine.{cents_of, exchange, exchange_all, exchanged, is_of_either}
use Rattle.rank_slots.specs.declared.places.Swap.{Swap}
use Rattle.rank_slots.proofs.LineCounts.{counted, tally}
use Rattle.rank_slots.proofs.Precedence.{Precedes}

-- neither right of the exchange passes
pub record PassesNeither (p : RightNo → Bool) (s : Swap) : Type 0 where
  pub recede : p s.recede ≡ false
  pub rise : p s.rise ≡ false

-- a cent of the two rights passes as they do
pub either_like : (p : RightNo → Bool) (v : Bool) (s : Swap) (c : RightNo) → p s.recede ≡ v → p s.rise ≡ v → is_of_either s c ≡ true → p c ≡ v
either_like p v s c recede rise is =
    ⊎_elim (λ e. subst (λ r. p r ≡ v) (right_is s.recede c e) recede) (λ e. subst (λ r. p r ≡ v) (right_is s.rise c e) rise)
    (or_cases (same_right s.recede c) (same_right s.rise c) is)

pub counted_exchanged : (p : RightNo → Bool) (s : Swap) → PassesNeither p s → (left : ℕ) (cs : List RightNo) → counted p (exchanged s left cs) ≡ counted p cs
counted_exchanged p s neither left [] = refl
counted_exchanged p s neither left (c ∷ cs) =
    elim (is_of_either s c)
    as (λ b. is_of_either s c ≡ b → counted p (cond b (cond (eqb left 0) (s.recede ∷ exchanged s 0 cs) (s.rise ∷ exchanged s (left - 1) cs)) (c ∷ exchanged s left cs)) ≡ tally (p c) + counted p cs) [
      | true ↦ λ is.
          let own : tally (p c) ≡ 0 = ap tally (either_like p false s c neither.recede neither.rise is) in
          let recede : tally (p s.recede) ≡ 0 = ap tally neither.recede in
          let rise : tally (p s.rise) ≡ 0 = ap tally neither.rise in
          elim (eqb left 0) as (λ d. counted p (cond d (s.recede ∷ exchanged s 0 cs) (s.rise ∷ exchanged s (left - 1) cs)) ≡ tally (p c) + counted p cs) [
            | true ↦ omega (arith, counted_exchanged p s neither 0 cs)
            | false ↦ omega (arith, counted_exchanged p s neither (left - 1) cs)
          ]
      | false ↦ λ other. ap (λ n. tally (p c) + n) (counted_exchanged p s neither left cs)
    ] refl

-- where one test passes both rights and another neither, an exchange leaves how many of the first cents that pass the one pass the other
pub front_exchanged : (k p : RightNo → Bool) (s : Swap) → k s.recede ≡ true → k s.rise ≡ true → PassesNeither p s → (left t : ℕ) (cs : List RightNo)
    → counted p (take t (filter k (exchanged s left cs))) ≡ counted p (take t (filter k cs))
front_exchanged k p s recedes rises neither left t [] = refl
front_exchanged k p s recedes rises neither left zero (c ∷ cs) = refl
front_exchanged k p s recedes rises neither left (suc t) (c ∷ cs) =
    elim (is_of_either s c)
    as (λ b. is_of_either s c ≡ b → counted p (take (suc t) (filter k (cond b (cond (eqb left 0) (s.recede ∷ exchanged s 0 cs) (s.rise ∷ exchanged s (left - 1) cs)) (c ∷ exchanged s left cs)))) ≡ counted p (take (suc t) (filter k (c ∷ cs)))) [
      | true ↦ λ is.
          let keep : k c ≡ true = either_like k true s c recedes rises is in
          let own : tally (p c) ≡ 0 = ap tally (either_like p false s c neither.recede neither.rise is) in
          let recede : tally (p s.recede) ≡ 0 = ap tally neither.recede in
          let rise : tally (p s.rise) ≡ 0 = ap tally neither.rise in
          subst (λ zs. counted p (take (suc t) (filter k (cond (eqb left 0) (s.recede ∷ exchanged s 0 cs) (s.rise ∷ exchanged s (left - 1) cs)))) ≡ counted p (take (suc t) zs))
          (sym (cond-true (k c) (c ∷ filter k cs) (filter k cs) keep))
          (elim (eqb left 0) as (λ d. counted p (take (suc t) (filter k (cond d (s.recede ∷ exchanged s 0 cs) (s.rise ∷ exchanged s (left - 1) cs)))) ≡ tally (p c) + counted p (take t (filter k cs))) [
            | true ↦
                subst (λ zs. counted p (take (suc t) zs) ≡ tally (p c) + counted p (take t (filter k cs)))
                (sym (cond-true (k s.recede) (s.recede ∷ filter k (exchanged s 0 cs)) (filter k (exchanged s 0 cs)) recedes))
                (omega (arith, front_exchanged k p s recedes rises neither 0 t cs))
            | false ↦
                subst (λ zs. counted p (take (suc t) zs) ≡ tally (p c) + counted p (take t (filter k cs)))
                (sym (cond-true (k s.rise) (s.rise ∷ filter k (exchanged s (left - 1) cs)) (filter k (exchanged s (left - 1) cs)) rises))
                (omega (arith, front_exchanged k p s recedes rises neither (left - 1) t cs))
          ])
      | false ↦ λ other.
          elim (k c) as (λ d. counted p (take (suc t) (cond d (c ∷ filter k (exchanged s left cs)) (filter k (exchanged s left cs)))) ≡ counted p (take (suc t) (cond d (c ∷ filter k cs) (filter k cs)))) [
            | true ↦ ap (λ n. tally (p c) + n) (front_exchanged k p s recedes rises neither left t cs)
            | false ↦ front_exchanged k p s recedes rises neither left (suc t) cs
          ]
    ] refl

pub precedes_exchanged : (p q : RightNo → Bool) (s : Swap) → PassesNeither p s → PassesNeither q s → (left : ℕ) (cs : List RightNo) → Precedes p q cs → Precedes p q (exchanged s left cs)
precedes_exchanged p q s first last left [] ahead = tt
precedes_exchanged p q s first last left (c ∷ cs) ahead =
    elim (is_of_either s c)
    as (λ b. Precedes p q (cond b (cond (eqb left 0) (s.recede ∷ exchanged s 0 cs) (s.rise ∷ exchanged s (left - 1) cs)) (c ∷ exchanged s left cs))) [
      | true ↦
          elim (eqb left 0) as (λ d. Precedes p q (cond d (s.recede ∷ exchanged s 0 cs) (s.rise ∷ exchanged s (left - 1) cs))) [
            | true ↦ (λ is. absurd (cc (last.recede, is)), precedes_exchanged p q s first last 0 cs ahead.1)
            | false ↦ (λ is. absurd (cc (last.rise, is)), precedes_exchanged p q s first last (left - 1) cs ahead.1)
          ]
      | false ↦ (λ is. counted_exchanged p s first left cs ∙ ahead.0 is, precedes_exchanged p q s first last left cs ahead.1)
    ]

-- ---- all exchanges, where they name none of the rights

-- a right that none of these exchanges names
pub unswapped : (s : Swap) (ss : List Swap) (r : RightNo) → is_swapped (s ∷ ss) r ≡ false → PassesNeither (same_right r) s × (is_swapped ss r ≡ false)
unswapped s ss r none =
    let parts = or_parts (is_of_either s r) (is_swapped ss r) none in
    let two = or_parts (same_right s.recede r) (same_right s.rise r) parts.0 in
    (record { recede = others_turned s.recede r two.0; rise = others_turned s.rise r two.1 }, parts.1)

pub precedes_exchange_all : (a c : RightNo) (ss : List Swap) (line : List RightNo) → is_swapped ss a ≡ false → is_swapped ss c ≡ false
    → Precedes (same_right a) (same_right c) line → Precedes (same_right a) (same_right c) (exchange_all line ss)
precedes_exchange_all a c [] line first last ahead = ahead
precedes_exchange_all a c (s ∷ ss) line first last ahead =
    let here = unswapped s ss a first in
    let there = unswapped s ss c last in
    precedes_exchange_all a c ss (exchange line s) here.1 there.1
    (precedes_exchanged (same_right a) (same_right c) s here.0 there.0 (cents_of s.rise line) line ahead)
