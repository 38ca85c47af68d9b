-- From the end of its line on, more money gives no right more.
use Rattle.std.proofs.Common.{◌≡◌, ℕ, ◌+◌, ◌-◌, ◌*◌, ◌≤◌, ◌==◌, Bool, true, false, cond, not, List, [], ◌∷◌, Some, None, count_by, filter, find, length, replicate, sum_by, refl, sym, ap, ◌∙◌, ⊎_elim, arith}
use Rattle.std.specs.Prelude.{min}
use Rattle.std.specs.Option.{option_map_or}
use Rattle.std.proofs.lemmas.Bool.{cases_lt}
use Rattle.std.proofs.lemmas.List.{length-append, length-replicate, take_all}
use Rattle.std.proofs.lemmas.List.Sums.{sum_by-cons}
use Rattle.gb_base.specs.Limits.{most_sum}
use Rattle.gb_base.specs.RightNo.{RightNo, same_right}
use Rattle.rank_slots.specs.CanFill.{CanFill}
use Rattle.rank_slots.specs.CentLine.{cent_line, exchange, exchange_all, exchanged, is_dropped, is_of_either, written}
use Rattle.rank_slots.specs.Filled.{Filled, line}
use Rattle.rank_slots.specs.Groups.{group_of, is_of}
use Rattle.rank_slots.specs.Payments.{claim_of, is_of_group, knot_of, pay, pay_by, pay_reserved, line_pay, share_in_group}
use Rattle.rank_slots.specs.declared.places.Knot.{Knot}
use Rattle.rank_slots.specs.declared.places.Place.{Place}
use Rattle.rank_slots.specs.declared.places.Swap.{Swap}

-- ---- how long a line is

swapped_length : (s : Swap) (left : ℕ) (cs : List RightNo) → length (exchanged s left cs) ≡ length cs
swapped_length s left [] = refl
swapped_length s left (c ∷ cs) =
    let none = swapped_length s 0 cs in
    let fewer = swapped_length s (left - 1) cs in
    let same = swapped_length s left cs in
    elim (is_of_either s c) as (λ b. length (cond b (cond (left == 0) (s.recede ∷ exchanged s 0 cs) (s.rise ∷ exchanged s (left - 1) cs)) (c ∷ exchanged s left cs)) ≡ length (c ∷ cs)) [
      | true ↦ elim (left == 0) as (λ b. length (cond b (s.recede ∷ exchanged s 0 cs) (s.rise ∷ exchanged s (left - 1) cs)) ≡ length (c ∷ cs)) [ true ↦ omega (arith, none) | false ↦ omega (arith, fewer) ]
      | false ↦ omega (arith, same)
    ]

exchanged_length : (swaps : List Swap) (cs : List RightNo) → length (exchange_all cs swaps) ≡ length cs
exchanged_length [] cs = refl
exchanged_length (s ∷ ss) cs = exchanged_length ss (exchange cs s) ∙ swapped_length s _ cs

written_length : (places : List Place) → length (written places) ≡ sum_by (λ p. p.claim) places
written_length [] = refl
written_length (p ∷ ps) =
    let both = length-append (replicate p.claim p.right) (written ps) in
    let here = length-replicate p.claim p.right in
    let whole = sum_by-cons (λ (q : Place). q.claim) p ps in
    let rest = written_length ps in
    omega (arith, both, here, whole, rest)

filtered_length : {X : Type 0} (p : X → Bool) (xs : List X) → length (filter p xs) ≤ length xs
filtered_length p [] = omega arith
filtered_length p (x ∷ xs) =
    let rest = filtered_length p xs in
    elim (p x) as (λ b. length (cond b (x ∷ filter p xs) (filter p xs)) ≤ length (x ∷ xs)) [ true ↦ omega (arith, rest) | false ↦ omega (arith, rest) ]

line_length : (places : List Place) (swaps : List Swap) → length (cent_line places swaps) ≤ sum_by (λ p. p.claim) places
unfolding cent_line
line_length places swaps =
    let kept = filtered_length (λ c. not (is_dropped places c)) (exchange_all (written places) swaps) in
    let same = exchanged_length swaps (written places) in
    let all = written_length places in
    omega (arith, kept, same, all)

claim_within : (places : List Place) (r : RightNo) → claim_of places r ≤ sum_by (λ p. p.claim) places
claim_within [] r = omega arith
claim_within (p ∷ ps) r =
    let whole = sum_by-cons (λ (q : Place). q.claim) p ps in
    let rest = claim_within ps r in
    elim (same_right p.right r) as (λ b. option_map_or (λ (q : Place). q.claim) (cond b (Some p) (find (is_of r) ps)) 0 ≤ sum_by (λ q. q.claim) (p ∷ ps)) [ true ↦ omega (arith, whole) | false ↦ omega (arith, whole, rest) ]

-- ---- what a right gets beyond the end of the line

line_beyond : (filled : Filled) (r : RightNo) (t u : ℕ) → length (line filled) ≤ t → length (line filled) ≤ u → line_pay filled r t ≡ line_pay filled r u
line_beyond filled r t u far further =
    let group = group_of filled.places r in
    ap (λ cs. share_in_group group r (count_by (is_of_group group) cs)) (take_all t (line filled) far ∙ sym (take_all u (line filled) further))

pub pay_beyond : (filled : Filled) (r : RightNo) (t u : ℕ) → CanFill filled → 2 * most_sum ≤ t → 2 * most_sum ≤ u → pay filled r t ≡ pay filled r u
pay_beyond filled r t u fits far further =
    let sum = fits.places.sum in
    let short = line_length filled.places filled.swaps in
    let plain : (q : RightNo) → line_pay filled q t ≡ line_pay filled q u = λ q. line_beyond filled q t u (omega (arith, sum, short, far)) (omega (arith, sum, short, further)) in
    let less : (k : Knot) → pay_reserved filled k t ≡ pay_reserved filled k u = λ k.
    let claim = claim_within filled.places k.exercised in
    line_beyond filled k.reserved (t - claim_of filled.places k.exercised) (u - claim_of filled.places k.exercised) (omega (arith, sum, short, claim, far)) (omega (arith, sum, short, claim, further)) in
    elim (knot_of filled.knots r) as (λ o. pay_by o filled r t ≡ pay_by o filled r u) [
      | None ↦ plain r
      | Some k ↦ λ i. cond (same_right k.reserved r) (less k i) (plain k.reserved i + plain k.exercised i - less k i)
    ]

-- so a sum may stop at the greatest number of 64 bits
pub pay_capped : (filled : Filled) (r : RightNo) (t n : ℕ) → CanFill filled → n ≡ min t 18446744073709551615 → pay filled r n ≡ pay filled r t
pay_capped filled r t n fits is =
    ⊎_elim (λ over. pay_beyond filled r n t fits (omega (arith, is, over)) (omega (arith, over))) (λ within. let same : n ≡ t = omega (arith, is, within) in ap (pay filled r) same) (cases_lt 18446744073709551615 t)
