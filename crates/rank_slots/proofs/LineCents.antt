-- Exchanges change nothing of how many cents each right has.
use Rattle.std.proofs.Common.{◌≡◌, ℕ, ◌+◌, ◌-◌, ◌≤◌, ◌||◌, Bool, true, false, cond, eqb, min, not, List, [], ◌∷◌, refl, sym, ap, ◌∙◌, subst, arith}
use Rattle.std.proofs.lemmas.Bool.{both_ways, eqb-false, eqb-true, false_from_ne_true, not_from_false, or_left, or_parts, or_right}
use Rattle.gb_base.specs.RightNo.{RightNo, same_right}
use Rattle.gb_base.proofs.SameRights.{others_turned, right_is, right_self}
use Rattle.rank_slots.specs.CanFill.{ArePlaces}
use Rattle.rank_slots.specs.CentLine.{cent_line, cents_of, exchange, exchange_all, exchanged, is_dropped, is_of_either, written}
use Rattle.rank_slots.specs.Filled.{Filled, line}
use Rattle.rank_slots.specs.Groups.{keeps_place}
use Rattle.rank_slots.specs.Payments.{claim_of}
use Rattle.rank_slots.specs.declared.places.Place.{Place}
use Rattle.rank_slots.specs.declared.places.Swap.{Swap}
use Rattle.rank_slots.proofs.LineCounts.{counted, counted_agree, counted_is, counted_kept, tally}
use Rattle.rank_slots.proofs.LineSwaps.{counted_exchanged}
use Rattle.rank_slots.proofs.PlaceLines.{AreDifferent, claim_least, claim_written, kept_listed, kept_undropped}
use Rattle.rank_slots.proofs.Precedence.{AreApart}

-- no cent is of two rights that differ
pub apart_rights : (a c : RightNo) → same_right a c ≡ false → AreApart (same_right a) (same_right c)
apart_rights a c two x last =
    false_from_ne_true (same_right a x) (λ own. both_ways (same_right a c) two (subst (λ z. same_right a z ≡ true) (sym (right_is c x last)) own))

-- where no element passes both tests, those that pass one are those that pass the first and those that pass the second
pub counted_either : {X : Type 0} (p q : X → Bool) → AreApart p q → (xs : List X) → counted (λ x. p x || q x) xs ≡ counted p xs + counted q xs
counted_either p q apart [] = refl
counted_either p q apart (x ∷ xs) =
    let rest = counted_either p q apart xs in
    elim (q x) as (λ b. q x ≡ b → tally (p x || b) + counted (λ x. p x || q x) xs ≡ (tally (p x) + counted p xs) + (tally b + counted q xs)) [
      | true ↦ λ pass. subst (λ b. tally (b || true) + counted (λ x. p x || q x) xs ≡ (tally b + counted p xs) + (tally true + counted q xs)) (sym (apart x pass)) (omega arith)
      | false ↦ λ fails.
          elim (p x) as (λ b. tally (b || false) + counted (λ x. p x || q x) xs ≡ (tally b + counted p xs) + (tally false + counted q xs)) [
            | true ↦ omega arith
            | false ↦ omega arith
          ]
    ] refl

-- ---- one exchange

-- the two rights have as many cents together as before
both_kept : (s : Swap) (left : ℕ) (cs : List RightNo) → counted (is_of_either s) (exchanged s left cs) ≡ counted (is_of_either s) cs
both_kept s left [] = refl
both_kept s left (c ∷ cs) =
    let recede : tally (is_of_either s s.recede) ≡ 1 = ap tally (or_left (same_right s.recede s.recede) (same_right s.rise s.recede) (right_self s.recede)) in
    let rise : tally (is_of_either s s.rise) ≡ 1 = ap tally (or_right (same_right s.recede s.rise) (same_right s.rise s.rise) (right_self s.rise)) in
    elim (is_of_either s c)
    as (λ b. is_of_either s c ≡ b → counted (is_of_either s) (cond b (cond (eqb left 0) (s.recede ∷ exchanged s 0 cs) (s.rise ∷ exchanged s (left - 1) cs)) (c ∷ exchanged s left cs)) ≡ tally b + counted (is_of_either s) cs) [
      | true ↦ λ is.
          elim (eqb left 0) as (λ d. counted (is_of_either s) (cond d (s.recede ∷ exchanged s 0 cs) (s.rise ∷ exchanged s (left - 1) cs)) ≡ tally true + counted (is_of_either s) cs) [
            | true ↦ omega (arith, recede, both_kept s 0 cs)
            | false ↦ omega (arith, rise, both_kept s (left - 1) cs)
          ]
      | false ↦ λ other. omega (arith, ap tally other, both_kept s left cs)
    ] refl

-- the rising right has the first of these cents, as many as were left to rise
risen : (s : Swap) → same_right s.recede s.rise ≡ false → (left : ℕ) (cs : List RightNo) → counted (same_right s.rise) (exchanged s left cs) ≡ min left (counted (is_of_either s) cs)
risen s two left [] = omega arith
risen s two left (c ∷ cs) =
    let recede : tally (same_right s.rise s.recede) ≡ 0 = ap tally (others_turned s.recede s.rise two) in
    let rise : tally (same_right s.rise s.rise) ≡ 1 = ap tally (right_self s.rise) in
    elim (is_of_either s c)
    as (λ b. is_of_either s c ≡ b → counted (same_right s.rise) (cond b (cond (eqb left 0) (s.recede ∷ exchanged s 0 cs) (s.rise ∷ exchanged s (left - 1) cs)) (c ∷ exchanged s left cs)) ≡ min left (tally b + counted (is_of_either s) cs)) [
      | true ↦ λ is.
          elim (eqb left 0)
          as (λ d. eqb left 0 ≡ d → counted (same_right s.rise) (cond d (s.recede ∷ exchanged s 0 cs) (s.rise ∷ exchanged s (left - 1) cs)) ≡ min left (tally true + counted (is_of_either s) cs)) [
            | true ↦ λ none. omega (arith, recede, eqb-true left 0 none, risen s two 0 cs)
            | false ↦ λ some. let more = eqb-false left 0 some in omega (arith, rise, more, risen s two (left - 1) cs)
          ] refl
      | false ↦ λ other.
          let own : tally (same_right s.rise c) ≡ 0 = ap tally (or_parts (same_right s.recede c) (same_right s.rise c) other).1 in
          omega (arith, own, risen s two left cs)
    ] refl

-- after an exchange of two rights that differ each right has as many cents as before
two_kept : (s : Swap) (r : RightNo) (cs : List RightNo) → same_right s.recede s.rise ≡ false → counted (same_right r) (exchange cs s) ≡ counted (same_right r) cs
two_kept s r cs two =
    let left = cents_of s.rise cs in
    let apart = apart_rights s.recede s.rise two in
    let had = counted_is (same_right s.rise) cs in
    let before = counted_either (same_right s.recede) (same_right s.rise) apart cs in
    let after = counted_either (same_right s.recede) (same_right s.rise) apart (exchanged s left cs) in
    let both = both_kept s left cs in
    let rise = risen s two left cs in
    elim (same_right s.rise r) as (λ b. same_right s.rise r ≡ b → counted (same_right r) (exchange cs s) ≡ counted (same_right r) cs) [
      | true ↦ λ own. subst (λ z. counted (same_right z) (exchange cs s) ≡ counted (same_right z) cs) (right_is s.rise r own) (omega arith)
      | false ↦ λ other.
          elim (same_right s.recede r) as (λ b. same_right s.recede r ≡ b → counted (same_right r) (exchange cs s) ≡ counted (same_right r) cs) [
            | true ↦ λ own. subst (λ z. counted (same_right z) (exchange cs s) ≡ counted (same_right z) cs) (right_is s.recede r own) (omega arith)
            | false ↦ λ third. counted_exchanged (same_right r) s (record { recede = others_turned s.recede r third; rise = others_turned s.rise r other }) left cs
          ] refl
    ] refl

-- after an exchange of a right with itself each right has as many cents as before
itself_kept : (s : Swap) (r : RightNo) (cs : List RightNo) → same_right s.recede s.rise ≡ true → counted (same_right r) (exchange cs s) ≡ counted (same_right r) cs
itself_kept s r cs one =
    let left = cents_of s.rise cs in
    let same = right_is s.recede s.rise one in
    let either : (c : RightNo) → is_of_either s c ≡ same_right s.rise c =
    λ c. subst (λ z. (same_right z c || same_right s.rise c) ≡ same_right s.rise c) (sym same) (elim (same_right s.rise c) as (λ b. (b || b) ≡ b) [ true ↦ refl | false ↦ refl ]) in
    elim (same_right s.rise r) as (λ b. same_right s.rise r ≡ b → counted (same_right r) (exchange cs s) ≡ counted (same_right r) cs) [
      | true ↦ λ own.
          subst (λ z. counted (same_right z) (exchange cs s) ≡ counted (same_right z) cs) (right_is s.rise r own)
          (sym (counted_agree (is_of_either s) (same_right s.rise) either (exchanged s left cs)) ∙ both_kept s left cs ∙ counted_agree (is_of_either s) (same_right s.rise) either cs)
      | false ↦ λ other.
          let third : same_right s.recede r ≡ false = subst (λ z. same_right z r ≡ false) (sym same) other in
          counted_exchanged (same_right r) s (record { recede = others_turned s.recede r third; rise = others_turned s.rise r other }) left cs
    ] refl

pub exchange_kept : (s : Swap) (r : RightNo) (cs : List RightNo) → counted (same_right r) (exchange cs s) ≡ counted (same_right r) cs
exchange_kept s r cs =
    elim (same_right s.recede s.rise) as (λ b. same_right s.recede s.rise ≡ b → counted (same_right r) (exchange cs s) ≡ counted (same_right r) cs) [
      | true ↦ λ one. itself_kept s r cs one
      | false ↦ λ two. two_kept s r cs two
    ] refl

-- ---- all exchanges

pub all_kept : (r : RightNo) (swaps : List Swap) (cs : List RightNo) → counted (same_right r) (exchange_all cs swaps) ≡ counted (same_right r) cs
all_kept r [] cs = refl
all_kept r (s ∷ swaps) cs = all_kept r swaps (exchange cs s) ∙ exchange_kept s r cs

-- a right that is not dropped has all cents of its claim in the line
pub undropped_cents : (places : List Place) (swaps : List Swap) (r : RightNo) → AreDifferent places → is_dropped places r ≡ false → counted (same_right r) (cent_line places swaps) ≡ claim_of places r
unfolding cent_line
undropped_cents places swaps r differ undropped =
    counted_kept (λ c. not (is_dropped places c)) (same_right r)
    (λ c own. subst (λ z. not (is_dropped places z) ≡ true) (right_is r c own) (not_from_false (is_dropped places r) undropped))
    (exchange_all (written places) swaps)
    ∙ (all_kept r swaps (written places) ∙ claim_written r places differ)

pub kept_cents : (places : List Place) (swaps : List Swap) (r : RightNo) → AreDifferent places → keeps_place places r ≡ true → counted (same_right r) (cent_line places swaps) ≡ claim_of places r
kept_cents places swaps r differ kept = undropped_cents places swaps r differ (kept_undropped r places differ kept)

-- a right that keeps its place has a cent in the line
pub has_cents : (filled : Filled) (r : RightNo) → ArePlaces filled.places → keeps_place filled.places r ≡ true → 1 ≤ counted (same_right r) (line filled)
has_cents filled r places kept =
    subst (λ n. 1 ≤ n) (sym (kept_cents filled.places filled.swaps r places.distinct kept)) (claim_least r filled.places places.claims (kept_listed r filled.places kept))
