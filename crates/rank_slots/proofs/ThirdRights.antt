-- A further exchange changes nothing of what third rights get.
use Rattle.std.proofs.Common.{◌≡◌, ℕ, ◌+◌, ◌-◌, Bool, true, false, cond, not, Option, Some, None, List, [], ◌∷◌, ◌++◌, filter, take, refl, sym, ap, ◌∙◌}
use Rattle.std.proofs.lemmas.Bool.{not_from_false, or_parts}
use Rattle.std.proofs.lemmas.List.Elements.{All-contains, Contains-push}
use Rattle.std.proofs.lemmas.List.Folds.{list_any-append}
use Rattle.std.proofs.lemmas.List.Sums.{fold_push}
use Rattle.gb_base.specs.RightNo.{RightNo, same_right}
use Rattle.rank_slots.specs.CanFill.{CanFill, CanKnot, CanSwap, StandsAlone, is_swapped}
use Rattle.rank_slots.specs.CentLine.{cent_line, cents_of, exchange, exchange_all, is_dropped, is_of_either, written}
use Rattle.rank_slots.specs.Filled.{Filled, line, with_swap}
use Rattle.rank_slots.specs.Groups.{group_of, keeps_place}
use Rattle.rank_slots.specs.Payments.{claim_of, is_of_group, knot_of, share_in_group, pay, pay_by, line_pay}
use Rattle.rank_slots.specs.declared.places.Knot.{Knot}
use Rattle.rank_slots.specs.declared.places.Place.{Place}
use Rattle.rank_slots.specs.declared.places.Swap.{Swap}
use Rattle.rank_slots.proofs.GroupMembers.{apart_from_alone}
use Rattle.rank_slots.proofs.KnotPay.{found_all}
use Rattle.rank_slots.proofs.LineCounts.{counted, counted_is}
use Rattle.rank_slots.proofs.LineSwaps.{PassesNeither, front_exchanged}
use Rattle.rank_slots.proofs.PlaceLines.{AreDifferent, kept_undropped}

-- both rights of a further exchange stand alone, on a place that is not dropped
record IsFurther (places : List Place) (s : Swap) : Type 0 where
  differ : AreDifferent places
  recede : StandsAlone places s.recede
  rise : StandsAlone places s.rise
  recede_kept : is_dropped places s.recede ≡ false
  rise_kept : is_dropped places s.rise ≡ false

further_front : (places : List Place) (swaps : List Swap) (s : Swap) (p : RightNo → Bool) (t : ℕ) → IsFurther places s → PassesNeither p s
    → counted p (take t (cent_line places (swaps ++ s ∷ []))) ≡ counted p (take t (cent_line places swaps))
unfolding cent_line
further_front places swaps s p t further neither =
    let before = exchange_all (written places) swaps in
    ap (λ l. counted p (take t (filter (λ c. not (is_dropped places c)) l))) (fold_push exchange (written places) swaps s)
    ∙ front_exchanged (λ c. not (is_dropped places c)) p s (not_from_false (is_dropped places s.recede) further.recede_kept) (not_from_false (is_dropped places s.rise) further.rise_kept)
    neither (cents_of s.rise before) t before

third_line : (filled : Filled) (s : Swap) (r : RightNo) (t : ℕ) → IsFurther filled.places s → is_of_either s r ≡ false → line_pay (with_swap filled s) r t ≡ line_pay filled r t
third_line filled s r t further third =
    let parts = or_parts (same_right s.recede r) (same_right s.rise r) third in
    let test = is_of_group (group_of filled.places r) in
    let neither : PassesNeither test s =
    record { recede = apart_from_alone filled.places s.recede r further.differ further.recede parts.0; rise = apart_from_alone filled.places s.rise r further.differ further.rise parts.1 } in
    ap (share_in_group (group_of filled.places r) r)
    (counted_is test (take t (line (with_swap filled s)))
    ∙ (further_front filled.places filled.swaps s test t further neither
    ∙ sym (counted_is test (take t (line filled)))))

unswapped_last : (swaps : List Swap) (s : Swap) (r : RightNo) → is_swapped (swaps ++ s ∷ []) r ≡ false → is_of_either s r ≡ false
unswapped_last swaps s r none =
    let parts = or_parts (is_swapped swaps r) (is_swapped (s ∷ []) r) (sym (list_any-append (λ o. is_of_either o r) swaps (s ∷ [])) ∙ none) in
    (or_parts (is_of_either s r) false parts.1).0

third_pay : (filled : Filled) (s : Swap) (r : RightNo) (t : ℕ) (knot : Option Knot) → IsFurther filled.places s → CanFill (with_swap filled s) → is_of_either s r ≡ false → knot_of filled.knots r ≡ knot
    → pay_by knot (with_swap filled s) r t ≡ pay_by knot filled r t
third_pay filled s r t None further fits third none = third_line filled s r t further third
third_pay filled s r t (Some k) further fits third found =
    let knot = found_all (CanKnot filled.places (filled.swaps ++ s ∷ [])) filled.knots r k fits.knots found in
    let reserved = unswapped_last filled.swaps s k.reserved knot.reserved.unswapped in
    let exercised = unswapped_last filled.swaps s k.exercised knot.exercised.unswapped in
    let without = third_line filled s k.reserved (t - claim_of filled.places k.exercised) further reserved in
    let first = third_line filled s k.reserved t further reserved in
    let last = third_line filled s k.exercised t further exercised in
    λ i. cond (same_right k.reserved r) (without i) (first i + last i - without i)

pub third_right : (filled : Filled) (s : Swap) (r : RightNo) (t : ℕ) → CanFill (with_swap filled s) → keeps_place filled.places s.recede ≡ true → keeps_place filled.places s.rise ≡ true
    → is_of_either s r ≡ false → pay (with_swap filled s) r t ≡ pay filled r t
third_right filled s r t fits recede rise third =
    let own = All-contains (CanSwap filled.places) (filled.swaps ++ s ∷ []) s fits.swaps (Contains-push filled.swaps s) in
    third_pay filled s r t (knot_of filled.knots r)
    (record {
      differ = fits.places.distinct;
      recede = own.0;
      rise = own.1;
      recede_kept = kept_undropped s.recede filled.places fits.places.distinct recede;
      rise_kept = kept_undropped s.rise filled.places fits.places.distinct rise;
    })
    fits third refl
