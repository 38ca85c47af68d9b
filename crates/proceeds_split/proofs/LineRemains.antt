-- A right gets no less of a greater sum where the smaller sum reaches its end, that of its group and that of its knot.
use Rattle.std.proofs.Common.{◌≡◌, ℕ, ◌-◌, ◌≤◌, ◌==◌, ◌&&◌, ◌||◌, Bool, true, false, not, List, [], ◌∷◌, Some, None, count_by, drop, length, take, refl, sym, ap, ◌∙◌, arith}
use Rattle.std.specs.List.{list_all, list_any}
use Rattle.std.specs.Option.{option_map_or}
use Rattle.std.proofs.lemmas.Bool.{and_parts, eqb-true, false≢true}
use Rattle.std.proofs.lemmas.List.{take-append-drop}
use Rattle.gb_base.specs.RightNo.{RightNo, same_right}
use Rattle.rank_slots.specs.CanFill.{CanFill, CanKnot}
use Rattle.rank_slots.specs.Filled.{Filled, line}
use Rattle.rank_slots.specs.Groups.{group_of, is_of}
use Rattle.rank_slots.specs.Payments.{claim_of, is_of_group, knot_of, pay, pay_exercised, line_pay, reaches_end, share_in_group}
use Rattle.rank_slots.specs.declared.places.Knot.{Knot}
use Rattle.rank_slots.specs.declared.places.Place.{Place}
use Rattle.rank_slots.proofs.GroupMembers.{alone_group}
use Rattle.rank_slots.proofs.KnotPay.{found_all, found_exercised, found_reserved, unfound}
use Rattle.rank_slots.proofs.KnotTies.{AreTied, are_tied, exercised_within, reserved_grows}
use Rattle.rank_slots.proofs.LineCounts.{counted, counted_both, counted_front, counted_is, counted_longer, none_counted, none_from_count}
use Rattle.rank_slots.proofs.LonePay.{lone_pay}

-- where none passes behind a sum, a greater sum has no more that pass
no_more : {X : Type 0} (p : X → Bool) (s t : ℕ) (xs : List X) → s ≤ t → list_any p (drop s xs) ≡ false → (counted p (take t xs) ≡ counted p (take s xs)) × (counted p (take s xs) ≡ counted p xs)
no_more p s t xs more none =
    let behind = none_counted p (drop s xs) none in
    let both = counted_both p (take s xs) (drop s xs) in
    let whole = ap (counted p) (take-append-drop s xs) in
    let longer = counted_longer p s t xs more in
    let front = counted_front p t xs in
    (omega (arith, behind, both, whole, longer, front), omega (arith, behind, both, whole))

-- where neither of two tests holds for any of these places, each of them holds for none
none_of_them : (g : List Place) (f h : Place → Bool) → list_all (λ p. not (f p || h p)) g ≡ true → (list_any f g ≡ false) × (list_all (λ p. not (h p)) g ≡ true)
none_of_them [] f h none = (refl, refl)
none_of_them (p ∷ ps) f h none =
    let parts = and_parts (not (f p || h p)) (list_all (λ q. not (f q || h q)) ps) none in
    let rest = none_of_them ps f h parts.1 in
    let here : (f p ≡ false) × (h p ≡ false) = elim (f p) as (λ a. not (a || h p) ≡ true → (a ≡ false) × (h p ≡ false)) [
      | true ↦ λ fails. absurd (false≢true fails)
      | false ↦ elim (h p) as (λ b. not (false || b) ≡ true → (false ≡ false) × (b ≡ false)) [ true ↦ λ fails. absurd (false≢true fails) | false ↦ λ _. (refl, refl) ]
    ] parts.0 in
    ((λ i. here.0 i || rest.0 i), (λ i. not (here.1 i) && rest.1 i))

none_of_group : (g : List Place) (cs : List RightNo) → list_all (λ p. not (list_any (same_right p.right) cs)) g ≡ true → list_any (is_of_group g) cs ≡ false
none_of_group g [] none = refl
none_of_group g (c ∷ cs) none =
    let parts = none_of_them g (is_of c) (λ p. list_any (same_right p.right) cs) none in
    λ i. parts.0 i || none_of_group g cs parts.1 i

-- ---- knots left aside

line_kept : (filled : Filled) (r : RightNo) (s t : ℕ) → s ≤ t
    → (length (group_of filled.places r) == 1 || list_all (λ p. reaches_end filled p.right s) (group_of filled.places r)) ≡ true → line_pay filled r s ≤ line_pay filled r t
line_kept filled r s t more reached =
    let group = group_of filled.places r in
    elim (length group == 1) as (λ b. (length group == 1) ≡ b → (b || list_all (λ p. reaches_end filled p.right s) group) ≡ true → line_pay filled r s ≤ line_pay filled r t) [
      | true ↦ λ alone _.
          let own = alone_group filled.places r (eqb-true (length group) 1 alone) in
          let one = lone_pay filled r own s in
          let two = lone_pay filled r own t in
          let longer = counted_longer (same_right r) s t (line filled) more in
          omega (arith, one, two, longer)
      | false ↦ λ _ all.
          let none = none_of_group group (drop s (line filled)) all in
          let same = (no_more (is_of_group group) s t (line filled) more none).0 in
          let counts : count_by (is_of_group group) (take s (line filled)) ≡ count_by (is_of_group group) (take t (line filled)) =
          counted_is (is_of_group group) (take s (line filled)) ∙ sym same ∙ sym (counted_is (is_of_group group) (take t (line filled))) in
          let pays : line_pay filled r s ≡ line_pay filled r t = ap (share_in_group group r) counts in
          omega (arith, pays)
    ] refl reached

-- ---- the rights of a knot

-- the exercised right gets its whole claim of a sum that reaches both ends
exercised_whole : (filled : Filled) (k : Knot) (t : ℕ) → AreTied filled k → reaches_end filled k.reserved t ≡ true → reaches_end filled k.exercised t ≡ true → claim_of filled.places k.exercised ≤ pay_exercised filled k t
exercised_whole filled k t tied first last =
    let away : (b : Bool) → not b ≡ true → b ≡ false = λ b. elim b as (λ x. not x ≡ true → x ≡ false) [ true ↦ λ fails. absurd (false≢true fails) | false ↦ λ _. refl ] in
    let one = (no_more (same_right k.reserved) t t (line filled) (omega arith) (away _ first)).1 in
    let two = (no_more (same_right k.exercised) t t (line filled) (omega arith) (away _ last)).1 in
    let here = tied.reserved t in
    let there = tied.exercised t in
    let below = tied.reserved (t - claim_of filled.places k.exercised) in
    let front = counted_front (same_right k.reserved) (t - claim_of filled.places k.exercised) (line filled) in
    let claim = tied.claim in
    omega (arith, one, two, here, there, below, front, claim)

-- a greater sum reaches the end of a right as well
reaches_more : (filled : Filled) (r : RightNo) (s t : ℕ) → s ≤ t → reaches_end filled r s ≡ true → reaches_end filled r t ≡ true
reaches_more filled r s t more reached = ap not (none_later (same_right r) s t (line filled) more (away _ reached))
  where
    away : (b : Bool) → not b ≡ true → b ≡ false
    away true fails = absurd (false≢true fails)
    away false _ = refl

    none_later : (p : RightNo → Bool) (a b : ℕ) (xs : List RightNo) → a ≤ b → list_any p (drop a xs) ≡ false → list_any p (drop b xs) ≡ false
    none_later p a b xs less none = none_from_count p (drop b xs) (let whole = ap (counted p) (take-append-drop a xs) in let parts = counted_both p (take a xs) (drop a xs) in let behind = none_counted p (drop a xs) none in let longer = counted_longer p a b xs less in let also = ap (counted p) (take-append-drop b xs) in let both = counted_both p (take b xs) (drop b xs) in omega (arith, whole, parts, behind, longer, also, both))

-- ---- with the knots

pub pays_on : (filled : Filled) (r : RightNo) (s t : ℕ) → CanFill filled → s ≤ t
    → (length (group_of filled.places r) == 1 || list_all (λ p. reaches_end filled p.right s) (group_of filled.places r)) ≡ true
    → option_map_or (λ k. reaches_end filled k.reserved s && reaches_end filled k.exercised s) (knot_of filled.knots r) true ≡ true
    → pay filled r s ≤ pay filled r t
pays_on filled r s t fits more group knot =
    elim (knot_of filled.knots r) as (λ o. knot_of filled.knots r ≡ o → option_map_or (λ (k : Knot). reaches_end filled k.reserved s && reaches_end filled k.exercised s) o true ≡ true → pay filled r s ≤ pay filled r t) [
      | None ↦ λ none _.
          let one = unfound filled r s none in
          let two = unfound filled r t none in
          let plain = line_kept filled r s t more group in
          omega (arith, one, two, plain)
      | Some k ↦ λ found ends.
          let can = found_all (CanKnot filled.places filled.swaps) filled.knots r k fits.knots found in
          let tied = are_tied filled k fits.places can in
          elim (same_right k.reserved r) as (λ b. same_right k.reserved r ≡ b → pay filled r s ≤ pay filled r t) [
            | true ↦ λ own.
                let one = found_reserved filled r s k found own in
                let two = found_reserved filled r t k found own in
                let grows = reserved_grows filled k tied (s - claim_of filled.places k.exercised) (t - claim_of filled.places k.exercised) (omega (arith, more)) in
                omega (arith, one, two, grows)
            | false ↦ λ other.
                let one = found_exercised filled r s k found other in
                let two = found_exercised filled r t k found other in
                let parts = and_parts (reaches_end filled k.reserved s) (reaches_end filled k.exercised s) ends in
                let within = exercised_within filled k tied s in
                let whole = exercised_whole filled k t tied (reaches_more filled k.reserved s t more parts.0) (reaches_more filled k.exercised s t more parts.1) in
                omega (arith, one, two, within, whole)
          ] refl
    ] refl knot
