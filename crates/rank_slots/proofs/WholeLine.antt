-- Of a sum as great as the line each right gets its whole claim.
use Rattle.std.proofs.Common.{◌≡◌, ℕ, ◌-◌, ◌≤◌, ◌==◌, true, false, cond, eqb, not, ◌&&◌, ◌||◌, Option, Some, None, List, [], ◌∷◌, All, count_by, filter, length, map, sum_by, take, refl, sym, ap, ◌∙◌, subst, arith, length-append, le_refl, take_all}
use Rattle.std.specs.Prelude.{nat_le, replicate, sum}
use Rattle.std.specs.List.{list_any, position_or_len}
use Rattle.std.proofs.lemmas.Bool.{both_ways, eq-eqb, eqb-true, false_from_ne_true, false≢true}
use Rattle.std.proofs.lemmas.Bool.Decides.{nat_tests}
use Rattle.std.proofs.lemmas.List.{length-replicate}
use Rattle.std.proofs.lemmas.List.Elements.{All-filter, All-from_recursion, All-head, All-tail, All-weaker, recursion_from_All}
use Rattle.std.proofs.lemmas.List.Filters.{length-filter_both, sum_by-filter_both}
use Rattle.std.proofs.lemmas.List.Sums.{length-filter, sum_by-cons, sum-map}
use Rattle.gb_base.specs.RightNo.{RightNo, same_right}
use Rattle.gb_base.specs.Shares.{claim_at, share}
use Rattle.gb_base.proofs.SameRights.{right_is}
use Rattle.rank_slots.specs.CanFill.{CanFill, CanKnot, StandsAlone}
use Rattle.rank_slots.specs.CentLine.{cent_line, cents_of, exchange, exchange_all, exchanged, is_dropped, is_of_either, written}
use Rattle.rank_slots.specs.Filled.{Filled, line}
use Rattle.rank_slots.specs.Groups.{group_of, is_of, keeps_place}
use Rattle.rank_slots.specs.Payments.{claim_of, is_of_group, knot_of, pay, pay_exercised, pay_reserved, line_pay}
use Rattle.rank_slots.specs.declared.places.Knot.{Knot}
use Rattle.rank_slots.specs.declared.places.Place.{Place}
use Rattle.rank_slots.specs.declared.places.Swap.{Swap}
use Rattle.rank_slots.proofs.GroupCents.{sum_agrees}
use Rattle.rank_slots.proofs.GroupMembers.{alone_group, group_all, group_claim, group_few, same_group}
use Rattle.rank_slots.proofs.KnotPay.{found_all, found_exercised, found_reserved, found_ties, unfound}
use Rattle.rank_slots.proofs.KnotTies.{are_tied, exercised_within, reserved_grows}
use Rattle.rank_slots.proofs.LineCents.{all_kept, kept_cents, undropped_cents}
use Rattle.rank_slots.proofs.LineCounts.{counted, counted_agree, counted_filter, counted_is}
use Rattle.rank_slots.proofs.LonePay.{lone_pay}
use Rattle.rank_slots.proofs.PlaceClaims.{claim_at_place, dropped_listed, listed_cents, own_claims, sums_are_claims}
use Rattle.rank_slots.proofs.PlaceLines.{AreDifferent, claim_written, places_few}
use Rattle.rank_slots.proofs.SharedCents.{shared}

-- ---- how long the line is

length_written : (places : List Place) → length (written places) ≡ sum_by (λ p. p.claim) places
length_written [] = refl
length_written (p ∷ ps) =
    let both = length-append (replicate p.claim p.right) (written ps) in
    let copies = length-replicate p.claim p.right in
    let later = length_written ps in
    let whole = sum_by-cons (λ (q : Place). q.claim) p ps in omega arith

length_exchanged : (s : Swap) (left : ℕ) (cs : List RightNo) → length (exchanged s left cs) ≡ length cs
length_exchanged s left [] = refl
length_exchanged s left (c ∷ cs) =
    elim (is_of_either s c) as (λ b. length (cond b (cond (eqb left 0) (s.recede ∷ exchanged s 0 cs) (s.rise ∷ exchanged s (left - 1) cs)) (c ∷ exchanged s left cs)) ≡ length (c ∷ cs)) [
      | true ↦ elim (eqb left 0) as (λ d. length (cond d (s.recede ∷ exchanged s 0 cs) (s.rise ∷ exchanged s (left - 1) cs)) ≡ length (c ∷ cs)) [
        | true ↦ omega (arith, length_exchanged s 0 cs)
        | false ↦ omega (arith, length_exchanged s (left - 1) cs)
      ]
      | false ↦ omega (arith, length_exchanged s left cs)
    ]

length_exchange_all : (swaps : List Swap) (cs : List RightNo) → length (exchange_all cs swaps) ≡ length cs
length_exchange_all [] cs = refl
length_exchange_all (s ∷ swaps) cs = length_exchange_all swaps (exchange cs s) ∙ length_exchanged s (cents_of s.rise cs) cs

-- the cents of dropped places, before they are taken out, are their claims
dropped_cents : (places : List Place) (swaps : List Swap) → AreDifferent places
    → counted (is_dropped places) (exchange_all (written places) swaps) ≡ sum_by (λ p. p.claim) (filter (λ p. p.dropped) places)
dropped_cents places swaps differ =
    let all = exchange_all (written places) swaps in
    let dropped = filter (λ (p : Place). p.dropped) places in
    let claims : All (λ (p : Place). counted (same_right p.right) all ≡ p.claim) places =
    All-weaker (λ (p : Place). claim_of places p.right ≡ p.claim) (λ (p : Place). counted (same_right p.right) all ≡ p.claim) (λ p own. all_kept p.right swaps (written places) ∙ claim_written p.right places differ ∙ own) places
    (All-from_recursion (λ (p : Place). claim_of places p.right ≡ p.claim) places (own_claims places differ)) in
    counted_agree (is_dropped places) (λ c. list_any (is_of c) dropped) (dropped_listed places) all
    ∙ listed_cents dropped (λ r. omega (arith, counted_filter (λ (p : Place). p.dropped) (is_of r) places, places_few r places differ)) all
    ∙ sums_are_claims (λ r. counted (same_right r) all) dropped
    (recursion_from_All (λ (p : Place). counted (same_right p.right) all ≡ p.claim) dropped (All-filter (λ (p : Place). p.dropped) (λ (p : Place). counted (same_right p.right) all ≡ p.claim) places claims))

cent_line_length : (places : List Place) (swaps : List Swap) → AreDifferent places → length (cent_line places swaps) ≡ sum_by (λ p. p.claim) (filter (λ p. not p.dropped) places)
unfolding cent_line
cent_line_length places swaps differ =
    let all = exchange_all (written places) swaps in
    let parts = length-filter_both (λ c. is_dropped places c) (λ c. not (is_dropped places c)) (λ c. refl) all in
    let out = length-filter (λ c. is_dropped places c) all in
    let count = counted_is (λ c. is_dropped places c) all in
    let taken = dropped_cents places swaps differ in
    let whole = length_exchange_all swaps (written places) in
    let claims = length_written places in
    let both = sum_by-filter_both (λ (p : Place). p.dropped) (λ (p : Place). not p.dropped) (λ p. refl) (λ (p : Place). p.claim) places in omega arith

pub line_length : (filled : Filled) → CanFill filled → length (line filled) ≡ sum_by (λ p. p.claim) (filter (λ p. not p.dropped) filled.places)
line_length filled fits = cent_line_length filled.places filled.swaps fits.places.distinct

-- ---- knots left aside

whole_front : (filled : Filled) → take (length (line filled)) (line filled) ≡ line filled
whole_front filled = take_all (length (line filled)) (line filled) (le_refl (length (line filled)))

lone_whole : (filled : Filled) (r : RightNo) → CanFill filled → keeps_place filled.places r ≡ true → StandsAlone filled.places r → line_pay filled r (length (line filled)) ≡ claim_of filled.places r
lone_whole filled r fits kept alone =
    lone_pay filled r (alone_group filled.places r alone) (length (line filled)) ∙ ap (counted (same_right r)) (whole_front filled) ∙ kept_cents filled.places filled.swaps r fits.places.distinct kept

-- a dropped right stands alone
dropped_alone : (places ps : List Place) (a : RightNo) → All (λ p. p.dropped ≡ true → StandsAlone places p.right) ps → is_dropped ps a ≡ true → StandsAlone places a
dropped_alone places [] a alone there = absurd (false≢true there)
dropped_alone places (p ∷ ps) a alone there =
    let here = All-head (λ (q : Place). q.dropped ≡ true → StandsAlone places q.right) p ps alone in
    let later = dropped_alone places ps a (All-tail (λ (q : Place). q.dropped ≡ true → StandsAlone places q.right) p ps alone) in
    elim (same_right p.right a) as (λ b. same_right p.right a ≡ b → ((b && p.dropped) || is_dropped ps a) ≡ true → StandsAlone places a) [
      | true ↦ λ own.
          elim p.dropped as (λ d. (d ≡ true → StandsAlone places p.right) → (d || is_dropped ps a) ≡ true → StandsAlone places a) [
            | true ↦ λ alone h. subst (StandsAlone places) (right_is p.right a own) (alone refl)
            | false ↦ λ alone h. later h
          ] here
      | false ↦ λ other h. later h
    ] refl there

-- so no member of a group of several is dropped
member_undropped : (filled : Filled) (r a : RightNo) → CanFill filled → (length (group_of filled.places r) == 1) ≡ false → list_any (is_of a) (group_of filled.places r) ≡ true → is_dropped filled.places a ≡ false
member_undropped filled r a fits more there =
    false_from_ne_true (is_dropped filled.places a)
    (λ dropped.
    let alone = dropped_alone filled.places filled.places a fits.places.dropped dropped in
    let same = same_group filled.places a r fits.places.distinct there in
    both_ways (length (group_of filled.places r) == 1) more (eq-eqb (length (group_of filled.places r)) 1 (sym (ap length same) ∙ alone)))

-- a group of several has the cents of its claims
group_cents : (filled : Filled) (r : RightNo) → CanFill filled → (length (group_of filled.places r) == 1) ≡ false
    → counted (is_of_group (group_of filled.places r)) (line filled) ≡ sum_by (λ p. p.claim) (group_of filled.places r)
group_cents filled r fits more =
    let differ = fits.places.distinct in
    let group = group_of filled.places r in
    listed_cents group (λ a. group_few filled.places a r differ) (line filled)
    ∙ sum_agrees (λ (p : Place). counted (same_right p.right) (line filled)) (λ (p : Place). claim_of filled.places p.right) group group
    (λ p there. undropped_cents filled.places filled.swaps p.right differ (member_undropped filled r p.right fits more there)) (λ a there. there)
    ∙ sums_are_claims (claim_of filled.places) group
    (recursion_from_All (λ (p : Place). claim_of filled.places p.right ≡ p.claim) group
    (group_all (λ (p : Place). claim_of filled.places p.right ≡ p.claim) filled.places r
    (All-from_recursion (λ (p : Place). claim_of filled.places p.right ≡ p.claim) filled.places (own_claims filled.places differ))))

-- the share of the whole sum is the claim
full_share : (money : ℕ) (claims : List ℕ) (i : ℕ) → sum claims ≤ money → share money claims i ≡ claim_at claims i
full_share money claims i enough = let reached : nat_le (sum claims) money ≡ true = grind (arith, nat_tests) in rw reached refl

group_whole : (filled : Filled) (r : RightNo) → CanFill filled → (length (group_of filled.places r) == 1) ≡ false → line_pay filled r (length (line filled)) ≡ claim_of filled.places r
group_whole filled r fits more =
    let group = group_of filled.places r in
    let claims = map (λ (p : Place). p.claim) group in
    let cents = count_by (is_of_group group) (take (length (line filled)) (line filled)) in
    let count : cents ≡ counted (is_of_group group) (line filled) = ap (count_by (is_of_group group)) (whole_front filled) ∙ counted_is (is_of_group group) (line filled) in
    let all = group_cents filled r fits more in
    let total = sum-map (λ (p : Place). p.claim) group in
    shared group r cents more
    ∙ full_share cents claims (position_or_len (is_of r) group) (omega arith)
    ∙ claim_at_place group r
    ∙ group_claim filled.places r

line_whole : (filled : Filled) (r : RightNo) → CanFill filled → keeps_place filled.places r ≡ true → line_pay filled r (length (line filled)) ≡ claim_of filled.places r
line_whole filled r fits kept =
    elim (length (group_of filled.places r) == 1) as (λ b. (length (group_of filled.places r) == 1) ≡ b → line_pay filled r (length (line filled)) ≡ claim_of filled.places r) [
      | true ↦ λ alone. lone_whole filled r fits kept (eqb-true (length (group_of filled.places r)) 1 alone)
      | false ↦ λ more. group_whole filled r fits more
    ] refl

-- ---- by a knot

-- the exercised right gets no more than its claim, and the reserved one no more than with knots left aside: so each gets its claim
record ArePaid (filled : Filled) (k : Knot) : Type 0 where
  reserved : pay_reserved filled k (length (line filled)) ≡ claim_of filled.places k.reserved
  exercised : pay_exercised filled k (length (line filled)) ≡ claim_of filled.places k.exercised

are_paid : (filled : Filled) (k : Knot) → CanFill filled → CanKnot filled.places filled.swaps k → ArePaid filled k
are_paid filled k fits knot =
    let t = length (line filled) in
    let tied = are_tied filled k fits.places knot in
    let grows = reserved_grows filled k tied (t - claim_of filled.places k.exercised) t (omega arith) in
    let within = exercised_within filled k tied t in
    let first = line_whole filled k.reserved fits knot.reserved.kept in
    let last = line_whole filled k.exercised fits knot.exercised.kept in
    record { reserved = omega arith; exercised = omega arith }

paid_by : (filled : Filled) (r : RightNo) (knot : Option Knot) → CanFill filled → keeps_place filled.places r ≡ true → knot_of filled.knots r ≡ knot → pay filled r (length (line filled)) ≡ claim_of filled.places r
paid_by filled r None fits kept found = unfound filled r (length (line filled)) found ∙ line_whole filled r fits kept
paid_by filled r (Some k) fits kept found =
    let paid = are_paid filled k fits (found_all (CanKnot filled.places filled.swaps) filled.knots r k fits.knots found) in
    elim (same_right k.reserved r) as (λ b. same_right k.reserved r ≡ b → (b || same_right k.exercised r) ≡ true → pay filled r (length (line filled)) ≡ claim_of filled.places r) [
      | true ↦ λ own h. found_reserved filled r (length (line filled)) k found own ∙ paid.reserved ∙ ap (claim_of filled.places) (right_is k.reserved r own)
      | false ↦ λ other h. found_exercised filled r (length (line filled)) k found other ∙ paid.exercised ∙ ap (claim_of filled.places) (right_is k.exercised r h)
    ] refl (found_ties filled.knots r k found)

pub whole_claim : (filled : Filled) (r : RightNo) → CanFill filled → keeps_place filled.places r ≡ true → pay filled r (length (line filled)) ≡ claim_of filled.places r
whole_claim filled r fits kept = paid_by filled r (knot_of filled.knots r) fits kept refl
