-- The first cent of a group: its members get nothing ahead of it, and one cent together with it.
use Rattle.std.proofs.Common.{◌≡◌, ℕ, zero, suc, ◌+◌, ◌-◌, ◌<◌, ◌≤◌, ◌==◌, Bool, true, false, cond, Option, Some, None, List, [], ◌∷◌, count_by, get_or, length, sum_by, take, refl, sym, ap, ◌∙◌, ⊎_elim, subst, arith}
use Rattle.std.specs.List.{list_any, prefix_len, range_with_len}
use Rattle.std.proofs.lemmas.Bool.{both_ways, eq-eqb, eqb-true, or_cases, or_left, or_right}
use Rattle.std.proofs.lemmas.List.FromFn.{get_or-range_with_len, length-range_with_len}
use Rattle.std.proofs.lemmas.List.Sums.{prefix_len-le-length, prefix_len_passes, sum_by-cons}
use Rattle.gb_base.specs.RightNo.{RightNo, same_right}
use Rattle.gb_base.proofs.SameRights.{right_is, right_self}
use Rattle.rank_slots.specs.CanFill.{CanFill, CanKnot, StandsAlone}
use Rattle.rank_slots.specs.Filled.{Filled, line}
use Rattle.rank_slots.specs.Groups.{group_of, is_of, keeps_place}
use Rattle.rank_slots.specs.Payments.{cents_ahead, claim_of, empty_up_to, is_of_group, knot_of, pay, pay_by, line_pay, share_in_group, threshold}
use Rattle.rank_slots.specs.declared.places.Knot.{Knot}
use Rattle.rank_slots.specs.declared.places.Place.{Place}
use Rattle.rank_slots.proofs.EmptySums.{alone_next}
use Rattle.rank_slots.proofs.GroupMembers.{alone_group, group_all, group_few, group_holds, same_group}
use Rattle.rank_slots.proofs.KnotPay.{found_all, found_ties, unfound}
use Rattle.rank_slots.proofs.LineCents.{has_cents}
use Rattle.rank_slots.proofs.LineCounts.{counted, counted_is, first_within, none_ahead, one_with_first, tally}
use Rattle.rank_slots.proofs.PlaceLines.{kept_listed}
use Rattle.rank_slots.proofs.SharedCents.{no_part, one_shared}

-- ---- no knot ties one of a group

knots_alone : (filled : Filled) (r : RightNo) (knot : Option Knot) → CanFill filled → (length (group_of filled.places r) == 1) ≡ false → knot_of filled.knots r ≡ knot → knot ≡ None
knots_alone filled r None fits more found = refl
knots_alone filled r (Some k) fits more found =
    let tied = found_all (CanKnot filled.places filled.swaps) filled.knots r k fits.knots found in
    let alone : StandsAlone filled.places r =
    ⊎_elim (λ own. subst (StandsAlone filled.places) (right_is k.reserved r own) tied.reserved.alone) (λ own. subst (StandsAlone filled.places) (right_is k.exercised r own) tied.exercised.alone)
    (or_cases (same_right k.reserved r) (same_right k.exercised r) (found_ties filled.knots r k found)) in
    absurd (both_ways (length (group_of filled.places r) == 1) more (eq-eqb (length (group_of filled.places r)) 1 alone))

pub group_pay : (filled : Filled) (r : RightNo) (t : ℕ) → CanFill filled → (length (group_of filled.places r) == 1) ≡ false → pay filled r t ≡ line_pay filled r t
group_pay filled r t fits more = unfound filled r t (let none = knots_alone filled r (knot_of filled.knots r) fits more refl in none)

-- ---- nothing up to the threshold

-- where none of the first cents are the group's, the right gets nothing, knots left aside
no_line_pay : (filled : Filled) (r : RightNo) (t : ℕ) → count_by (is_of_group (group_of filled.places r)) (take t (line filled)) ≡ 0 → line_pay filled r t ≡ 0
no_line_pay filled r t none = ap (share_in_group (group_of filled.places r) r) none ∙ no_part (group_of filled.places r) r

no_line_pay_at_all : (filled : Filled) (r : RightNo) → line_pay filled r 0 ≡ 0
no_line_pay_at_all filled r = no_line_pay filled r 0 refl

no_sum : (filled : Filled) (r : RightNo) (knot : Option Knot) → pay_by knot filled r 0 ≡ 0
no_sum filled r None = no_line_pay_at_all filled r
no_sum filled r (Some k) =
    let claim = claim_of filled.places k.exercised in
    let none : 0 - claim ≡ 0 = omega arith in
    let without = ap (line_pay filled k.reserved) none ∙ no_line_pay_at_all filled k.reserved in
    let first = no_line_pay_at_all filled k.reserved in
    let last = no_line_pay_at_all filled k.exercised in
    elim (same_right k.reserved r) as (λ b. cond b (line_pay filled k.reserved (0 - claim)) (line_pay filled k.reserved 0 + line_pay filled k.exercised 0 - line_pay filled k.reserved (0 - claim)) ≡ 0) [
      | true ↦ without
      | false ↦ omega arith
    ]

-- a sum that the search for the greatest such sum has passed gives nothing
empty_below : (f : ℕ → ℕ) (n t : ℕ) → f 0 ≡ 0 → t ≤ prefix_len (λ u. f u == 0) (range_with_len 1 n) → f t ≡ 0
empty_below f n zero none few = none
empty_below f n (suc t) none few =
    let within = prefix_len-le-length (λ u. f u == 0) (range_with_len 1 n) in
    let long = length-range_with_len 1 n in
    let at : get_or (range_with_len 1 n) t 0 ≡ suc t = get_or-range_with_len 1 n t 0 (omega arith) ∙ omega arith in
    sym (ap f at) ∙ eqb-true (f (get_or (range_with_len 1 n) t 0)) 0 (prefix_len_passes (λ u. f u == 0) (range_with_len 1 n) t 0 (omega arith))

pub nothing : (filled : Filled) (r : RightNo) (t : ℕ) → CanFill filled → t ≤ threshold filled r → pay filled r t ≡ 0
nothing filled r t fits few =
    let group = group_of filled.places r in
    elim (length group == 1) as (λ b. (length group == 1) ≡ b → t ≤ cond b (empty_up_to filled r) (cents_ahead group (line filled)) → pay filled r t ≡ 0) [
      | true ↦ λ alone less. empty_below (λ u. pay filled r u) (length (line filled)) t (no_sum filled r (knot_of filled.knots r)) less
      | false ↦ λ more less.
          group_pay filled r t fits more ∙ no_line_pay filled r t (counted_is (is_of_group group) (take t (line filled)) ∙ none_ahead (is_of_group group) t (line filled) less)
    ] refl few

-- ---- the cent behind the threshold

-- a right of the group has no more cents than the group
counted_less : (p q : RightNo → Bool) → ((c : RightNo) → p c ≡ true → q c ≡ true) → (cs : List RightNo) → counted p cs ≤ counted q cs
counted_less p q sub [] = omega arith
counted_less p q sub (c ∷ cs) =
    let rest = counted_less p q sub cs in
    elim (p c) as (λ b. p c ≡ b → tally b + counted p cs ≤ tally (q c) + counted q cs) [
      | true ↦ λ pass. let also : tally (q c) ≡ 1 = ap tally (sub c pass) in omega arith
      | false ↦ λ fails. omega arith
    ] refl

-- the line goes on behind the cents ahead of the group
inside : (filled : Filled) (r : RightNo) → CanFill filled → keeps_place filled.places r ≡ true → cents_ahead (group_of filled.places r) (line filled) < length (line filled)
inside filled r fits kept =
    let group = group_of filled.places r in
    let there = group_holds filled.places r (kept_listed r filled.places kept) in
    let own = counted_less (same_right r) (is_of_group group) (λ c is. subst (λ z. list_any (is_of z) group ≡ true) (right_is r c is) there) (line filled) in
    let some = has_cents filled r fits.places kept in
    first_within (is_of_group group) (line filled) (omega arith)

-- two amounts that agree for the rights of a group come to the same
pub sum_agrees : (f g : Place → ℕ) (group ps : List Place) → ((p : Place) → list_any (is_of p.right) group ≡ true → f p ≡ g p) → ((a : RightNo) → list_any (is_of a) ps ≡ true → list_any (is_of a) group ≡ true)
    → sum_by f ps ≡ sum_by g ps
sum_agrees f g group [] same sub = refl
sum_agrees f g group (p ∷ ps) same sub =
    let here = same p (sub p.right (or_left (same_right p.right p.right) (list_any (is_of p.right) ps) (right_self p.right))) in
    let later = sum_agrees f g group ps same (λ a there. sub a (or_right (same_right p.right a) (list_any (is_of a) ps) there)) in
    sum_by-cons f p ps ∙ (λ i. here i + later i) ∙ sym (sum_by-cons g p ps)

-- a member of a group that is not one right alone gets its share of the group's first cent
member_next : (filled : Filled) (r : RightNo) (p : Place) → CanFill filled → keeps_place filled.places r ≡ true → (length (group_of filled.places r) == 1) ≡ false → list_any (is_of p.right) (group_of filled.places r) ≡ true
    → pay filled p.right (cents_ahead (group_of filled.places r) (line filled) + 1) ≡ share_in_group (group_of filled.places r) p.right 1
member_next filled r p fits kept more there =
    let group = group_of filled.places r in
    let next = cents_ahead group (line filled) + 1 in
    let same = same_group filled.places p.right r fits.places.distinct there in
    group_pay filled p.right next fits (ap (λ g. length g == 1) same ∙ more)
    ∙ (λ i. share_in_group (same i) p.right (count_by (is_of_group (same i)) (take next (line filled))))
    ∙ ap (share_in_group group p.right) (counted_is (is_of_group group) (take next (line filled)) ∙ one_with_first (is_of_group group) (line filled) (inside filled r fits kept))

group_next : (filled : Filled) (r : RightNo) → CanFill filled → keeps_place filled.places r ≡ true → (length (group_of filled.places r) == 1) ≡ false
    → sum_by (λ p. pay filled p.right (threshold filled r + 1)) (group_of filled.places r) ≡ 1
group_next filled r fits kept more =
    let group = group_of filled.places r in
    let ahead = cents_ahead group (line filled) in
    let is : threshold filled r ≡ ahead = ap (λ b. cond b (empty_up_to filled r) ahead) more in
    ap (λ t. sum_by (λ (p : Place). pay filled p.right (t + 1)) group) is
    ∙ sum_agrees (λ (p : Place). pay filled p.right (ahead + 1)) (λ (p : Place). share_in_group group p.right 1) group group (λ p there. member_next filled r p fits kept more there) (λ a there. there)
    ∙ one_shared group r (λ a. group_few filled.places a r fits.places.distinct) (group_all (λ (p : Place). 1 ≤ p.claim) filled.places r fits.places.claims)
    (group_holds filled.places r (kept_listed r filled.places kept)) more

-- a right that stands alone is all of its group
lone_next : (filled : Filled) (r : RightNo) → CanFill filled → keeps_place filled.places r ≡ true → StandsAlone filled.places r
    → sum_by (λ p. pay filled p.right (threshold filled r + 1)) (group_of filled.places r) ≡ 1
lone_next filled r fits kept alone =
    let own = alone_group filled.places r alone in
    let next = alone_next filled r fits kept alone in
    let whole = sum_by-cons (λ (p : Place). pay filled p.right (threshold filled r + 1)) own.place [] in
    ap (sum_by (λ (p : Place). pay filled p.right (threshold filled r + 1))) own.all
    ∙ whole
    ∙ ap (λ z. pay filled z (threshold filled r + 1) + 0) (right_is own.place.right r own.own)
    ∙ omega arith

pub one_next : (filled : Filled) (r : RightNo) → CanFill filled → keeps_place filled.places r ≡ true → sum_by (λ p. pay filled p.right (threshold filled r + 1)) (group_of filled.places r) ≡ 1
one_next filled r fits kept =
    elim (length (group_of filled.places r) == 1) as (λ b. (length (group_of filled.places r) == 1) ≡ b → sum_by (λ p. pay filled p.right (threshold filled r + 1)) (group_of filled.places r) ≡ 1) [
      | true ↦ λ alone. lone_next filled r fits kept (eqb-true (length (group_of filled.places r)) 1 alone)
      | false ↦ λ more. group_next filled r fits kept more
    ] refl
