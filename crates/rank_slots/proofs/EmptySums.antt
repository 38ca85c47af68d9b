-- The greatest sum up to which a right gets nothing.
use Rattle.std.proofs.Common.{◌≡◌, ℕ, ◌+◌, ◌-◌, ◌<◌, ◌≤◌, ◌==◌, ◌||◌, true, false, cond, eqb, not, Option, Some, None, get_or, length, take, refl, sym, ap, ◌∙◌, subst, arith}
use Rattle.std.specs.List.{position_or_len, prefix_len, range_with_len}
use Rattle.std.proofs.lemmas.Bool.{eq-eqb, eqb-true, ne_eqb}
use Rattle.std.proofs.lemmas.List.FromFn.{get_or-range_with_len, length-range_with_len}
use Rattle.std.proofs.lemmas.List.Sums.{prefix_len-le-length, prefix_len_is}
use Rattle.gb_base.specs.RightNo.{RightNo, same_right}
use Rattle.gb_base.proofs.SameRights.{right_is, right_self}
use Rattle.rank_slots.specs.CanFill.{CanFill, CanKnot, StandsAlone}
use Rattle.rank_slots.specs.Filled.{Filled, line}
use Rattle.rank_slots.specs.Groups.{group_of, keeps_place}
use Rattle.rank_slots.specs.Payments.{cents_ahead, claim_of, empty_up_to, knot_of, pay, threshold}
use Rattle.rank_slots.specs.declared.places.Knot.{Knot}
use Rattle.rank_slots.proofs.GroupMembers.{IsAlone, alone_group}
use Rattle.rank_slots.proofs.KnotPay.{found_all, found_exercised, found_reserved, found_ties, unfound}
use Rattle.rank_slots.proofs.KnotTies.{AreTied, are_tied}
use Rattle.rank_slots.proofs.LineCents.{has_cents}
use Rattle.rank_slots.proofs.LineCounts.{counted, first_within, none_ahead, one_with_first}
use Rattle.rank_slots.proofs.LonePay.{lone_group, lone_pay}
use Rattle.rank_slots.proofs.Precedence.{first_ahead, room_behind}

-- the right gets nothing of sums up to m, and one cent of the next sum, if the line is that long
pub record BeginsAt (filled : Filled) (r : RightNo) (m : ℕ) : Type 0 where
  pub within : m ≤ length (line filled)
  pub none : (t : ℕ) → t ≤ m → pay filled r t ≡ 0
  pub one : m < length (line filled) → pay filled r (m + 1) ≡ 1

-- where an amount is 0 up to m, and 1 at the next number if there is one, the amounts of 0 end at m
last_empty : (f : ℕ → ℕ) (n m : ℕ) → m ≤ n → ((t : ℕ) → t ≤ m → f t ≡ 0) → (m < n → f (m + 1) ≡ 1) → prefix_len (λ t. f t == 0) (range_with_len 1 n) ≡ m
last_empty f n m within none some =
    let long = length-range_with_len 1 n in
    prefix_len_is (λ t. f t == 0) (range_with_len 1 n) m 0 (omega arith)
    (λ k less. eq-eqb (f (get_or (range_with_len 1 n) k 0)) 0 (none (get_or (range_with_len 1 n) k 0) (omega (arith, get_or-range_with_len 1 n k 0 (omega arith)))))
    (λ less. ne_eqb (f (get_or (range_with_len 1 n) m 0)) 0
    (λ e.
    let here = some (omega arith) in
    let at : get_or (range_with_len 1 n) m 0 ≡ m + 1 = get_or-range_with_len 1 n m 0 (omega arith) ∙ omega arith in
    let same = ap f at in absurd (omega arith)))

empty_at : (filled : Filled) (r : RightNo) (m : ℕ) → BeginsAt filled r m → empty_up_to filled r ≡ m
empty_at filled r m begins = last_empty (λ t. pay filled r t) (length (line filled)) m begins.within begins.none begins.one

-- the cents ahead of a right that stands alone
lone_ahead : (filled : Filled) (r : RightNo) → IsAlone (group_of filled.places r) r → cents_ahead (group_of filled.places r) (line filled) ≡ position_or_len (same_right r) (line filled)
lone_ahead filled r alone = λ i. position_or_len (λ c. lone_group (group_of filled.places r) r alone c i) (line filled)

-- the threshold of a right that stands alone is the greatest sum up to which it gets nothing
alone_threshold : (filled : Filled) (r : RightNo) → StandsAlone filled.places r → threshold filled r ≡ empty_up_to filled r
alone_threshold filled r alone = ap (λ b. cond b (empty_up_to filled r) (cents_ahead (group_of filled.places r) (line filled))) (eq-eqb (length (group_of filled.places r)) 1 alone)

-- ---- a right that no knot ties

untied_begins : (filled : Filled) (r : RightNo) → knot_of filled.knots r ≡ None → StandsAlone filled.places r → BeginsAt filled r (position_or_len (same_right r) (line filled))
untied_begins filled r none alone =
    let gets : (t : ℕ) → pay filled r t ≡ counted (same_right r) (take t (line filled)) = λ t. unfound filled r t none ∙ lone_pay filled r (alone_group filled.places r alone) t in
    record {
      within = prefix_len-le-length (λ c. not (same_right r c)) (line filled);
      none = λ t few. gets t ∙ none_ahead (same_right r) t (line filled) few;
      one = λ room. gets (position_or_len (same_right r) (line filled) + 1) ∙ one_with_first (same_right r) (line filled) room;
    }

untied_empty : (filled : Filled) (r : RightNo) → knot_of filled.knots r ≡ None → StandsAlone filled.places r → empty_up_to filled r ≡ cents_ahead (group_of filled.places r) (line filled)
untied_empty filled r none alone =
    empty_at filled r (position_or_len (same_right r) (line filled)) (untied_begins filled r none alone) ∙ sym (lone_ahead filled r (alone_group filled.places r alone))

pub untied_threshold : (filled : Filled) (r : RightNo) → knot_of filled.knots r ≡ None → threshold filled r ≡ cents_ahead (group_of filled.places r) (line filled)
untied_threshold filled r none =
    let ahead = cents_ahead (group_of filled.places r) (line filled) in
    elim (eqb (length (group_of filled.places r)) 1) as (λ b. eqb (length (group_of filled.places r)) 1 ≡ b → cond b (empty_up_to filled r) ahead ≡ ahead) [
      | true ↦ λ alone. untied_empty filled r none (eqb-true (length (group_of filled.places r)) 1 alone)
      | false ↦ λ more. refl
    ] refl

-- ---- the two rights of a knot

reserved_begins : (filled : Filled) (k : Knot) → AreTied filled k → knot_of filled.knots k.reserved ≡ Some k
    → BeginsAt filled k.reserved (position_or_len (same_right k.reserved) (line filled) + claim_of filled.places k.exercised)
reserved_begins filled k tied found =
    let claim = claim_of filled.places k.exercised in
    let first = position_or_len (same_right k.reserved) (line filled) in
    let gets : (t : ℕ) → pay filled k.reserved t ≡ counted (same_right k.reserved) (take (t - claim) (line filled)) =
    λ t. found_reserved filled k.reserved t k found (right_self k.reserved) ∙ tied.reserved (t - claim) in
    let room = room_behind (same_right k.reserved) (same_right k.exercised) tied.apart (line filled) tied.ahead tied.first in
    let cents = tied.claim in
    let less : (first + claim + 1) - claim ≡ first + 1 = omega arith in
    record {
      within = omega arith;
      none = λ t few. gets t ∙ none_ahead (same_right k.reserved) (t - claim) (line filled) (omega arith);
      one = λ more.
          gets (first + claim + 1)
          ∙ subst (λ t. counted (same_right k.reserved) (take t (line filled)) ≡ 1) (sym less) (one_with_first (same_right k.reserved) (line filled) (omega arith));
    }

exercised_begins : (filled : Filled) (k : Knot) → AreTied filled k → knot_of filled.knots k.exercised ≡ Some k → BeginsAt filled k.exercised (position_or_len (same_right k.reserved) (line filled))
exercised_begins filled k tied found =
    let claim = claim_of filled.places k.exercised in
    let first = position_or_len (same_right k.reserved) (line filled) in
    let room = first_within (same_right k.reserved) (line filled) tied.first in
    let some = tied.least in
    record {
      within = omega arith;
      none = λ t few.
          let gets = found_exercised filled k.exercised t k found tied.two in
          let one = tied.reserved t ∙ none_ahead (same_right k.reserved) t (line filled) few in
          let other = tied.exercised t ∙ first_ahead (same_right k.reserved) (same_right k.exercised) tied.apart t (line filled) tied.ahead tied.first (omega arith) in
          omega arith;
      one = λ more.
          let gets = found_exercised filled k.exercised (first + 1) k found tied.two in
          let one = tied.reserved (first + 1) ∙ one_with_first (same_right k.reserved) (line filled) more in
          let other = tied.exercised (first + 1) ∙ first_ahead (same_right k.reserved) (same_right k.exercised) tied.apart (first + 1) (line filled) tied.ahead tied.first (omega arith) in
          let without = tied.reserved (first + 1 - claim) ∙ none_ahead (same_right k.reserved) (first + 1 - claim) (line filled) (omega arith) in
          omega arith;
    }

-- the knot that a search finds, of which the right is the reserved one, or the exercised one
tied_with : (filled : Filled) (r : RightNo) (k : Knot) → CanFill filled → knot_of filled.knots r ≡ Some k → CanKnot filled.places filled.swaps k
tied_with filled r k fits found = found_all (CanKnot filled.places filled.swaps) filled.knots r k fits.knots found

is_exercised : (filled : Filled) (r : RightNo) (k : Knot) → knot_of filled.knots r ≡ Some k → same_right k.reserved r ≡ false → k.exercised ≡ r
is_exercised filled r k found other = right_is k.exercised r (ap (λ b. b || same_right k.exercised r) (sym other) ∙ found_ties filled.knots r k found)

pub reserved_threshold : (filled : Filled) (r : RightNo) (k : Knot) → CanFill filled → knot_of filled.knots r ≡ Some k → same_right k.reserved r ≡ true
    → threshold filled r ≡ cents_ahead (group_of filled.places r) (line filled) + claim_of filled.places k.exercised
reserved_threshold filled r k fits found own =
    let knot = tied_with filled r k fits found in
    subst (λ z. knot_of filled.knots z ≡ Some k → threshold filled z ≡ cents_ahead (group_of filled.places z) (line filled) + claim_of filled.places k.exercised) (right_is k.reserved r own)
    (λ is.
    alone_threshold filled k.reserved knot.reserved.alone
    ∙ empty_at filled k.reserved (position_or_len (same_right k.reserved) (line filled) + claim_of filled.places k.exercised) (reserved_begins filled k (are_tied filled k fits.places knot) is)
    ∙ ap (λ n. n + claim_of filled.places k.exercised) (sym (lone_ahead filled k.reserved (alone_group filled.places k.reserved knot.reserved.alone)))) found

pub exercised_threshold : (filled : Filled) (r : RightNo) (k : Knot) → CanFill filled → knot_of filled.knots r ≡ Some k → same_right k.reserved r ≡ false
    → threshold filled r ≡ cents_ahead (group_of filled.places k.reserved) (line filled)
exercised_threshold filled r k fits found other =
    let knot = tied_with filled r k fits found in
    subst (λ z. knot_of filled.knots z ≡ Some k → threshold filled z ≡ cents_ahead (group_of filled.places k.reserved) (line filled)) (is_exercised filled r k found other)
    (λ is.
    alone_threshold filled k.exercised knot.exercised.alone
    ∙ empty_at filled k.exercised (position_or_len (same_right k.reserved) (line filled)) (exercised_begins filled k (are_tied filled k fits.places knot) is)
    ∙ sym (lone_ahead filled k.reserved (alone_group filled.places k.reserved knot.reserved.alone))) found

-- ---- the cent behind the threshold

-- the sum up to which a right gets nothing is not the whole line
record Begins (filled : Filled) (r : RightNo) : Type 0 where
  up_to : ℕ
  begins : BeginsAt filled r up_to
  inside : up_to < length (line filled)

begins : (filled : Filled) (r : RightNo) (knot : Option Knot) → CanFill filled → keeps_place filled.places r ≡ true → StandsAlone filled.places r → knot_of filled.knots r ≡ knot → Begins filled r
begins filled r None fits kept alone found =
    record {
      up_to = position_or_len (same_right r) (line filled);
      begins = untied_begins filled r found alone;
      inside = first_within (same_right r) (line filled) (has_cents filled r fits.places kept);
    }
begins filled r (Some k) fits kept alone found =
    let tied = are_tied filled k fits.places (tied_with filled r k fits found) in
    elim (same_right k.reserved r) as (λ b. same_right k.reserved r ≡ b → Begins filled r) [
      | true ↦ λ own. subst (λ z. knot_of filled.knots z ≡ Some k → Begins filled z) (right_is k.reserved r own)
          (λ is.
          let room = room_behind (same_right k.reserved) (same_right k.exercised) tied.apart (line filled) tied.ahead tied.first in
          let cents = tied.claim in
          record {
            up_to = position_or_len (same_right k.reserved) (line filled) + claim_of filled.places k.exercised;
            begins = reserved_begins filled k tied is;
            inside = omega arith;
          }) found
      | false ↦ λ other. subst (λ z. knot_of filled.knots z ≡ Some k → Begins filled z) (is_exercised filled r k found other)
          (λ is. record {
            up_to = position_or_len (same_right k.reserved) (line filled);
            begins = exercised_begins filled k tied is;
            inside = first_within (same_right k.reserved) (line filled) tied.first;
          }) found
    ] refl

pub alone_next : (filled : Filled) (r : RightNo) → CanFill filled → keeps_place filled.places r ≡ true → StandsAlone filled.places r → pay filled r (threshold filled r + 1) ≡ 1
alone_next filled r fits kept alone =
    let first = begins filled r (knot_of filled.knots r) fits kept alone refl in
    let is : threshold filled r ≡ first.up_to = alone_threshold filled r alone ∙ empty_at filled r first.up_to first.begins in
    ap (λ t. pay filled r (t + 1)) is ∙ first.begins.one first.inside
