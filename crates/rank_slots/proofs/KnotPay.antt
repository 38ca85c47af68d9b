-- What a right gets by the knot that ties it.
use Rattle.std.proofs.Common.{◌≡◌, ℕ, ◌+◌, ◌-◌, ◌≤◌, Bool, true, false, cond, ◌||◌, List, [], ◌∷◌, All, Contains, Some, None, refl, sym, ap, ◌∙◌, subst, arith}
use Rattle.std.specs.List.{AllByRecursion, IsDistinct, list_any}
use Rattle.std.proofs.lemmas.Bool.{both_ways, cond-false, cond-true, false≢true, or_left, or_right}
use Rattle.std.proofs.lemmas.List.Elements.{All-contains, All-from_recursion, All-head, All-tail, All-weaker}
use Rattle.std.proofs.lemmas.List.Folds.{list_any_at}
use Rattle.std.proofs.lemmas.Map.Keys.{IsDistinct-head, IsDistinct-tail}
use Rattle.gb_base.proofs.Members.{find_sound}
use Rattle.gb_base.specs.RightNo.{RightNo, same_right}
use Rattle.gb_base.proofs.SameRights.{others_turned, right_is, right_self}
use Rattle.rank_slots.specs.CanFill.{CanFill, CanKnot, knotted}
use Rattle.rank_slots.specs.Filled.{Filled, without_knots}
use Rattle.rank_slots.specs.Payments.{claim_of, knot_of, pay, pay_by, pay_exercised, pay_reserved, line_pay}
use Rattle.rank_slots.specs.declared.places.Knot.{Knot}
use Rattle.rank_slots.proofs.KnotTies.{AreTied, are_tied, exercised_within, reserved_grows}

-- the knot ties the right
abbrev pub ties : RightNo → Knot → Bool
ties r k = same_right k.reserved r || same_right k.exercised r

-- what a right gets with these knots
abbrev pub pay_with : List Knot → Filled → RightNo → ℕ → ℕ
pay_with knots filled r t = pay_by (knot_of knots r) filled r t

-- a right that the first knot ties, and one that it does not
pub first_pays : (k : Knot) (ks : List Knot) (filled : Filled) (r : RightNo) (t : ℕ) → ties r k ≡ true → pay_with (k ∷ ks) filled r t ≡ pay_by (Some k) filled r t
first_pays k ks filled r t tied = ap (λ o. pay_by o filled r t) (cond-true (ties r k) (Some k) (knot_of ks r) tied)

pub others_pay : (k : Knot) (ks : List Knot) (filled : Filled) (r : RightNo) (t : ℕ) → ties r k ≡ false → pay_with (k ∷ ks) filled r t ≡ pay_with ks filled r t
others_pay k ks filled r t untied = ap (λ o. pay_by o filled r t) (cond-false (ties r k) (Some k) (knot_of ks r) untied)

-- the two rights of a knot
pub reserved_pay : (k : Knot) (filled : Filled) (r : RightNo) (t : ℕ) → same_right k.reserved r ≡ true → pay_by (Some k) filled r t ≡ pay_reserved filled k t
reserved_pay k filled r t own = cond-true (same_right k.reserved r) (pay_reserved filled k t) (pay_exercised filled k t) own

pub exercised_pay : (k : Knot) (filled : Filled) (r : RightNo) (t : ℕ) → same_right k.reserved r ≡ false → pay_by (Some k) filled r t ≡ pay_exercised filled k t
exercised_pay k filled r t other = cond-false (same_right k.reserved r) (pay_reserved filled k t) (pay_exercised filled k t) other

-- a right that no knot names
untied : (ks : List Knot) (r : RightNo) → AllByRecursion (λ y. same_right r y ≡ false) (knotted ks) → knot_of ks r ≡ None
untied [] r others = refl
untied (k ∷ ks) r others =
    cond-false (ties r k) (Some k) (knot_of ks r) (λ i. others_turned r k.reserved others.0 i || others_turned r k.exercised others.1.0 i) ∙ untied ks r others.1.1

pub untied_pay : (ks : List Knot) (filled : Filled) (r : RightNo) (t : ℕ) → AllByRecursion (λ y. same_right r y ≡ false) (knotted ks) → pay_with ks filled r t ≡ line_pay filled r t
untied_pay ks filled r t others = ap (λ o. pay_by o filled r t) (untied ks r others)

-- ---- by the knot that a search finds

pub unfound : (filled : Filled) (r : RightNo) (t : ℕ) → knot_of filled.knots r ≡ None → pay filled r t ≡ line_pay filled r t
unfound filled r t none = ap (λ o. pay_by o filled r t) none

pub found_reserved : (filled : Filled) (r : RightNo) (t : ℕ) (k : Knot) → knot_of filled.knots r ≡ Some k → same_right k.reserved r ≡ true → pay filled r t ≡ pay_reserved filled k t
found_reserved filled r t k found own = ap (λ o. pay_by o filled r t) found ∙ reserved_pay k filled r t own

pub found_exercised : (filled : Filled) (r : RightNo) (t : ℕ) (k : Knot) → knot_of filled.knots r ≡ Some k → same_right k.reserved r ≡ false → pay filled r t ≡ pay_exercised filled k t
found_exercised filled r t k found other = ap (λ o. pay_by o filled r t) found ∙ exercised_pay k filled r t other

-- the knot that a search finds ties the right
pub found_ties : (ks : List Knot) (r : RightNo) (k : Knot) → knot_of ks r ≡ Some k → ties r k ≡ true
found_ties ks r k found = (find_sound (ties r) ks k found).1

-- what holds of all knots holds of the one that a search finds
pub found_all : (P : Knot → Type 0) (ks : List Knot) (r : RightNo) (k : Knot) → All P ks → knot_of ks r ≡ Some k → P k
found_all P [] r k all found = absurd (cc found)
found_all P (j ∷ ks) r k all found =
    elim (ties r j) as (λ b. cond b (Some j) (knot_of ks r) ≡ Some k → P k) [
      | true ↦ λ h. let same : j ≡ k = cc h in subst P same (All-head P j ks all)
      | false ↦ λ h. found_all P ks r k (All-tail P j ks all) h
    ] found

-- ---- the knot that a search finds is the one that ties the right

-- each of the two rights has this knot
abbrev IsFoundIn : List Knot → Knot → Type 0
IsFoundIn ks k = (knot_of ks k.reserved ≡ Some k) × (knot_of ks k.exercised ≡ Some k)

past : (j : Knot) (ks : List Knot) (r : RightNo) → same_right j.reserved r ≡ false → same_right j.exercised r ≡ false → knot_of (j ∷ ks) r ≡ knot_of ks r
past j ks r first last = cond-false (ties r j) (Some j) (knot_of ks r) (λ i. first i || last i)

found_behind : (j : Knot) (all ks : List Knot) → AllByRecursion (λ y. same_right j.reserved y ≡ false) (knotted ks) → AllByRecursion (λ y. same_right j.exercised y ≡ false) (knotted ks)
    → AllByRecursion (IsFoundIn all) ks → AllByRecursion (IsFoundIn (j ∷ all)) ks
found_behind j all [] first last found = tt
found_behind j all (k ∷ ks) first last found =
    ((past j all k.reserved first.0 last.0 ∙ found.0.0, past j all k.exercised first.1.0 last.1.0 ∙ found.0.1), found_behind j all ks first.1.1 last.1.1 found.1)

each_found : (ks : List Knot) → IsDistinct same_right (knotted ks) → AllByRecursion (IsFoundIn ks) ks
each_found [] once = tt
each_found (k ∷ ks) once =
    let others = IsDistinct-head same_right k.reserved (k.exercised ∷ knotted ks) once in
    let later = IsDistinct-tail same_right k.reserved (k.exercised ∷ knotted ks) once in (
      (
        cond-true (ties k.reserved k) (Some k) (knot_of ks k.reserved) (or_left (same_right k.reserved k.reserved) (same_right k.exercised k.reserved) (right_self k.reserved)),
        cond-true (ties k.exercised k) (Some k) (knot_of ks k.exercised) (or_right (same_right k.reserved k.exercised) (same_right k.exercised k.exercised) (right_self k.exercised)),
      ),
      found_behind k ks ks others.1 (IsDistinct-head same_right k.exercised (knotted ks) later) (each_found ks (IsDistinct-tail same_right k.exercised (knotted ks) later)),
    )

-- ---- what is taken off is never more than there is, so both together get what they get without the knot

pub uncut : (filled : Filled) (k : Knot) (t : ℕ) → CanFill filled → Contains filled.knots k → pay_reserved filled k t ≤ line_pay filled k.reserved t + line_pay filled k.exercised t
uncut filled k t fits there =
    let knot = All-contains (CanKnot filled.places filled.swaps) filled.knots k fits.knots there in
    let grows = reserved_grows filled k (are_tied filled k fits.places knot) (t - claim_of filled.places k.exercised) t (omega arith) in
    omega arith

pub two_get : (filled : Filled) (k : Knot) (t : ℕ) → CanFill filled → Contains filled.knots k
    → pay filled k.reserved t + pay filled k.exercised t ≡ pay (without_knots filled) k.reserved t + pay (without_knots filled) k.exercised t
two_get filled k t fits there =
    let knot = All-contains (CanKnot filled.places filled.swaps) filled.knots k fits.knots there in
    let tied = are_tied filled k fits.places knot in
    let found = All-contains (IsFoundIn filled.knots) filled.knots k (All-from_recursion (IsFoundIn filled.knots) filled.knots (each_found filled.knots fits.once)) there in
    let one = found_reserved filled k.reserved t k found.0 (right_self k.reserved) in
    let two = found_exercised filled k.exercised t k found.1 tied.two in
    let grows = uncut filled k t fits there in
    (λ i. one i + two i) ∙ omega arith

-- ---- an exercised right gets no more than its claim

-- none of these knots exercises the right
none_exercises : (ks : List Knot) (r : RightNo) → AllByRecursion (λ y. same_right r y ≡ false) (knotted ks) → list_any (λ k. same_right k.exercised r) ks ≡ false
none_exercises [] r others = refl
none_exercises (k ∷ ks) r others = ap (λ b. b || list_any (λ j. same_right j.exercised r) ks) (others_turned r k.exercised others.1.0) ∙ none_exercises ks r others.1.1

tied_within : (ks : List Knot) (filled : Filled) (r : RightNo) (t : ℕ) → IsDistinct same_right (knotted ks) → All (AreTied filled) ks → list_any (λ k. same_right k.exercised r) ks ≡ true
    → pay_with ks filled r t ≤ claim_of filled.places r
tied_within [] filled r t once tied there = absurd (false≢true there)
tied_within (k ∷ ks) filled r t once tied there =
    let others = IsDistinct-head same_right k.reserved (k.exercised ∷ knotted ks) once in
    let behind = IsDistinct-tail same_right k.exercised (knotted ks) (IsDistinct-tail same_right k.reserved (k.exercised ∷ knotted ks) once) in
    elim (same_right k.reserved r) as (λ b. same_right k.reserved r ≡ b → pay_by (cond (b || same_right k.exercised r) (Some k) (knot_of ks r)) filled r t ≤ claim_of filled.places r) [
      | true ↦ λ own.
          absurd (both_ways (list_any (λ (j : Knot). same_right j.exercised k.reserved) (k ∷ ks))
          (ap (λ b. b || list_any (λ (j : Knot). same_right j.exercised k.reserved) ks) (others_turned k.reserved k.exercised others.0) ∙ none_exercises ks k.reserved others.1)
          (subst (λ z. list_any (λ (j : Knot). same_right j.exercised z) (k ∷ ks) ≡ true) (sym (right_is k.reserved r own)) there))
      | false ↦ λ no.
          elim (same_right k.exercised r) as (λ b. same_right k.exercised r ≡ b → (b || list_any (λ (j : Knot). same_right j.exercised r) ks) ≡ true → pay_by (cond b (Some k) (knot_of ks r)) filled r t ≤ claim_of filled.places r) [
            | true ↦ λ own h.
                subst (λ n. n ≤ claim_of filled.places r) (sym (exercised_pay k filled r t no))
                (subst (λ z. pay_exercised filled k t ≤ claim_of filled.places z) (right_is k.exercised r own)
                (exercised_within filled k (All-head (AreTied filled) k ks tied) t))
            | false ↦ λ other h. tied_within ks filled r t behind (All-tail (AreTied filled) k ks tied) h
          ] refl there
    ] refl

pub all_tied : (filled : Filled) → CanFill filled → (ks : List Knot) → All (CanKnot filled.places filled.swaps) ks → All (AreTied filled) ks
all_tied filled fits ks knots = All-weaker (CanKnot filled.places filled.swaps) (AreTied filled) (λ k knot. are_tied filled k fits.places knot) ks knots

pub knot_within : (filled : Filled) (k : Knot) (t : ℕ) → CanFill filled → Contains filled.knots k → pay filled k.exercised t ≤ claim_of filled.places k.exercised
knot_within filled k t fits there =
    tied_within filled.knots filled k.exercised t fits.once (all_tied filled fits filled.knots fits.knots)
    (list_any_at (λ (j : Knot). same_right j.exercised k.exercised) filled.knots there.0 k there.1
    (subst (λ (j : Knot). same_right j.exercised k.exercised ≡ true) (sym there.2) (right_self k.exercised)))
