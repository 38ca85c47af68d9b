-- With the knots as much is handed out as without them.
use Rattle.std.proofs.Common.{◌≡◌, ℕ, ◌+◌, ◌-◌, ◌≤◌, true, false, cond, not, ◌&&◌, ◌||◌, List, [], ◌∷◌, All, filter, sum_by, refl, sym, ap, ◌∙◌, subst, arith}
use Rattle.std.specs.List.{AllByRecursion, IsDistinct}
use Rattle.std.proofs.lemmas.Bool.{cond-false, cond-true, false≢true}
use Rattle.std.proofs.lemmas.List.Elements.{All-head, All-tail}
use Rattle.std.proofs.lemmas.List.Sums.{sum_by-cons}
use Rattle.std.proofs.lemmas.Map.Keys.{IsDistinct-head, IsDistinct-tail}
use Rattle.gb_base.specs.RightNo.{RightNo, same_right}
use Rattle.gb_base.proofs.SameRights.{others_turned, right_is, right_self}
use Rattle.rank_slots.specs.CanFill.{CanFill, CanKnot, knotted}
use Rattle.rank_slots.specs.Filled.{Filled, without_knots}
use Rattle.rank_slots.specs.Groups.{is_of, keeps_place}
use Rattle.rank_slots.specs.Payments.{claim_of, paid_out, line_pay}
use Rattle.rank_slots.specs.declared.places.Knot.{Knot}
use Rattle.rank_slots.specs.declared.places.Place.{Place}
use Rattle.rank_slots.proofs.KnotPay.{all_tied, exercised_pay, first_pays, others_pay, pay_with, reserved_pay, untied_pay}
use Rattle.rank_slots.proofs.KnotTies.{AreTied, reserved_grows}
use Rattle.rank_slots.proofs.LineCounts.{counted, counted_filter, tally}
use Rattle.rank_slots.proofs.PlaceLines.{AreDifferent, places_few}

-- ---- sums over places

-- what the rights of these places get together
abbrev total : (RightNo → ℕ) → List Place → ℕ
total f [] = 0
total f (p ∷ ps) = f p.right + total f ps

total_is : (f : RightNo → ℕ) (ps : List Place) → sum_by (λ p. f p.right) ps ≡ total f ps
total_is f [] = refl
total_is f (p ∷ ps) = sum_by-cons (λ (q : Place). f q.right) p ps ∙ ap (λ n. f p.right + n) (total_is f ps)

-- two amounts that differ at one right alone
abbrev DifferAt : RightNo → (RightNo → ℕ) → (RightNo → ℕ) → Type 0
DifferAt a f g = (r : RightNo) → same_right a r ≡ false → g r ≡ f r

total_others : (a : RightNo) (f g : RightNo → ℕ) → DifferAt a f g → (ps : List Place) → counted (is_of a) ps ≡ 0 → total g ps ≡ total f ps
total_others a f g differ [] none = refl
total_others a f g differ (p ∷ ps) none =
    elim (same_right p.right a) as (λ b. same_right p.right a ≡ b → tally b + counted (is_of a) ps ≡ 0 → g p.right + total g ps ≡ f p.right + total f ps) [
      | true ↦ λ own h. absurd (omega arith)
      | false ↦ λ other h.
          let here = differ p.right (others_turned p.right a other) in
          let rest = total_others a f g differ ps (omega arith) in omega arith
    ] refl none

total_one : (a : RightNo) (f g : RightNo → ℕ) → DifferAt a f g → (ps : List Place) → counted (is_of a) ps ≡ 1 → total g ps + f a ≡ total f ps + g a
total_one a f g differ [] one = absurd (omega arith)
total_one a f g differ (p ∷ ps) one =
    elim (same_right p.right a) as (λ b. same_right p.right a ≡ b → tally b + counted (is_of a) ps ≡ 1 → (g p.right + total g ps) + f a ≡ (f p.right + total f ps) + g a) [
      | true ↦ λ own h.
          let rest = total_others a f g differ ps (omega arith) in
          subst (λ z. (g p.right + total g ps) + f z ≡ (f p.right + total f ps) + g z) (right_is p.right a own) (omega arith)
      | false ↦ λ other h.
          let here = differ p.right (others_turned p.right a other) in
          let rest = total_one a f g differ ps (omega arith) in omega arith
    ] refl one

-- where two amounts give two rights as much together, and all others the same, they come to the same
total_two : (a c : RightNo) (f g : RightNo → ℕ) → same_right a c ≡ false → ((r : RightNo) → same_right a r ≡ false → same_right c r ≡ false → g r ≡ f r) → g a + g c ≡ f a + f c
    → (ps : List Place) → counted (is_of a) ps ≡ 1 → counted (is_of c) ps ≡ 1 → total g ps ≡ total f ps
total_two a c f g two differ same ps first last =
    let between = λ (r : RightNo). cond (same_right a r) (g r) (f r) in
    let own : between a ≡ g a = cond-true (same_right a a) (g a) (f a) (right_self a) in
    let other : between c ≡ f c = cond-false (same_right a c) (g c) (f c) two in
    let one : total between ps + f a ≡ total f ps + between a = total_one a f between (λ r no. cond-false (same_right a r) (g r) (f r) no) ps first in
    let then : total g ps + between c ≡ total between ps + g c =
    total_one c between g
    (λ r no. elim (same_right a r) as (λ b. same_right a r ≡ b → g r ≡ cond b (g r) (f r)) [ true ↦ λ _. refl | false ↦ λ not. differ r not no ] refl) ps last in
    omega arith

-- ---- the places that are not dropped

kept_some : (r : RightNo) (places : List Place) → keeps_place places r ≡ true → 1 ≤ counted (is_of r) (filter (λ p. not p.dropped) places)
kept_some r [] kept = absurd (false≢true kept)
kept_some r (p ∷ ps) kept =
    let rest = filter (λ (q : Place). not q.dropped) ps in
    elim p.dropped as (λ d. ((same_right p.right r && not d) || keeps_place ps r) ≡ true → 1 ≤ counted (is_of r) (cond (not d) (p ∷ rest) rest)) [
      | true ↦ λ h. kept_some r ps (let more : keeps_place ps r ≡ true = elim (same_right p.right r) as (λ b. ((b && false) || keeps_place ps r) ≡ true → keeps_place ps r ≡ true) [ true ↦ λ g. g | false ↦ λ g. g ] h in more)
      | false ↦ λ h.
          elim (same_right p.right r) as (λ b. ((b && true) || keeps_place ps r) ≡ true → 1 ≤ tally b + counted (is_of r) rest) [
            | true ↦ λ g. omega arith
            | false ↦ λ g. omega (arith, kept_some r ps g)
          ] h
    ] kept

-- a right that keeps its place has one place among those that are not dropped
kept_once : (r : RightNo) (places : List Place) → AreDifferent places → keeps_place places r ≡ true → counted (is_of r) (filter (λ p. not p.dropped) places) ≡ 1
kept_once r places differ kept =
    let few = places_few r places differ in
    let fewer = counted_filter (λ (p : Place). not p.dropped) (is_of r) places in
    let some = kept_some r places kept in omega arith

-- ---- knot by knot

-- the two rights of a further knot get as much together as without it
two_pay : (k : Knot) (ks : List Knot) (filled : Filled) (t : ℕ) → AreTied filled k → AllByRecursion (λ y. same_right k.reserved y ≡ false) (k.exercised ∷ knotted ks) → AllByRecursion (λ y. same_right k.exercised y ≡ false) (knotted ks)
    → pay_with (k ∷ ks) filled k.reserved t + pay_with (k ∷ ks) filled k.exercised t ≡ pay_with ks filled k.reserved t + pay_with ks filled k.exercised t
two_pay k ks filled t tie first last =
    let without = t - claim_of filled.places k.exercised in
    let own = right_self k.reserved in
    let one = first_pays k ks filled k.reserved t (ap (λ b. b || same_right k.exercised k.reserved) own) ∙ reserved_pay k filled k.reserved t own in
    let two = first_pays k ks filled k.exercised t (λ i. tie.two i || right_self k.exercised i) ∙ exercised_pay k filled k.exercised t tie.two in
    let line_first = untied_pay ks filled k.reserved t first.1 in
    let line_last = untied_pay ks filled k.exercised t last in
    let grows = reserved_grows filled k tie without t (omega arith) in
    (λ i. one i + two i) ∙ (omega arith)

knots_total : (ks : List Knot) (filled : Filled) (t : ℕ) → AreDifferent filled.places → IsDistinct same_right (knotted ks) → All (CanKnot filled.places filled.swaps) ks → All (AreTied filled) ks
    → total (λ r. pay_with ks filled r t) (filter (λ p. not p.dropped) filled.places) ≡ total (λ r. line_pay filled r t) (filter (λ p. not p.dropped) filled.places)
knots_total [] filled t differ once knots tied = refl
knots_total (k ∷ ks) filled t differ once knots tied =
    let later = IsDistinct-tail same_right k.reserved (k.exercised ∷ knotted ks) once in
    let knot = All-head (CanKnot filled.places filled.swaps) k ks knots in
    let tie = All-head (AreTied filled) k ks tied in
    total_two k.reserved k.exercised (λ r. pay_with ks filled r t) (λ r. pay_with (k ∷ ks) filled r t) tie.two (λ r first last. others_pay k ks filled r t (λ i. first i || last i))
    (two_pay k ks filled t tie
    (IsDistinct-head same_right k.reserved (k.exercised ∷ knotted ks) once) (IsDistinct-head same_right k.exercised (knotted ks) later))
    (filter (λ p. not p.dropped) filled.places)
    (kept_once k.reserved filled.places differ knot.reserved.kept) (kept_once k.exercised filled.places differ knot.exercised.kept)
    ∙ knots_total ks filled t differ (IsDistinct-tail same_right k.exercised (knotted ks) later) (All-tail (CanKnot filled.places filled.swaps) k ks knots) (All-tail (AreTied filled) k ks tied)

pub all_handed_out : (filled : Filled) (t : ℕ) → CanFill filled → paid_out filled t ≡ paid_out (without_knots filled) t
all_handed_out filled t fits =
    let kept = filter (λ (p : Place). not p.dropped) filled.places in
    total_is (λ r. pay_with filled.knots filled r t) kept
    ∙ (knots_total filled.knots filled t fits.places.distinct fits.once fits.knots (all_tied filled fits filled.knots fits.knots)
    ∙ sym (total_is (λ r. line_pay filled r t) kept))
