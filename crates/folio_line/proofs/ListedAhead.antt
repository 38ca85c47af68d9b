-- The places of rights in order: which right keeps its place, and which is listed ahead of which.
use Rattle.std.proofs.Common.{◌≡◌, ℕ, suc, ◌+◌, ◌<◌, Bool, true, false, cond, not, ◌&&◌, ◌||◌, List, [], ◌∷◌, Option, Some, take, refl, sym, ap, subst, ◌∙◌, ⊎_elim, arith}
use Rattle.std.specs.List.{list_any, position_or_len}
use Rattle.std.proofs.lemmas.Bool.{and_from, cases_Bool, false≢true, or_left, or_right}
use Rattle.std.proofs.lemmas.Bool.Decides.{nat_tests}
use Rattle.gb_base.specs.RightNo.{RightNo, same_right}
use Rattle.gb_base.proofs.Members.{In}
use Rattle.gb_base.proofs.SameRights.{right_self}
use Rattle.folio_sections.proofs.FilteredLists.{in_all}
use Rattle.rank_slots.specs.Groups.{is_listed_ahead, is_of, keeps_place}
use Rattle.rank_slots.specs.declared.places.Place.{Place}
use Rattle.folio_line.specs.declared.folio_rights.CreatedRight.{CreatedRight}
use Rattle.folio_line.specs.inner.PlaceByPlace.{places_behind}
use Rattle.folio_line.specs.inner.RightOrder.{Ascends, is_filed_before}

-- ---- a right keeps its place where it is not gone

pub keeps_its_place : (claims : RightNo → ℕ) (gone : RightNo → Bool) (before : Option CreatedRight) (xs : List CreatedRight) (x : CreatedRight) → In x xs → gone x.id ≡ false → keeps_place (places_behind claims gone before xs) x.id ≡ true
keeps_its_place claims gone before [] x there here = absurd there
keeps_its_place claims gone before (y ∷ xs) x there here =
    let rest = keeps_place (places_behind claims gone (Some y) xs) x.id in
    ⊎_elim
    (λ same.
    let own : (same_right y.id x.id && not (gone y.id)) ≡ true = subst (λ (z : CreatedRight). (same_right z.id x.id && not (gone z.id)) ≡ true) (sym same) (and_from (same_right x.id x.id) (not (gone x.id)) (right_self x.id) (ap not here)) in
    or_left (same_right y.id x.id && not (gone y.id)) rest own)
    (λ more. or_right (same_right y.id x.id && not (gone y.id)) rest (keeps_its_place claims gone (Some y) xs x more here))
    there

-- ---- a right of an earlier filing is listed ahead

-- a right's place stands ahead of another's, by recursion
abbrev stands_ahead : List Place → RightNo → RightNo → Bool
stands_ahead [] a c = false
stands_ahead (p ∷ ps) a c = not (same_right p.right c) && (same_right p.right a || stands_ahead ps a c)

stands_ahead_is : (places : List Place) (a c : RightNo) → is_listed_ahead places a c ≡ stands_ahead places a c
stands_ahead_is [] a c = refl
stands_ahead_is (p ∷ ps) a c =
    let k = position_or_len (is_of c) ps in
    let next : 1 + k ≡ suc k = omega arith in
    elim (same_right p.right c) as (λ b. list_any (is_of a) (take (cond (not b) (1 + k) 0) (p ∷ ps)) ≡ (not b && (same_right p.right a || stands_ahead ps a c))) [
      | true ↦ refl
      | false ↦ subst (λ j. list_any (is_of a) (take j (p ∷ ps)) ≡ (same_right p.right a || stands_ahead ps a c)) (sym next) (ap (λ b. same_right p.right a || b) (stands_ahead_is ps a c))
    ]

-- a right that stands first does not stand behind one of an earlier filing
earlier_first : (z x : CreatedRight) → is_filed_before x z ≡ false → x.id.receipt < z.id.receipt → ⊥
earlier_first z x up less = grind (arith, nat_tests, up, less)

other_number : (z y : CreatedRight) → z.id.receipt < y.id.receipt → same_right z.id y.id ≡ false
other_number z y less = grind (arith, nat_tests, less)

same_filing : (z y x : CreatedRight) → same_right z.id y.id ≡ true → x.id.receipt < y.id.receipt → x.id.receipt < z.id.receipt
same_filing z y x same less = grind (arith, nat_tests, same, less)

ahead_by : (claims : RightNo → ℕ) (gone : RightNo → Bool) (before : Option CreatedRight) (xs : List CreatedRight) (x y : CreatedRight) → Ascends xs → In x xs → In y xs → x.id.receipt < y.id.receipt
    → stands_ahead (places_behind claims gone before xs) x.id y.id ≡ true
ahead_by claims gone before [] x y up here there less = absurd here
ahead_by claims gone before (z ∷ zs) x y up here there less =
    let rest = stands_ahead (places_behind claims gone (Some z) zs) x.id y.id in
    ⊎_elim
    (λ first.
    let own : (not (same_right z.id y.id) && same_right z.id x.id) ≡ true =
    subst (λ (w : CreatedRight). (not (same_right w.id y.id) && same_right w.id x.id) ≡ true) (sym first) (and_from (not (same_right x.id y.id)) (same_right x.id x.id) (ap not (other_number x y less)) (right_self x.id)) in
    both (not (same_right z.id y.id)) (same_right z.id x.id) rest own)
    (λ later.
    let behind : same_right z.id y.id ≡ false = ⊎_elim
    (λ same. absurd (earlier_first z x (in_all (λ (w : CreatedRight). is_filed_before w z ≡ false) zs x up.0 later) (same_filing z y x same less)))
    (λ other. other)
    (cases_Bool (same_right z.id y.id)) in
    let more : In y zs = ⊎_elim (λ same. absurd (false≢true (sym behind ∙ subst (λ (w : CreatedRight). same_right w.id y.id ≡ true) (sym same) (right_self y.id)))) (λ m. m) there in
    and_from (not (same_right z.id y.id)) (same_right z.id x.id || rest) (ap not behind) (or_right (same_right z.id x.id) rest (ahead_by claims gone (Some z) zs x y up.1 later more less)))
    here
  where
    both : (a b c : Bool) → (a && b) ≡ true → (a && (b || c)) ≡ true
    both true true c is = refl
    both true false c is = absurd (false≢true is)
    both false b c is = is

pub listed_ahead : (claims : RightNo → ℕ) (gone : RightNo → Bool) (before : Option CreatedRight) (xs : List CreatedRight) (x y : CreatedRight) → Ascends xs → In x xs → In y xs → x.id.receipt < y.id.receipt
    → is_listed_ahead (places_behind claims gone before xs) x.id y.id ≡ true
listed_ahead claims gone before xs x y up here there less = stands_ahead_is (places_behind claims gone before xs) x.id y.id ∙ ahead_by claims gone before xs x y up here there less
