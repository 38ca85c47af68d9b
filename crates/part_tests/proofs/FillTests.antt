-- Tests of places, exchanges and knots, one by one.
use Rattle.std.proofs.Common.{◌≡◌, Bool, true, false, ◌||◌, MatchBool, List, [], ◌∷◌, All, length, arith}
use Rattle.std.specs.List.{AllByRecursion, AllWithin, IsDistinct, list_any}
use Rattle.std.proofs.lemmas.Bool.{false≢true, or_parts}
use Rattle.std.proofs.lemmas.List.Elements.{All-from_all_within}
use Rattle.std.proofs.lemmas.Map.Keys.{IsDistinct-cons}
use Rattle.gb_base.specs.RightNo.{RightNo, same_right}
use Rattle.rank_slots.specs.CanFill.{knotted}
use Rattle.rank_slots.specs.Groups.{is_of}
use Rattle.rank_slots.specs.declared.places.Knot.{Knot}
use Rattle.rank_slots.specs.declared.places.Place.{Place}
use Rattle.gb_base.proofs.SameRights.{others_turned}

-- ---- a test of each element

pub all_if_true : {X : Type 0} (P : X → Type 0) (Q : Type 0) (r : Bool) (xs : List X) → MatchBool r (AllWithin P xs 0 (length xs)) Q → r ≡ true → All P xs
all_if_true P Q true xs each is = All-from_all_within P xs each
all_if_true P Q false xs each is = absurd (false≢true is)

-- ---- elements that differ

pub distinct_none : {X : Type 0} (e : X → X → Bool) (xs : List X) → length xs ≡ 0 → IsDistinct e xs
unfolding IsDistinct
distinct_none e [] none = tt
distinct_none e (x ∷ xs) none = absurd (omega arith)

pub untied_none : (ks : List Knot) → length ks ≡ 0 → IsDistinct same_right (knotted ks)
unfolding IsDistinct
untied_none [] none = tt
untied_none (k ∷ ks) none = absurd (omega arith)

-- where no element passes a test, each fails it
pub none_passes : {X : Type 0} (test : X → Bool) (xs : List X) → list_any test xs ≡ false → AllByRecursion (λ x. test x ≡ false) xs
none_passes test [] none = tt
none_passes test (x ∷ xs) none = let parts = or_parts (test x) (list_any test xs) none in (parts.0, none_passes test xs parts.1)

turned : (r : RightNo) (ps : List Place) → AllByRecursion (λ p. is_of r p ≡ false) ps → AllByRecursion (λ p. same_right r p.right ≡ false) ps
turned r [] apart = tt
turned r (p ∷ ps) apart = (others_turned p.right r apart.0, turned r ps apart.1)

pub distinct_first : (p : Place) (ps : List Place) → list_any (is_of p.right) ps ≡ false → IsDistinct (λ p q. same_right p.right q.right) ps → IsDistinct (λ p q. same_right p.right q.right) (p ∷ ps)
distinct_first p ps none rest = IsDistinct-cons (λ p q. same_right p.right q.right) p ps (turned p.right ps (none_passes (is_of p.right) ps none)) rest

-- ---- knots of different rights

-- the knot ties the right: it is one of the knot's two
abbrev is_tied_by : RightNo → Knot → Bool
is_tied_by r k = same_right r k.reserved || same_right r k.exercised

untied : (r : RightNo) (ks : List Knot) → list_any (is_tied_by r) ks ≡ false → AllByRecursion (λ y. same_right r y ≡ false) (knotted ks)
untied r [] none = tt
untied r (k ∷ ks) none =
    let parts = or_parts (is_tied_by r k) (list_any (is_tied_by r) ks) none in
    let two = or_parts (same_right r k.reserved) (same_right r k.exercised) parts.0 in
    (two.0, (two.1, untied r ks parts.1))

pub tied_first : (k : Knot) (ks : List Knot) → same_right k.reserved k.exercised ≡ false
    → list_any (λ j. same_right k.reserved j.reserved || same_right k.reserved j.exercised) ks ≡ false
    → list_any (λ j. same_right k.exercised j.reserved || same_right k.exercised j.exercised) ks ≡ false
    → IsDistinct same_right (knotted ks) → IsDistinct same_right (knotted (k ∷ ks))
tied_first k ks two reserved exercised rest =
    IsDistinct-cons same_right k.reserved (k.exercised ∷ knotted ks) (two, untied k.reserved ks reserved)
    (IsDistinct-cons same_right k.exercised (knotted ks) (untied k.exercised ks exercised) rest)
