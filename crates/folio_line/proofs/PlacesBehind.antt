-- The places of rights in order: what holds of each right holds of its place.
use Rattle.std.proofs.Common.{◌≡◌, ℕ, suc, Bool, true, false, ◌&&◌, ◌||◌, List, [], ◌∷◌, length, Option, Some, None, inl, inr, refl, ap, subst, ⊎_elim, ◌∙◌}
use Rattle.std.specs.List.{AllByRecursion, IsDistinct}
use Rattle.std.proofs.lemmas.Bool.{false≢true, or_left, or_right}
use Rattle.gb_base.specs.RightNo.{RightNo, same_right}
use Rattle.gb_base.proofs.Members.{In}
use Rattle.rank_slots.specs.Groups.{joins}
use Rattle.rank_slots.specs.declared.places.Place.{Place}
use Rattle.rank_slots.proofs.PlaceLines.{is_listed}
use Rattle.folio_line.specs.inner.PlaceByPlace.{place_behind, places_behind}
use Rattle.folio_line.specs.FolioRights.{has_same_place}
use Rattle.folio_line.specs.declared.folio_rights.CreatedRight.{CreatedRight}
use Rattle.folio_line.proofs.LoneGroups.{NoneJoins}
use Rattle.folio_line.proofs.PlacedDistinct.{has_same_number}

-- what holds of the place of each right, whatever stands before it, holds of all places
pub all_places : (P : Place → Type 0) (claims : RightNo → ℕ) (gone : RightNo → Bool) (before : Option CreatedRight) (xs : List CreatedRight) → ((b : Option CreatedRight) (x : CreatedRight) → In x xs → P (place_behind claims gone b x))
    → AllByRecursion P (places_behind claims gone before xs)
all_places P claims gone before [] each = tt
all_places P claims gone before (x ∷ xs) each = (each before x (inl refl), all_places P claims gone (Some x) xs (λ b y there. each b y (inr there)))

-- what holds of the right of each place holds of each right
pub of_places : (P : RightNo → Type 0) (claims : RightNo → ℕ) (gone : RightNo → Bool) (before : Option CreatedRight) (xs : List CreatedRight) (x : CreatedRight) → In x xs → AllByRecursion (λ p. P p.right) (places_behind claims gone before xs)
    → P x.id
of_places P claims gone before [] x there all = absurd there
of_places P claims gone before (y ∷ xs) x there all = ⊎_elim (λ same. subst (λ (z : CreatedRight). P z.id) same all.0) (λ more. of_places P claims gone (Some y) xs x more all.1) there

-- there are as many places as rights
pub places_many : (claims : RightNo → ℕ) (gone : RightNo → Bool) (before : Option CreatedRight) (xs : List CreatedRight) → length (places_behind claims gone before xs) ≡ length xs
places_many claims gone before [] = refl
places_many claims gone before (x ∷ xs) = ap (λ n. suc n) (places_many claims gone (Some x) xs)

-- the first place joins none
pub first_joins_none : (claims : RightNo → ℕ) (gone : RightNo → Bool) (xs : List CreatedRight) → joins (places_behind claims gone None xs) ≡ false
first_joins_none claims gone [] = refl
first_joins_none claims gone (x ∷ xs) = refl

-- a right is listed by its number
pub listed : (claims : RightNo → ℕ) (gone : RightNo → Bool) (before : Option CreatedRight) (xs : List CreatedRight) (x : CreatedRight) (right : RightNo) → In x xs → same_right x.id right ≡ true → is_listed (places_behind claims gone before xs) right ≡ true
listed claims gone before [] x right there same = absurd there
listed claims gone before (y ∷ xs) x right there same =
    ⊎_elim
    (λ e. or_left (same_right y.id right) (is_listed (places_behind claims gone (Some y) xs) right) (ap (λ (z : CreatedRight). same_right z.id right) e ∙ same))
    (λ more. or_right (same_right y.id right) (is_listed (places_behind claims gone (Some y) xs) right) (listed claims gone (Some y) xs x right more same))
    there

-- rights of different numbers have places of different rights
all_numbers : (claims : RightNo → ℕ) (gone : RightNo → Bool) (x : CreatedRight) (before : Option CreatedRight) (xs : List CreatedRight) → AllByRecursion (λ y. has_same_number x y ≡ false) xs → AllByRecursion (λ q. same_right x.id q.right ≡ false) (places_behind claims gone before xs)
all_numbers claims gone x before [] apart = tt
all_numbers claims gone x before (y ∷ xs) apart = (apart.0, all_numbers claims gone x (Some y) xs apart.1)

pub places_distinct : (claims : RightNo → ℕ) (gone : RightNo → Bool) (before : Option CreatedRight) (xs : List CreatedRight) → IsDistinct has_same_number xs → IsDistinct (λ p q. same_right p.right q.right) (places_behind claims gone before xs)
unfolding IsDistinct
places_distinct claims gone before [] apart = tt
places_distinct claims gone before (x ∷ xs) apart = (all_numbers claims gone x (Some x) xs apart.0, places_distinct claims gone (Some x) xs apart.1)

-- ---- a right that has the place of no other

-- one of the two is of this number, and both have one place
abbrev pub shares_place : RightNo → CreatedRight → CreatedRight → Bool
shares_place right x y = (same_right x.id right || same_right y.id right) && has_same_place x y

-- what the test says of the first of two, and of the second
first_apart : (a b same : Bool) → ((a || b) && same) ≡ false → a ≡ true → same ≡ false
first_apart true b same apart is = apart
first_apart false b same apart is = absurd (false≢true is)

second_apart : (a b same : Bool) → ((a || b) && same) ≡ false → b ≡ true → same ≡ false
second_apart true true same apart is = apart
second_apart false true same apart is = apart
second_apart a false same apart is = absurd (false≢true is)

-- where the place of a right is shared by none behind it, none behind joins it, and it joins none
none_behind : (claims : RightNo → ℕ) (gone : RightNo → Bool) (right : RightNo) (x : CreatedRight) (xs : List CreatedRight) → IsDistinct (shares_place right) (x ∷ xs) → same_right x.id right ≡ true → joins (places_behind claims gone (Some x) xs) ≡ false
unfolding IsDistinct
none_behind claims gone right x [] apart is = refl
none_behind claims gone right x (y ∷ xs) apart is = first_apart (same_right x.id right) (same_right y.id right) (has_same_place x y) apart.0.0 is

none_joins_behind : (claims : RightNo → ℕ) (gone : RightNo → Bool) (right : RightNo) (b : CreatedRight) (xs : List CreatedRight) → IsDistinct (shares_place right) (b ∷ xs) → NoneJoins right (places_behind claims gone (Some b) xs)
unfolding IsDistinct
none_joins_behind claims gone right b [] apart = tt
none_joins_behind claims gone right b (x ∷ xs) apart = (
  λ is. (second_apart (same_right b.id right) (same_right x.id right) (has_same_place b x) apart.0.0 is, none_behind claims gone right x xs apart.1 is),
  none_joins_behind claims gone right x xs apart.1,
)

pub none_joins : (claims : RightNo → ℕ) (gone : RightNo → Bool) (right : RightNo) (xs : List CreatedRight) → IsDistinct (shares_place right) xs → NoneJoins right (places_behind claims gone None xs)
none_joins claims gone right [] apart = tt
none_joins claims gone right (x ∷ xs) apart = (λ is. (refl, none_behind claims gone right x xs apart is), none_joins_behind claims gone right x xs apart)
