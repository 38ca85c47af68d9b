-- The places of a class's line, as they are written one after the other, are those of its rights.
use Rattle.std.proofs.Common.{◌≡◌, ℕ, ◌+◌, Bool, true, false, cond, not, ◌&&◌, ◌||◌, List, [], ◌∷◌, filter, map, Option, Some, refl, ap, ◌∙◌, arith}
use Rattle.std.specs.List.{AllByRecursion, IsDistinct}
use Rattle.std.specs.Option.{option_map_or}
use Rattle.std.proofs.lemmas.Map.Keys.{IsDistinct-head, IsDistinct-tail}
use Rattle.gb_base.specs.RightNo.{RightNo, same_right}
use Rattle.gb_base.specs.declared.keys.Key.{Key}
use Rattle.gb_base.specs.declared.keys.Key.TheVariants.{Right}
use Rattle.gb_base.proofs.SameRights.{others_turned, right_self}
use Rattle.folio_sections.specs.Rights.{capital}
use Rattle.folio_sections.specs.declared.entries.Entry.{Entry}
use Rattle.rank_slots.specs.declared.places.Place.{Place}
use Rattle.rank_slots.specs.declared.places.Swap.{Swap}
use Rattle.folio_line.specs.FolioRights.{is_live_with, joins_place}
use Rattle.folio_line.specs.FolioSlots.{capital_at, is_gone}
use Rattle.folio_line.specs.declared.folio_rights.CreatedRight.{CreatedRight}
use Rattle.folio_line.specs.inner.PlaceByPlace.{places_behind}
use Rattle.folio_line.proofs.PlacedDistinct.{has_same_number}
use Rattle.auction_classes.specs.inner.LinesRead.{behind_first, first_claim, found_behind, is_next, is_of_class, places_read, recedes_by, stands_by}
use Rattle.auction_classes.specs.declared.right_classes.RightClass.{RightClass}
use Rattle.auction_classes.specs.declared.rights_found.RightFound.{RightFound}
use Rattle.auction_classes.proofs.NarrowedRights.{holds_of}

-- ---- where two readings have the same entries

pub same_places : (class : RightClass) (swaps : List Swap) (at other : Key → List Entry) (folio : ℕ) (before : Option CreatedRight) (found : List RightFound) (xs : List CreatedRight)
    → AllByRecursion (λ x. at (Right folio x.id) ≡ other (Right folio x.id)) xs → places_read class swaps at folio before found xs ≡ places_read class swaps other folio before found xs
same_places class swaps at other folio before found [] same = refl
same_places class swaps at other folio before found (x ∷ xs) same =
    let here = same.0 in
    let behind = found_behind found x.id in
    let rest = λ (b : Option CreatedRight). same_places class swaps at other folio b behind xs same.1 in
    let place : List Entry → Place = λ es. record {
      right = x.id;
      claim = cond (is_next found x.id) (first_claim found) (option_map_or (λ c. c) (capital es) 0);
      with_previous = joins_place before x;
      dropped = not (is_next found x.id);
    } in
    λ i. cond (stands_by class swaps found x.id) (place (here i) ∷ rest (Some x) i) (rest before i)

-- ---- what is found of the live ones

-- the right is live
abbrev pub lives : (Key → List Entry) → ℕ → CreatedRight → Bool
lives at folio x = holds_of is_live_with at folio x

-- the right stands on the line
abbrev pub stands_so : RightClass → List Swap → (Key → List Entry) → ℕ → CreatedRight → Bool
stands_so class swaps at folio x = is_of_class class x.id && (lives at folio x || recedes_by swaps x.id)

-- what is found of a right is of it, and has its capital
pub record IsFoundOf (at : Key → List Entry) (folio : ℕ) (f : CreatedRight → RightFound) (x : CreatedRight) : Type 0 where
  pub right : (f x).right ≡ x
  pub has_capital : (f x).capital ≡ capital_at at folio x.id

-- the claim of a right is its interest, where it is live, and its capital
abbrev pub ClaimsSo : (Key → List Entry) → ℕ → (RightNo → ℕ) → (CreatedRight → RightFound) → CreatedRight → Type 0
ClaimsSo at folio claims f x = cond (lives at folio x) (f x).interest 0 + capital_at at folio x.id ≡ claims x.id

-- none of the other rights is found as this one
none_next : (at : Key → List Entry) (folio : ℕ) (f : CreatedRight → RightFound) (x : CreatedRight) (ys : List CreatedRight) → ((y : CreatedRight) → IsFoundOf at folio f y)
    → AllByRecursion (λ y. has_same_number x y ≡ false) ys → is_next (map f (filter (lives at folio) ys)) x.id ≡ false
none_next at folio f x [] is others = refl
none_next at folio f x (y ∷ ys) is others =
    elim (lives at folio y) as (λ b. is_next (map f (cond b (y ∷ filter (lives at folio) ys) (filter (lives at folio) ys))) x.id ≡ false) [
      | true ↦ ap (λ (z : CreatedRight). same_right z.id x.id) (is y).right ∙ others_turned x.id y.id others.0
      | false ↦ none_next at folio f x ys is others.1
    ]

-- the next that is found is of a right just where that is live
next_is : (at : Key → List Entry) (folio : ℕ) (f : CreatedRight → RightFound) (x : CreatedRight) (xs : List CreatedRight) → ((y : CreatedRight) → IsFoundOf at folio f y)
    → AllByRecursion (λ y. has_same_number x y ≡ false) xs → is_next (map f (filter (lives at folio) (x ∷ xs))) x.id ≡ lives at folio x
next_is at folio f x xs is others =
    elim (lives at folio x) as (λ b. is_next (map f (cond b (x ∷ filter (lives at folio) xs) (filter (lives at folio) xs))) x.id ≡ b) [
      | true ↦ ap (λ (z : CreatedRight). same_right z.id x.id) (is x).right ∙ right_self x.id
      | false ↦ none_next at folio f x xs is others
    ]

-- the first of those found is a live right's own, and the others are those of the rights behind it
first_is : (f : CreatedRight → RightFound) (x : CreatedRight) (xs : List CreatedRight) (n : ℕ) (b : Bool) → (f x).capital ≡ n
    → cond b (first_claim (map f (cond b (x ∷ xs) xs))) n ≡ cond b (f x).interest 0 + n
first_is f x xs n true is = ap (λ m. (f x).interest + m) is
first_is f x xs n false is = omega arith

behind_is : (f : CreatedRight → RightFound) (x : CreatedRight) (xs : List CreatedRight) (b : Bool) → cond b (behind_first (map f (cond b (x ∷ xs) xs))) (map f (cond b (x ∷ xs) xs)) ≡ map f xs
behind_is f x xs true = refl
behind_is f x xs false = refl

pub places_are : (class : RightClass) (swaps : List Swap) (at : Key → List Entry) (folio : ℕ) (claims : RightNo → ℕ) (f : CreatedRight → RightFound) (before : Option CreatedRight) (xs : List CreatedRight)
    → ((x : CreatedRight) → IsFoundOf at folio f x) → IsDistinct has_same_number xs → AllByRecursion (λ x. stands_so class swaps at folio x ≡ true → ClaimsSo at folio claims f x) xs
    → places_read class swaps at folio before (map f (filter (lives at folio) xs)) xs ≡ places_behind claims (is_gone at folio) before (filter (stands_so class swaps at folio) xs)
places_are class swaps at folio claims f before [] is differ all = refl
places_are class swaps at folio claims f before (x ∷ xs) is differ all =
    let live = lives at folio x in
    let rest = filter (lives at folio) xs in
    let found = map f (cond live (x ∷ rest) rest) in
    let own = filter (stands_so class swaps at folio) xs in
    let n = capital_at at folio x.id in
    let next = next_is at folio f x xs is (IsDistinct-head has_same_number x xs differ) in
    let claim = first_is f x rest n live (is x).has_capital in
    let behind = behind_is f x rest live in
    let left = λ (b : Option CreatedRight). ap (λ fs. places_read class swaps at folio b fs xs) behind ∙ places_are class swaps at folio claims f b xs is (IsDistinct-tail has_same_number x xs differ) all.1 in
    let place : ℕ → Bool → Place = λ m b. record { right = x.id; claim = m; with_previous = joins_place before x; dropped = not b } in
    let written : Bool → List Place = λ b.
    cond (is_of_class class x.id && (b || recedes_by swaps x.id)) (place (cond b (first_claim found) n) b ∷ places_read class swaps at folio (Some x) (cond b (behind_first found) found) xs)
    (places_read class swaps at folio before (cond b (behind_first found) found) xs) in
    ap written next
    ∙ elim (stands_so class swaps at folio x)
    as (λ b. stands_so class swaps at folio x ≡ b
    → cond b (place (cond live (first_claim found) n) live ∷ places_read class swaps at folio (Some x) (cond live (behind_first found) found) xs) (places_read class swaps at folio before (cond live (behind_first found) found) xs)
    ≡ places_behind claims (is_gone at folio) before (cond b (x ∷ own) own)) [
      | true ↦ λ stands. λ i. place ((claim ∙ all.0 stands) i) live ∷ left (Some x) i
      | false ↦ λ _. left before
    ] refl
