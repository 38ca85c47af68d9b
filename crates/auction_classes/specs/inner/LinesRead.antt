-- The line of a class, as it is written from the folio's line and from what is found of the live rights.
use Rattle.std.specs.Prelude.{◌≡◌, ℕ, ◌+◌, ◌*◌, ◌≤◌, Bool, false, not, ◌&&◌, ◌||◌, ◌==◌, if◌then◌else◌, List, [], ◌∷◌, filter, length, map, Option, Some, None, vec_capacity}
use Rattle.std.specs.List.{list_any}
use Rattle.gb_base.specs.RightNo.{RightNo, same_right}
use Rattle.gb_base.specs.declared.keys.Key.{Key}
use Rattle.folio_sections.specs.declared.entries.Entry.{Entry}
use Rattle.folio_line.specs.FolioLine.{LineState}
use Rattle.folio_line.specs.FolioRights.{joins_place}
use Rattle.folio_line.specs.FolioSlots.{capital_at, swap_of}
use Rattle.folio_line.specs.declared.exchanges.Exchange.{Exchange}
use Rattle.folio_line.specs.declared.folio_rights.CreatedRight.{CreatedRight}
use Rattle.rank_slots.specs.Filled.{Filled}
use Rattle.rank_slots.specs.declared.places.Knot.{Knot}
use Rattle.rank_slots.specs.declared.places.Place.{Place}
use Rattle.rank_slots.specs.declared.places.Swap.{Swap}
use Rattle.auction_classes.specs.inner.Findings.{class_by}
use Rattle.auction_classes.specs.inner.InterestLimits.{most_of_term}
use Rattle.auction_classes.specs.declared.class_lines.ClassLine.{ClassLine}
use Rattle.auction_classes.specs.declared.right_classes.RightClass.{RightClass}
use Rattle.auction_classes.specs.declared.rights_found.RightFound.{RightFound}

-- ---- room

-- the line has room for so many rights and exchanges
pub record HasLineRoom (rights exchanges : ℕ) (own : ClassLine) : Type 0 where
  pub places : rights ≤ vec_capacity own.places
  pub swaps : exchanges ≤ vec_capacity own.swaps
  pub knots : rights ≤ vec_capacity own.knots

-- how much memory its lists have
abbrev pub line_capacity : ClassLine → ℕ
line_capacity own = vec_capacity own.places + vec_capacity own.swaps + vec_capacity own.knots

-- the line has room for all that stands on the folio's line
pub record HasRoomForAll (line : LineState) (own : ClassLine) : Type 0 where
  pub places : length line.rights ≤ vec_capacity own.places
  pub swaps : length line.exchanges ≤ vec_capacity own.swaps
  pub knots : length line.exercises ≤ vec_capacity own.knots

-- what stands on the folio's line is no more than so many rights and exchanges
pub record IsLineWithin (rights exchanges : ℕ) (line : LineState) : Type 0 where
  pub placed : length line.rights ≤ rights
  pub swapped : length line.exchanges ≤ exchanges
  pub tied : length line.exercises ≤ rights

-- the line has as much room as before
pub record KeepsLineRoom (before now : ClassLine) : Type 0 where
  pub places : vec_capacity now.places ≡ vec_capacity before.places
  pub swaps : vec_capacity now.swaps ≡ vec_capacity before.swaps
  pub knots : vec_capacity now.knots ≡ vec_capacity before.knots

-- ---- what is of the class

-- the right is of the class
abbrev pub is_of_class : RightClass → RightNo → Bool
is_of_class class id = class_by class.seized id == class.number

-- those of these exchanges, and of these exercises, both of whose rights are of the class
abbrev pub exchanges_within : RightClass → List Exchange → List Exchange
exchanges_within class exchanges = filter (λ x. is_of_class class x.recede && is_of_class class x.rise) exchanges

abbrev pub exercises_within : RightClass → List Knot → List Knot
exercises_within class exercises = filter (λ k. is_of_class class k.reserved && is_of_class class k.exercised) exercises

-- ---- places

-- the right recedes in one of these exchanges
abbrev pub recedes_by : List Swap → RightNo → Bool
recedes_by swaps id = list_any (λ w. same_right w.recede id) swaps

-- The live rights are found in their order, each once: a right is live where the next that is found is of it.
abbrev pub is_next : List RightFound → RightNo → Bool
is_next [] id = false
is_next (x ∷ xs) id = same_right x.right.id id

-- the right stands on the line of the class, where these are left of what is found
abbrev pub stands_by : RightClass → List Swap → List RightFound → RightNo → Bool
stands_by class swaps found id = is_of_class class id && (is_next found id || recedes_by swaps id)

-- the interest and the capital of the first that is found
abbrev pub first_claim : List RightFound → ℕ
first_claim [] = 0
first_claim (x ∷ xs) = x.interest + x.capital

-- what is found behind the first
abbrev pub behind_first : List RightFound → List RightFound
behind_first [] = []
behind_first (x ∷ xs) = xs

-- what a right claims: interest and capital, or its capital alone where it is gone
abbrev pub claim_read : (Key → List Entry) → ℕ → List RightFound → RightNo → ℕ
claim_read at folio found id = if is_next found id then first_claim found else capital_at at folio id

-- what is found of the live rights behind this one
abbrev pub found_behind : List RightFound → RightNo → List RightFound
found_behind found id = if is_next found id then behind_first found else found

-- the place of a right, with the right before it on the line, if there is one
abbrev pub place_read : (Key → List Entry) → ℕ → Option CreatedRight → List RightFound → CreatedRight → Place
place_read at folio before found x = record {
  right = x.id;
  claim = claim_read at folio found x.id;
  with_previous = joins_place before x;
  dropped = not (is_next found x.id);
}

-- the places of those of these rights that stand on the line, with the right before them and with what is found of the live ones
abbrev pub places_read : RightClass → List Swap → (Key → List Entry) → ℕ → Option CreatedRight → List RightFound → List CreatedRight → List Place
places_read class swaps at folio before found [] = []
places_read class swaps at folio before found (x ∷ xs) =
    if stands_by class swaps found x.id
    then place_read at folio before found x ∷ places_read class swaps at folio (Some x) (found_behind found x.id) xs
    else places_read class swaps at folio before (found_behind found x.id) xs

-- ---- the line

abbrev pub swaps_read : RightClass → List Exchange → List Swap
swaps_read class exchanges = map swap_of (exchanges_within class exchanges)

-- the line of a class, from the folio's line and from what is found of the live rights
abbrev pub line_read : RightClass → (Key → List Entry) → ℕ → List RightFound → LineState → Filled
line_read class at folio found line = record {
  places = places_read class (swaps_read class line.exchanges) at folio None found line.rights;
  swaps = swaps_read class line.exchanges;
  knots = exercises_within class line.exercises;
}

-- ---- the range of interest

-- the interest of a right is at most that of 33 terms: the current one, and those of the registrations of a case
abbrev pub most_interest : ℕ
most_interest = 33 * most_of_term

abbrev pub HasLowInterest : RightFound → Type 0
HasLowInterest x = x.interest ≤ most_interest
