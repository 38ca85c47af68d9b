-- A line of rights of a folio, with exchanges and exercises that count among them, is one that slots can be filled with.
use Rattle.std.proofs.Common.{◌≡◌, ℕ, ◌<◌, ◌≤◌, Bool, true, false, not, ◌||◌, List, IsSomeAnd, None, Some, Option, is_some, length, map, sum_by, sym, ap, subst, ◌∙◌, ⊎_elim}
use Rattle.std.specs.List.{IsDistinct}
use Rattle.std.proofs.lemmas.Bool.{both_ways, cases_Bool, false_from_ne_true, or_left, or_right}
use Rattle.std.proofs.lemmas.List.Elements.{All-from_recursion, All-map}
use Rattle.gb_base.specs.Limits.{most_sum}
use Rattle.gb_base.specs.RightNo.{RightNo, same_right}
use Rattle.gb_base.specs.declared.keys.Key.{Key}
use Rattle.gb_base.specs.declared.keys.Key.TheVariants.{Right}
use Rattle.gb_base.proofs.Members.{In, of_map}
use Rattle.gb_base.proofs.SameRights.{right_is}
use Rattle.act_model.specs.Receiving.{IsJournal}
use Rattle.act_model.specs.declared.receipts.Receipt.{Receipt}
use Rattle.kept_registers.specs.KeptRights.{IsUntied, StandsUntied}
use Rattle.folio_sections.specs.Rights.{created}
use Rattle.folio_sections.specs.declared.entries.Created.{Created}
use Rattle.folio_sections.specs.declared.entries.Entry.{Entry}
use Rattle.folio_sections.proofs.FilteredLists.{all_in, of_any}
use Rattle.rank_slots.specs.CanFill.{ArePlaces, CanFill, CanKnot, CanSwap, CanTie, StandsAlone, is_swapped}
use Rattle.rank_slots.specs.CentLine.{is_of_either}
use Rattle.rank_slots.specs.Filled.{Filled}
use Rattle.rank_slots.specs.Groups.{keeps_place}
use Rattle.rank_slots.specs.Limits.{most_places}
use Rattle.rank_slots.specs.declared.places.Knot.{Knot}
use Rattle.rank_slots.specs.declared.places.Place.{Place}
use Rattle.rank_slots.specs.declared.places.Swap.{Swap}
use Rattle.folio_line.specs.Exchanges.{counted_exchanges, counted_exercises}
use Rattle.folio_line.specs.FolioRights.{groups_where, rights_where}
use Rattle.folio_line.specs.FolioSlots.{filled_by, is_gone, recedes, swap_of}
use Rattle.folio_line.specs.declared.exchanges.Exchange.{Exchange}
use Rattle.folio_line.specs.declared.folio_rights.CreatedRight.{CreatedRight}
use Rattle.folio_line.proofs.CountedExchanges.{is_counted}
use Rattle.folio_line.proofs.CountedExercises.{apart_kinds, distinct_knotted, is_tied, share_a_right}
use Rattle.folio_line.proofs.CreatedRights.{is_in_ranges}
use Rattle.folio_line.proofs.GroupsWritten.{line_written}
use Rattle.folio_line.proofs.ListedAhead.{keeps_its_place, listed_ahead}
use Rattle.folio_line.proofs.OwnGroups.{is_ranked_apart, own_group}
use Rattle.folio_line.proofs.PlacedDistinct.{placed_distinct}
use Rattle.folio_line.proofs.PlacedFew.{is_placed, placed_few}
use Rattle.folio_line.proofs.PlacedOrder.{placed_rights_ascend, the_right}
use Rattle.folio_line.proofs.PlacesBehind.{all_places, first_joins_none, places_distinct, places_many}
use Rattle.folio_line.proofs.UntiedAlone.{lone_alone, untied_alone, tested_places}
use Rattle.folio_line.proofs.RightsInOrder.{RightsInOrder, is_created_here}

-- ---- what a line is made of

-- The exchanges and exercises are among those of the folio that count, the test holds of the rights in them, each right that is gone
-- recedes in one of the exchanges, and no right is in two exercises.
pub record IsLine (at : Key → List Entry) (folio : ℕ) (holds : RightNo → List Entry → Bool) (exchanges : List Exchange) (knots : List Knot) : Type 0 where
  pub counted : (y : Exchange) → In y exchanges → In y (counted_exchanges at folio)
  pub recede : (y : Exchange) → In y exchanges → holds y.recede (at (Right folio y.recede)) ≡ true
  pub rise : (y : Exchange) → In y exchanges → holds y.rise (at (Right folio y.rise)) ≡ true
  pub gone : (x : CreatedRight) → In x (rights_where holds at folio) → is_gone at folio x.id ≡ true → recedes exchanges x.id ≡ true
  pub exercised : (k : Knot) → In k knots → In k (counted_exercises at folio)
  pub reserved : (k : Knot) → In k knots → holds k.reserved (at (Right folio k.reserved)) ≡ true
  pub entered : (k : Knot) → In k knots → holds k.exercised (at (Right folio k.exercised)) ≡ true
  pub once : IsDistinct share_a_right knots

-- what all lemmas of a line presuppose
pub record StandsIn (journal : List Receipt) (at : Key → List Entry) (folio : ℕ) (holds : RightNo → List Entry → Bool) (exchanges : List Exchange) (knots : List Knot) : Type 0 where
  pub order : RightsInOrder journal at
  pub journal_is : IsJournal journal
  pub line : IsLine at folio holds exchanges knots

-- the places of the line
abbrev pub its_places : (RightNo → ℕ) → (RightNo → List Entry → Bool) → (Key → List Entry) → ℕ → List Place
its_places claims holds at folio = tested_places claims (is_gone at folio) holds at folio

-- ---- the places

-- both rights of an exchange stand alone
swap_alone : (claims : RightNo → ℕ) (journal : List Receipt) (at : Key → List Entry) (folio : ℕ) (holds : RightNo → List Entry → Bool) (exchanges : List Exchange) (knots : List Knot) (y : Exchange)
    → StandsIn journal at folio holds exchanges knots → In y exchanges → CanSwap (its_places claims holds at folio) (swap_of y)
swap_alone claims journal at folio holds exchanges knots y stands there =
    let counted = is_counted journal at folio y stands.order (stands.line.counted y there) in (
      untied_alone claims (is_gone at folio) holds journal at folio y.recede stands.order stands.journal_is counted.recede (stands.line.recede y there),
      untied_alone claims (is_gone at folio) holds journal at folio y.rise stands.order stands.journal_is counted.rise (stands.line.rise y there),
    )

-- the right of a dropped place stands alone
dropped_alone : (claims : RightNo → ℕ) (journal : List Receipt) (at : Key → List Entry) (folio : ℕ) (holds : RightNo → List Entry → Bool) (exchanges : List Exchange) (knots : List Knot) (x : CreatedRight)
    → StandsIn journal at folio holds exchanges knots → In x (rights_where holds at folio) → is_gone at folio x.id ≡ true → StandsAlone (its_places claims holds at folio) x.id
dropped_alone claims journal at folio holds exchanges knots x stands there gone =
    let from = of_any (λ (y : Exchange). same_right y.recede x.id) exchanges (stands.line.gone x there gone) in
    subst (StandsAlone (its_places claims holds at folio)) (right_is from.0.recede x.id from.2) (swap_alone claims journal at folio holds exchanges knots from.0 stands from.1).0

-- a line has no more places than there may be
pub few_places : (claims : RightNo → ℕ) (journal : List Receipt) (at : Key → List Entry) (folio : ℕ) (holds : RightNo → List Entry → Bool) → RightsInOrder journal at → IsJournal journal → length (its_places claims holds at folio) ≤ most_places
few_places claims journal at folio holds order journal_is =
    subst (λ n. n ≤ most_places) (sym (places_many claims (is_gone at folio) None (rights_where holds at folio))) (placed_few holds journal at folio order journal_is)

are_places : (claims : RightNo → ℕ) (journal : List Receipt) (at : Key → List Entry) (folio : ℕ) (holds : RightNo → List Entry → Bool) (exchanges : List Exchange) (knots : List Knot)
    → StandsIn journal at folio holds exchanges knots → ((x : CreatedRight) → In x (rights_where holds at folio) → 1 ≤ claims x.id) → sum_by (λ (p : Place). p.claim) (its_places claims holds at folio) < most_sum
    → ArePlaces (its_places claims holds at folio)
are_places claims journal at folio holds exchanges knots stands some sum =
    let gone = is_gone at folio in
    let rights = rights_where holds at folio in
    let places = its_places claims holds at folio in
    record {
      few = few_places claims journal at folio holds stands.order stands.journal_is;
      distinct = places_distinct claims gone None rights (placed_distinct holds at folio);
      first = first_joins_none claims gone rights;
      dropped = All-from_recursion (λ p. p.dropped ≡ true → StandsAlone places p.right) places
          (all_places (λ p. p.dropped ≡ true → StandsAlone places p.right) claims gone None rights (λ b x there. dropped_alone claims journal at folio holds exchanges knots x stands there));
      claims = All-from_recursion (λ p. 1 ≤ p.claim) places (all_places (λ p. 1 ≤ p.claim) claims gone None rights (λ b x there. some x there));
      sum = sum;
    }

-- ---- the knots

-- a right that is created is placed where the test holds of it
pub placed : (journal : List Receipt) (at : Key → List Entry) (folio : ℕ) (holds : RightNo → List Entry → Bool) (right : RightNo) (made : Created) → RightsInOrder journal at → IsJournal journal
    → created (at (Right folio right)) ≡ Some made → holds right (at (Right folio right)) ≡ true → In (the_right right made) (rights_where holds at folio)
placed journal at folio holds right made order journal_is is passes =
    is_placed holds journal at folio right made journal_is (is_in_ranges journal folio right made journal_is (is_created_here journal at folio right made order is)) is passes

none_set : {X : Type 0} (o : Option X) → o ≡ None → is_some o ≡ false
none_set o none = ap is_some none

-- an untied right has no reservation, and is in the rank of none
never_untied : (journal : List Receipt) (at : Key → List Entry) (folio : ℕ) (right : RightNo) (made : Created) → created (at (Right folio right)) ≡ Some made → is_ranked_apart made ≡ true → StandsUntied journal at folio right → ⊥
never_untied journal at folio right made is apart plain =
    let its : IsUntied journal right made = subst (λ o. IsSomeAnd o (IsUntied journal right)) is plain in
    both_ways (is_ranked_apart made) (λ i. none_set made.reserve its.no_reserve i || none_set made.ahead_of its.no_exercise i) apart

-- so a right with a reservation, or in the rank of one, is in no exchange
unswapped : (journal : List Receipt) (at : Key → List Entry) (folio : ℕ) (holds : RightNo → List Entry → Bool) (exchanges : List Exchange) (knots : List Knot) (right : RightNo) (made : Created)
    → StandsIn journal at folio holds exchanges knots → created (at (Right folio right)) ≡ Some made → is_ranked_apart made ≡ true → is_swapped (map swap_of exchanges) right ≡ false
unswapped journal at folio holds exchanges knots right made stands is apart =
    false_from_ne_true (is_swapped (map swap_of exchanges) right) (λ swapped.
    let from = of_any (λ (s : Swap). is_of_either s right) (map swap_of exchanges) swapped in
    let own = of_map swap_of exchanges from.0 from.1 in
    let counted = is_counted journal at folio own.0 stands.order (stands.line.counted own.0 own.1) in
    let either : is_of_either (swap_of own.0) right ≡ true = subst (λ (s : Swap). is_of_either s right ≡ true) (sym own.2) from.2 in
    let never = never_untied journal at folio right made is apart in
    ⊎_elim
    (λ same. never (subst (StandsUntied journal at folio) (right_is own.0.recede right same) counted.recede))
    (λ other. never (subst (StandsUntied journal at folio) (right_is own.0.rise right (sym (ap (λ b. b || same_right own.0.rise right) other) ∙ either)) counted.rise))
    (cases_Bool (same_right own.0.recede right)))

can_tie : (claims : RightNo → ℕ) (journal : List Receipt) (at : Key → List Entry) (folio : ℕ) (holds : RightNo → List Entry → Bool) (exchanges : List Exchange) (knots : List Knot) (right : RightNo) (made : Created)
    → StandsIn journal at folio holds exchanges knots → created (at (Right folio right)) ≡ Some made → is_ranked_apart made ≡ true → is_gone at folio right ≡ false → holds right (at (Right folio right)) ≡ true
    → CanTie (its_places claims holds at folio) (map swap_of exchanges) right
can_tie claims journal at folio holds exchanges knots right made stands is apart here passes =
    let lone = own_group journal folio right made stands.journal_is (is_created_here journal at folio right made stands.order is) apart in
    record {
      alone = lone_alone claims (is_gone at folio) holds journal at folio right made stands.order stands.journal_is lone is passes;
      kept = keeps_its_place claims (is_gone at folio) None (rights_where holds at folio) (the_right right made) (placed journal at folio holds right made stands.order stands.journal_is is passes) here;
      unswapped = unswapped journal at folio holds exchanges knots right made stands is apart;
    }

can_knot : (claims : RightNo → ℕ) (journal : List Receipt) (at : Key → List Entry) (folio : ℕ) (holds : RightNo → List Entry → Bool) (exchanges : List Exchange) (knots : List Knot) (k : Knot)
    → StandsIn journal at folio holds exchanges knots → In k knots → CanKnot (its_places claims holds at folio) (map swap_of exchanges) k
can_knot claims journal at folio holds exchanges knots k stands there =
    let tied = is_tied journal at folio k stands.order (stands.line.exercised k there) in
    let first = stands.line.reserved k there in
    let second = stands.line.entered k there in
    record {
      reserved = can_tie claims journal at folio holds exchanges knots k.reserved tied.reserving stands tied.reserved_is (or_left (is_some tied.reserving.reserve) (is_some tied.reserving.ahead_of) tied.has_reserve) (ap not tied.reserved_live) first;
      exercised = can_tie claims journal at folio holds exchanges knots k.exercised tied.behind stands tied.exercised_is (or_right (is_some tied.behind.reserve) (is_some tied.behind.ahead_of) tied.has_rank) (ap not tied.exercised_live) second;
      ahead = listed_ahead claims (is_gone at folio) None (rights_where holds at folio) (the_right k.reserved tied.reserving) (the_right k.exercised tied.behind) (placed_rights_ascend holds at folio)
          (placed journal at folio holds k.reserved tied.reserving stands.order stands.journal_is tied.reserved_is first) (placed journal at folio holds k.exercised tied.behind stands.order stands.journal_is tied.exercised_is second) tied.earlier;
    }

-- ---- together

-- what the line is filled with, place by place
abbrev pub its_filling : (RightNo → ℕ) → (Key → List Entry) → ℕ → (RightNo → List Entry → Bool) → List Exchange → List Knot → Filled
its_filling claims at folio holds exchanges knots = record { places = its_places claims holds at folio; swaps = map swap_of exchanges; knots = knots }

-- what the line is filled with is the same group by group
pub filling_is : (claims : RightNo → ℕ) (at : Key → List Entry) (folio : ℕ) (holds : RightNo → List Entry → Bool) (exchanges : List Exchange) (knots : List Knot)
    → its_filling claims at folio holds exchanges knots ≡ filled_by claims (is_gone at folio) (groups_where holds at folio) exchanges knots
filling_is claims at folio holds exchanges knots =
    ap (λ (ps : List Place). record { places = ps; swaps = map swap_of exchanges; knots = knots }) (line_written claims (is_gone at folio) holds at folio)

pub line_can_fill : (claims : RightNo → ℕ) (journal : List Receipt) (at : Key → List Entry) (folio : ℕ) (holds : RightNo → List Entry → Bool) (exchanges : List Exchange) (knots : List Knot)
    → StandsIn journal at folio holds exchanges knots → ((x : CreatedRight) → In x (rights_where holds at folio) → 1 ≤ claims x.id) → sum_by (λ (p : Place). p.claim) (its_places claims holds at folio) < most_sum
    → CanFill (its_filling claims at folio holds exchanges knots)
line_can_fill claims journal at folio holds exchanges knots stands some sum =
    let places = its_places claims holds at folio in
    record {
      places = are_places claims journal at folio holds exchanges knots stands some sum;
      swaps = All-map (CanSwap places) swap_of exchanges
          (All-from_recursion (λ y. CanSwap places (swap_of y)) exchanges (all_in (λ y. CanSwap places (swap_of y)) exchanges (λ y there. swap_alone claims journal at folio holds exchanges knots y stands there)));
      knots = All-from_recursion (CanKnot places (map swap_of exchanges)) knots (all_in (CanKnot places (map swap_of exchanges)) knots (λ k there. can_knot claims journal at folio holds exchanges knots k stands there));
      once = distinct_knotted knots
          (λ k there. let tied = is_tied journal at folio k stands.order (stands.line.exercised k there) in apart_kinds journal at folio k k stands.order tied tied) stands.line.once;
    }

-- a right of which the test holds, and that is not gone, keeps its place on the line
pub stands_on_it : (claims : RightNo → ℕ) (at : Key → List Entry) (folio : ℕ) (holds : RightNo → List Entry → Bool) (exchanges : List Exchange) (knots : List Knot) (x : CreatedRight)
    → In x (rights_where holds at folio) → is_gone at folio x.id ≡ false → keeps_place (filled_by claims (is_gone at folio) (groups_where holds at folio) exchanges knots).places x.id ≡ true
stands_on_it claims at folio holds exchanges knots x there here =
    subst (λ (f : Filled). keeps_place f.places x.id ≡ true) (filling_is claims at folio holds exchanges knots) (keeps_its_place claims (is_gone at folio) None (rights_where holds at folio) x there here)
