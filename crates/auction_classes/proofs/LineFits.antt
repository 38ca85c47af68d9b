-- What stands on the line of a folio is no more than the rights among which it is read, and the exchanges by which one of them rises.
use Rattle.std.proofs.Common.{◌≡◌, ℕ, zero, suc, ◌+◌, ◌<◌, ◌≤◌, Bool, true, false, cond, eqb, ◌&&◌, List, [], ◌∷◌, ◌++◌, filter, flat_map, length, refl, sym, ap, subst, arith}
use Rattle.std.specs.List.{range_with_len}
use Rattle.std.proofs.lemmas.Bool.Decides.{nat_tests}
use Rattle.std.proofs.lemmas.List.{length-append}
use Rattle.gb_base.specs.Limits.{most_acts}
use Rattle.gb_base.specs.RightNo.{RightNo}
use Rattle.gb_base.specs.declared.keys.Key.{Key}
use Rattle.folio_sections.specs.HeldRights.{last_number, receipt_numbers}
use Rattle.folio_sections.specs.declared.entries.Entry.{Entry}
use Rattle.folio_sections.proofs.ReceiptNumbers.{numbers_are}
use Rattle.folio_line.specs.AllRights.{AreAllRights}
use Rattle.folio_line.specs.Exchanges.{counted_at, counted_exchanges, counted_exercises, exercise_of, in_turn, is_by}
use Rattle.folio_line.specs.FolioLine.{IsLineOf, LineState, all_rises}
use Rattle.folio_line.specs.FolioRights.{is_live_with, live_by_act, live_rights, rights_of, rights_where}
use Rattle.folio_line.specs.FolioSlots.{stands_on_line}
use Rattle.folio_line.specs.declared.exchanges.Exchange.{Exchange}
use Rattle.folio_line.specs.inner.RightWalk.{right_found}
use Rattle.folio_line.specs.inner.Turns.{has_turn}
use Rattle.folio_line.proofs.GroupedRights.{all_by_group_few}
use Rattle.folio_line.proofs.LineRead.{in_turn_filtered}
use Rattle.folio_line.proofs.LineRoom.{exchanges_fit, given_few}
use Rattle.folio_line.proofs.RightWalks.{walk_is}
use Rattle.auction_classes.specs.inner.LinesRead.{HasLineRoom, HasRoomForAll, IsLineWithin}
use Rattle.auction_classes.specs.declared.class_lines.ClassLine.{ClassLine}

-- ---- rights

rights_few : (holds : RightNo → List Entry → Bool) (at : Key → List Entry) (folio : ℕ) (ids : List RightNo) → AreAllRights ids at folio → length (rights_where holds at folio) ≤ length ids
rights_few holds at folio ids all =
    let grouped = all_by_group_few (rights_of holds at folio) receipt_numbers in
    let walk = ap length (walk_is holds at folio ids all) in
    let few = given_few (right_found holds at folio) ids in
    omega (arith, grouped, walk, few)

exercises_few : (at : Key → List Entry) (folio : ℕ) (ids : List RightNo) → AreAllRights ids at folio → length (counted_exercises at folio) ≤ length ids
exercises_few at folio ids all =
    let given = given_few (exercise_of at folio) (live_by_act at folio) in
    let walk = ap length (walk_is is_live_with at folio ids all) in
    let few = given_few (right_found is_live_with at folio) ids in
    omega (arith, given, walk, few)

-- ---- exchanges in turn

-- the elements of each number from one on
abbrev numbered : {X : Type 0} → (X → ℕ) → List X → ℕ → ℕ → List X
numbered number xs from many = flat_map (λ n. filter (λ x. eqb (number x) n) xs) (range_with_len from many)

-- an element of an earlier number adds nothing
passed : {X : Type 0} (number : X → ℕ) (x : X) (xs : List X) (from many : ℕ) → number x < from → numbered number (x ∷ xs) from many ≡ numbered number xs from many
passed number x xs from zero below = refl
passed number x xs from (suc many) below =
    let other : eqb (number x) from ≡ false = grind (arith, nat_tests, below) in
    λ i. cond (other i) (x ∷ filter (λ y. eqb (number y) from) xs) (filter (λ y. eqb (number y) from) xs) ++ passed number x xs (from + 1) many (omega (arith, below)) i

-- each element adds at most one
one_more : {X : Type 0} (number : X → ℕ) (x : X) (xs : List X) (from many : ℕ) → length (numbered number (x ∷ xs) from many) ≤ 1 + length (numbered number xs from many)
one_more number x xs from zero = omega arith
one_more number x xs from (suc many) =
    let here = filter (λ y. eqb (number y) from) xs in
    let rest = numbered number xs (from + 1) many in
    let next = numbered number (x ∷ xs) (from + 1) many in
    elim (eqb (number x) from) as (λ b. eqb (number x) from ≡ b → length (cond b (x ∷ here) here ++ next) ≤ 1 + length (here ++ rest)) [
      | true ↦ λ is.
          let same = passed number x xs (from + 1) many (grind (arith, nat_tests, is)) in
          subst (λ ys. length (x ∷ here ++ ys) ≤ 1 + length (here ++ rest)) (sym same) (omega arith)
      | false ↦ λ _.
          let more = one_more number x xs (from + 1) many in
          rw (length-append here next, length-append here rest) (omega (arith, more))
    ] refl

numbered_few : {X : Type 0} (number : X → ℕ) (xs : List X) (from many : ℕ) → length (numbered number xs from many) ≤ length xs
numbered_few number [] from many = none from many
  where
    none : (n m : ℕ) → length (numbered number [] n m) ≤ 0
    none n zero = omega arith
    none n (suc m) = none (n + 1) m
numbered_few number (x ∷ xs) from many =
    let more = one_more number x xs from many in
    let few = numbered_few number xs from many in
    omega (arith, more, few)

-- a filter by two tests is a filter by the one and then by the other
both_filters : {X : Type 0} (p q : X → Bool) (xs : List X) → filter (λ x. p x && q x) xs ≡ filter q (filter p xs)
both_filters p q [] = refl
both_filters p q (x ∷ xs) =
    let rest = both_filters p q xs in
    elim (p x) as (λ b. cond (b && q x) (x ∷ filter (λ y. p y && q y) xs) (filter (λ y. p y && q y) xs) ≡ filter q (cond b (x ∷ filter p xs) (filter p xs))) [
      | true ↦ ap (λ ys. cond (q x) (x ∷ ys) ys) rest
      | false ↦ rest
    ]

-- where each element gives no more by one function than by another, all give no more
all_few : {X Y : Type 0} (f g : X → List Y) (xs : List X) → ((x : X) → length (f x) ≤ length (g x)) → length (flat_map f xs) ≤ length (flat_map g xs)
all_few f g [] few = omega arith
all_few f g (x ∷ xs) few =
    let here = few x in
    let rest = all_few f g xs few in
    rw (length-append (f x) (flat_map f xs), length-append (g x) (flat_map g xs)) (omega (arith, here, rest))

-- the exchanges by receipt n, by act
acts_few : (xs : List Exchange) (n : ℕ) → length (flat_map (λ a. filter (is_by n a) xs) (range_with_len 1 most_acts)) ≤ length (filter (λ (x : Exchange). eqb x.item n) xs)
acts_few xs n =
    let own = filter (λ (x : Exchange). eqb x.item n) xs in
    let same = λ (a : ℕ). both_filters (λ (x : Exchange). eqb x.item n) (λ (x : Exchange). eqb x.act a) xs in
    subst (λ ys. length ys ≤ length own) (λ i. flat_map (λ a. sym (same a) i) (range_with_len 1 most_acts)) (numbered_few (λ (x : Exchange). x.act) own 1 most_acts)

row_few : (xs : List Exchange) (n : ℕ) (ms : List ℕ) → ms ≡ range_with_len 1 n
    → length (flat_map (λ m. flat_map (λ a. filter (is_by m a) xs) (range_with_len 1 most_acts)) ms) ≤ length xs
row_few xs n ms is =
    let acts = all_few (λ m. flat_map (λ a. filter (is_by m a) xs) (range_with_len 1 most_acts)) (λ m. filter (λ (x : Exchange). eqb x.item m) xs) ms (acts_few xs) in
    let few : length (flat_map (λ m. filter (λ (x : Exchange). eqb x.item m) xs) ms) ≤ length xs =
    subst (λ ks. length (flat_map (λ m. filter (λ (x : Exchange). eqb x.item m) xs) ks) ≤ length xs) (sym is) (numbered_few (λ (x : Exchange). x.item) xs 1 n) in
    omega (arith, acts, few)

in_turn_few : (xs : List Exchange) → length (in_turn xs) ≤ length xs
in_turn_few xs = row_few xs last_number receipt_numbers numbers_are

exchanges_few : (at : Key → List Entry) (folio : ℕ) (ids : List RightNo) → AreAllRights ids at folio → length (counted_exchanges at folio) ≤ length (all_rises at folio ids)
exchanges_few at folio ids all =
    let counted = flat_map (counted_at at folio) (live_rights at folio) in
    let same = ap length (in_turn_filtered counted) in
    let few = in_turn_few (filter has_turn counted) in
    let fit = exchanges_fit at folio ids all in
    omega (arith, same, few, fit)

-- ---- together

-- the folio's line has no more rights than those among which it is read, and no more exchanges than those by which they rise
pub line_within : (at : Key → List Entry) (folio : ℕ) (ids : List RightNo) (line : LineState) (rights exchanges : ℕ) → AreAllRights ids at folio → IsLineOf at folio line
    → length ids ≤ rights → length (all_rises at folio ids) ≤ exchanges → IsLineWithin rights exchanges line
line_within at folio ids line rights exchanges all is few rises =
    let on_line = rights_few (stands_on_line (counted_exchanges at folio)) at folio ids all in
    let exchanged = exchanges_few at folio ids all in
    let exercised = exercises_few at folio ids all in
    let right_count = ap length is.rights in
    let swap_count = ap length is.exchanges in
    let exercise_count = ap length is.exercises in
    record {
      placed = omega (arith, on_line, right_count, few);
      swapped = omega (arith, exchanged, swap_count, rises);
      tied = omega (arith, exercised, exercise_count, few);
    }

-- so a class's line that has room for these has room for all that stands on the folio's line
pub line_fits : (line : LineState) (rights exchanges : ℕ) (own : ClassLine) → IsLineWithin rights exchanges line → HasLineRoom rights exchanges own → HasRoomForAll line own
line_fits line rights exchanges own within room = record {
  places = omega (arith, within.placed, room.places);
  swaps = omega (arith, within.swapped, room.swaps);
  knots = omega (arith, within.tied, room.knots);
}

-- there are no more live rights than rights among which the line is read
pub live_few : (at : Key → List Entry) (folio : ℕ) (ids : List RightNo) (line : LineState) → AreAllRights ids at folio → IsLineOf at folio line → length line.live ≤ length ids
live_few at folio ids line all is =
    let few = rights_few is_live_with at folio ids all in
    let count = ap length is.live in
    omega (arith, few, count)
