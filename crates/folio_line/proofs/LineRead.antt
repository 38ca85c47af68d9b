-- The lists that are written of all rights of a folio are its line.
use Rattle.std.proofs.Common.{◌≡◌, ℕ, Bool, true, ◌+◌, ◌<◌, ◌≤◌, List, [], filter, filter_map, flat_map, length, Option, ap, ◌∙◌, arith}
use Rattle.std.specs.List.{AllByRecursion, range_with_len}
use Rattle.std.proofs.lemmas.Bool.Decides.{nat_tests}
use Rattle.gb_base.specs.Limits.{most_acts}
use Rattle.gb_base.specs.RightNo.{RightNo}
use Rattle.gb_base.specs.declared.keys.Key.{Key}
use Rattle.gb_base.proofs.Members.{of_range}
use Rattle.folio_sections.specs.HeldRights.{last_number, receipt_numbers}
use Rattle.folio_sections.specs.declared.entries.Entry.{Entry}
use Rattle.folio_sections.proofs.FilteredLists.{all_in, flat_map_alike, of_filter}
use Rattle.folio_sections.proofs.ReceiptNumbers.{of_receipt_numbers}
use Rattle.rank_slots.specs.declared.places.Knot.{Knot}
use Rattle.folio_line.specs.AllRights.{AreAllRights}
use Rattle.folio_line.specs.Exchanges.{counted_at, counted_exchanges, counted_exercises, exercise_of, in_turn, is_by}
use Rattle.folio_line.specs.FolioLine.{all_rises}
use Rattle.folio_line.specs.FolioRights.{by_group, is_live_with, live_rights, rights_of, rights_where}
use Rattle.folio_line.specs.FolioSlots.{stands_on_line}
use Rattle.folio_line.specs.declared.exchanges.Exchange.{Exchange}
use Rattle.folio_line.specs.declared.folio_rights.CreatedRight.{CreatedRight}
use Rattle.folio_line.specs.inner.FilingRuns.{AreOfFilings}
use Rattle.folio_line.specs.inner.RightWalk.{right_found}
use Rattle.folio_line.specs.inner.Turns.{has_turn}
use Rattle.folio_line.proofs.FilingRuns.{placed_of_filings}
use Rattle.folio_line.proofs.LineRoom.{exchanges_fit, given_few}
use Rattle.folio_line.proofs.LiveRights.{none_recedes}
use Rattle.folio_line.proofs.RightWalks.{walk_is}
use Rattle.folio_line.proofs.Turns.{both_tests}

-- ---- exchanges

pub have_turns : (xs : List Exchange) → AllByRecursion (λ x. has_turn x ≡ true) (filter has_turn xs)
have_turns xs = all_in (λ x. has_turn x ≡ true) (filter has_turn xs) (λ x there. (of_filter has_turn xs x there).1)

has_its_turn : (n a : ℕ) (x : Exchange) → (1 ≤ n) × (n ≤ last_number) → (1 ≤ a) × (a ≤ most_acts) → is_by n a x ≡ true → has_turn x ≡ true
has_its_turn n a x receipt act is = grind (arith, nat_tests, receipt.0, receipt.1, act.0, act.1, is)

-- an exchange without a turn has no place among those in turn
pub in_turn_filtered : (xs : List Exchange) → in_turn (filter has_turn xs) ≡ in_turn xs
in_turn_filtered xs =
    flat_map_alike (λ n. flat_map (λ a. filter (is_by n a) (filter has_turn xs)) (range_with_len 1 most_acts)) (λ n. flat_map (λ a. filter (is_by n a) xs) (range_with_len 1 most_acts)) receipt_numbers
    (all_in (λ n. flat_map (λ a. filter (is_by n a) (filter has_turn xs)) (range_with_len 1 most_acts) ≡ flat_map (λ a. filter (is_by n a) xs) (range_with_len 1 most_acts)) receipt_numbers
    (λ n there.
    flat_map_alike (λ a. filter (is_by n a) (filter has_turn xs)) (λ a. filter (is_by n a) xs) (range_with_len 1 most_acts)
    (all_in (λ a. filter (is_by n a) (filter has_turn xs) ≡ filter (is_by n a) xs) (range_with_len 1 most_acts)
    (λ a here. both_tests (is_by n a) has_turn xs (λ x is. has_its_turn n a x (of_receipt_numbers n there) (act_in a (of_range 1 most_acts a here)) is)))))
  where
    act_in : (a : ℕ) → (1 ≤ a) × (a < 1 + most_acts) → (1 ≤ a) × (a ≤ most_acts)
    act_in a within = (within.0, omega (arith, within.1))

-- ---- rights

-- what a walk over all rights wrote, put by group
pub written : (holds : RightNo → List Entry → Bool) (at : Key → List Entry) (folio : ℕ) (ids : List RightNo) (by_act rights : List CreatedRight) → AreAllRights ids at folio
    → by_act ≡ filter_map (right_found holds at folio) ids
    → ((f : ℕ → List CreatedRight) → AreOfFilings f → by_act ≡ flat_map f receipt_numbers → rights ≡ flat_map (λ m. by_group (f m)) receipt_numbers)
    → rights ≡ rights_where holds at folio
written holds at folio ids by_act rights all is grouped = grouped (rights_of holds at folio) (placed_of_filings holds at folio) (is ∙ walk_is holds at folio ids all)

-- where there is no exchange, those on the line are the live ones
pub live_walk : (at : Key → List Entry) (folio : ℕ) (ids : List RightNo) (by_act : List CreatedRight) → by_act ≡ filter_map (right_found (stands_on_line []) at folio) ids
    → by_act ≡ filter_map (right_found is_live_with at folio) ids
live_walk at folio ids by_act is = is ∙ ap (λ holds. filter_map (right_found holds at folio) ids) none_recedes

pub live_written : (at : Key → List Entry) (folio : ℕ) (ids : List RightNo) (by_act live : List CreatedRight) → AreAllRights ids at folio → by_act ≡ filter_map (right_found (stands_on_line []) at folio) ids
    → ((f : ℕ → List CreatedRight) → AreOfFilings f → by_act ≡ flat_map f receipt_numbers → live ≡ flat_map (λ m. by_group (f m)) receipt_numbers)
    → live ≡ live_rights at folio
live_written at folio ids by_act live all is grouped = written is_live_with at folio ids by_act live all (live_walk at folio ids by_act is) grouped

-- ---- what else is written

pub exercises_written : (at : Key → List Entry) (folio : ℕ) (ids : List RightNo) (by_act : List CreatedRight) (exercises : List Knot) → AreAllRights ids at folio
    → by_act ≡ filter_map (right_found (stands_on_line []) at folio) ids → exercises ≡ filter_map (exercise_of at folio) by_act → exercises ≡ counted_exercises at folio
exercises_written at folio ids by_act exercises all is wrote =
    wrote ∙ ap (filter_map (exercise_of at folio)) (live_walk at folio ids by_act is ∙ walk_is is_live_with at folio ids all)

pub exchanges_written : (at : Key → List Entry) (folio : ℕ) (live : List CreatedRight) (counted exchanges : List Exchange) → live ≡ live_rights at folio
    → counted ≡ filter has_turn (flat_map (counted_at at folio) live) → exchanges ≡ in_turn counted → exchanges ≡ counted_exchanges at folio
exchanges_written at folio live counted exchanges is wrote turned =
    turned ∙ ap in_turn (wrote ∙ ap (λ xs. filter has_turn (flat_map (counted_at at folio) xs)) is) ∙ in_turn_filtered (flat_map (counted_at at folio) (live_rights at folio))

-- ---- and there is room

pub ids_fit : (ids : List RightNo) (asked room capacity : ℕ) → length ids ≤ asked → room ≡ asked → room ≤ capacity → length ids ≤ capacity
ids_fit ids asked room capacity few same within = omega arith

pub rights_fit : (find : RightNo → Option CreatedRight) (ids : List RightNo) (by_act : List CreatedRight) (asked room capacity : ℕ) → by_act ≡ filter_map find ids → length ids ≤ asked → room ≡ asked → room ≤ capacity
    → length by_act ≤ capacity
rights_fit find ids by_act asked room capacity is few same within =
    let found = given_few find ids in
    let count = ap length is in
    omega (arith, found, count, few, same, within)

pub counted_fit : (at : Key → List Entry) (folio : ℕ) (ids : List RightNo) (live : List CreatedRight) (asked room capacity : ℕ) → AreAllRights ids at folio → live ≡ live_rights at folio
    → length (all_rises at folio ids) ≤ asked → room ≡ asked → room ≤ capacity → length (filter has_turn (flat_map (counted_at at folio) live)) ≤ capacity
counted_fit at folio ids live asked room capacity all is few same within =
    let fit = exchanges_fit at folio ids all in
    let count = ap (λ xs. length (filter has_turn (flat_map (counted_at at folio) xs))) is in
    omega (arith, fit, count, few, same, within)
