-- Marked folios that leave their places in a row, and come back to them.
use Rattle.std.proofs.Common.{take, drop, ◌++◌, ◌≡◌, ⊎_elim, ℕ, zero, suc, ◌+◌, ◌<◌, ◌≤◌, List, [], ◌∷◌, Option, Some, None, filter_map, length, map, option_map, set, slice_get, refl, sym, ap, subst, ◌∙◌, arith}
use Rattle.std.proofs.lemmas.Bool.{cases_eq}
use Rattle.std.proofs.lemmas.Bool.Decides.{nat_tests}
use Rattle.std.proofs.lemmas.List.{length-set}
use Rattle.desk_pool.specs.declared.folio_queues.FolioQueue.{FolioQueue}
use Rattle.desk_pool.specs.declared.marked_folios.MarkedFolio.{MarkedFolio}
use Rattle.desk_pool.specs.inner.FolioMarks.{FolioMark, count_here}
use Rattle.desk_pool.specs.inner.FoliosInRow.{AreInPlaces, AreInRow, AreSomeInRow, mark_of}
use Rattle.desk_pool.proofs.Saying.{same_inside, written_apart, written_there}

-- ---- places

abbrev pub tail : {X : Type 0} → List X → List X
tail [] = []
tail (x ∷ xs) = xs

-- a place where something is found is within the list
pub found_within : {X : Type 0} (xs : List X) (i : ℕ) (x : X) → slice_get xs i ≡ Some x → i < length xs
found_within [] i x there = absurd (grind (arith, there))
found_within (y ∷ ys) zero x there = omega arith
found_within (y ∷ ys) (suc i) x there = let rest = found_within ys i x there in omega (arith, rest)

below_apart : (i count : ℕ) → i < count + 1 → (i ≡ count → ⊥) → i < count
below_apart i count below apart = grind (arith, nat_tests, below, apart)

pub none_is_some : {X : Type 0} (x : X) → None ≡ Some x → ⊥
none_is_some x same = absurd (grind (arith, same))

-- where nothing stands at a place, putting one there makes one more
count_put : {X : Type 0} (xs : List (Option X)) (i : ℕ) (x : X) → slice_get xs i ≡ Some None → count_here (set xs i (Some x)) ≡ count_here xs + 1
count_put [] i x none = absurd (grind (arith, none))
count_put (None ∷ xs) zero x none = refl
count_put (Some y ∷ xs) zero x none = absurd (none_is_some y (same_inside None (Some y) (sym none)))
count_put (None ∷ xs) (suc i) x none = count_put xs i x none
count_put (Some y ∷ xs) (suc i) x none = ap (λ n. n + 1) (count_put xs i x none)

few_here : {X : Type 0} (xs : List (Option X)) → count_here xs ≤ length xs
few_here [] = omega arith
few_here (None ∷ xs) = let rest = few_here xs in omega (arith, rest)
few_here (Some x ∷ xs) = let rest = few_here xs in omega (arith, rest)

-- where nothing stands at any place, the count is 0
pub none_here : {X : Type 0} (xs : List (Option X)) → ((i : ℕ) → i < length xs → slice_get xs i ≡ Some None) → count_here xs ≡ 0
none_here [] away = refl
none_here (None ∷ xs) away = none_here xs (λ i within. away (suc i) (omega (arith, within)))
none_here (Some x ∷ xs) away = absurd (none_is_some x (same_inside None (Some x) (sym (away 0 (omega arith)))))

-- ---- a row

pub row_length : {N : Type 0} (row : List FolioMark) (places : List (Option (MarkedFolio N))) → AreInRow row places → length places ≡ length row
row_length [] [] are = refl
row_length [] (p ∷ ps) are = absurd (grind (arith, are))
row_length (r ∷ rs) [] are = absurd (grind (arith, are))
row_length (r ∷ rs) (p ∷ ps) are = ap suc (row_length rs ps (ap tail are))

-- at each place of a full row stands a marked folio, which is as the row says
pub in_row_at : {N : Type 0} (row : List FolioMark) (places : List (Option (MarkedFolio N))) (i : ℕ) → AreInRow row places → i < length places
    → (m : MarkedFolio N) × (slice_get places i ≡ Some (Some m)) × (slice_get row i ≡ Some (mark_of m))
in_row_at row [] i are within = absurd (omega (arith, within))
in_row_at [] (p ∷ ps) i are within = absurd (grind (arith, are))
in_row_at (r ∷ rs) (None ∷ ps) i are within = absurd (none_is_some r (same_inside None (Some r) (ap (λ xs. slice_get xs 0) are)))
in_row_at (r ∷ rs) (Some m ∷ ps) zero are within =
    (m, refl, sym (same_inside (Some (mark_of m)) (Some r) (ap (λ xs. slice_get xs 0) are)))
in_row_at (r ∷ rs) (Some m ∷ ps) (suc i) are within = in_row_at rs ps i (ap tail are) (omega (arith, within))

-- one folio more is put back at its place, where none stands yet
pub put_in_row : {N : Type 0} (row : List FolioMark) (places : List (Option (MarkedFolio N))) (i n : ℕ) (m : MarkedFolio N)
    → slice_get places i ≡ Some None → slice_get row i ≡ Some (mark_of m) → AreSomeInRow row places n → AreSomeInRow row (set places i (Some m)) (n + 1)
put_in_row row places i n m none here are =
    record {
      placed = λ j other there.
          ⊎_elim
          (λ same.
          let own : Some m ≡ Some other = same_inside (Some m) (Some other) (sym (written_there places i (Some m) (found_within places i None none)) ∙ ap (slice_get (set places i (Some m))) (sym same) ∙ there) in
          ap (slice_get row) same ∙ here ∙ ap (λ f. Some (mark_of f)) (same_inside m other own))
          (λ apart. are.placed j other (sym (written_apart places i j (Some m) apart) ∙ there))
          (cases_eq j i);
      many = count_put places i m none ∙ ap (λ k. k + 1) are.many;
      places_are = length-set places i (Some m) ∙ are.places_are;
    }

-- two folios of the same place have the same mark
pub same_mark : {N : Type 0} (row : List FolioMark) (places : List (Option (MarkedFolio N))) (i n : ℕ) (m other : MarkedFolio N)
    → slice_get places i ≡ Some (Some other) → slice_get row i ≡ Some (mark_of m) → AreSomeInRow row places n → m.mark.token.name ≡ other.mark.token.name
same_mark row places i n m other there here are = ap (λ (a : FolioMark). a.mark) (same_inside (mark_of m) (mark_of other) (sym here ∙ are.placed i other there))

-- where all folios are back, each stands at its place
pub all_in_row : {N : Type 0} (row : List FolioMark) (places : List (Option (MarkedFolio N))) → AreSomeInRow row places (length row) → AreInRow row places
all_in_row [] [] are = refl
all_in_row [] (p ∷ ps) are = absurd (let count = are.places_are in omega (arith, count))
all_in_row (r ∷ rs) [] are = absurd (let count = are.places_are in omega (arith, count))
all_in_row (r ∷ rs) (None ∷ ps) are =
    let count = are.places_are in
    let many = are.many in
    let few = few_here ps in
    absurd (omega (arith, count, many, few))
all_in_row (r ∷ rs) (Some m ∷ ps) are =
    let count = are.places_are in
    let many = are.many in
    let rest : AreSomeInRow rs ps (length rs) = record { placed = λ i f there. are.placed (suc i) f there; many = omega (arith, many); places_are = omega (arith, count) } in
    λ j. Some (same_inside (mark_of m) r (sym (are.placed 0 m refl)) j) ∷ all_in_row rs ps rest j

-- The folios leave their places one after the other: the first so many are away, and the others stand where they stood.
pub record AreLeaving {N : Type 0} (before now : List (Option (MarkedFolio N))) (count : ℕ) : Type 0 where
  pub away : (i : ℕ) → i < count → slice_get now i ≡ Some None
  pub stay : (i : ℕ) → count ≤ i → slice_get now i ≡ slice_get before i
  pub places_are : length now ≡ length before

pub none_leaves : {N : Type 0} (places : List (Option (MarkedFolio N))) → AreLeaving places places 0
none_leaves places = record { away = λ i below. absurd (omega (arith, below)); stay = λ i above. refl; places_are = refl }

pub one_leaves : {N : Type 0} (before now : List (Option (MarkedFolio N))) (count : ℕ) (left : Option (MarkedFolio N)) → left ≡ None → count < length now → AreLeaving before now count
    → AreLeaving before (set now count left) (count + 1)
one_leaves before now count left none within are =
    subst (λ o. AreLeaving before (set now count o) (count + 1)) (sym none)
    (record {
      away = λ i below.
          ⊎_elim
          (λ same. ap (slice_get (set now count None)) same ∙ written_there now count None within)
          (λ apart. written_apart now count i None apart ∙ are.away i (below_apart i count below apart))
          (cases_eq i count);
      stay = λ i above. written_apart now count i None (λ same. absurd (omega (arith, above, same))) ∙ are.stay i (omega (arith, above));
      places_are = length-set now count None ∙ are.places_are;
    })

-- a folio that is taken from its place is the one that the row says
pub taken_in_row : {N : Type 0} (row : List FolioMark) (before now : List (Option (MarkedFolio N))) (i : ℕ) (m : MarkedFolio N) → AreInRow row before → AreLeaving before now i → i < length before
    → slice_get now i ≡ Some (Some m) → slice_get row i ≡ Some (mark_of m)
taken_in_row row before now i m are leaving within there =
    let found = in_row_at row before i are within in
    let same : Some found.0 ≡ Some m = same_inside (Some found.0) (Some m) (sym found.1 ∙ sym (leaving.stay i (omega arith)) ∙ there) in
    found.2 ∙ ap (λ f. Some (mark_of f)) (same_inside found.0 m same)

-- a folio whose turn it is to leave cannot be away already
pub still_there : {N : Type 0} (row : List FolioMark) (before now : List (Option (MarkedFolio N))) (i : ℕ) (o : Option (MarkedFolio N)) → AreInRow row before → AreLeaving before now i → i < length before
    → slice_get now i ≡ Some o → ((m : MarkedFolio N) → o ≡ Some m → ⊥) → ⊥
still_there row before now i o are leaving within there none =
    let found = in_row_at row before i are within in
    none found.0 (same_inside o (Some found.0) (sym there ∙ leaving.stay i (omega arith) ∙ found.1))

-- once all have left, none stands at its place
pub all_left : {N : Type 0} (row : List FolioMark) (before now : List (Option (MarkedFolio N))) (count : ℕ) → AreInRow row before → length before ≤ count → AreLeaving before now count → AreSomeInRow row now 0
all_left row before now count are whole leaving =
    record {
      placed = λ i m there. absurd (none_is_some m (same_inside None (Some m) (sym (leaving.away i (let within = found_within now i (Some m) there in let same = leaving.places_are in omega (arith, within, same, whole))) ∙ there)));
      many = none_here now (λ i within. leaving.away i (let same = leaving.places_are in omega (arith, within, same, whole)));
      places_are = leaving.places_are ∙ row_length row before are;
    }

-- the marks of folios that stand at their places are a row in which they stand
pub row_of_places : {N : Type 0} (queues : List FolioQueue) (places : List (Option (MarkedFolio N))) → AreInPlaces queues places → AreInRow (filter_map (option_map mark_of) places) places
row_of_places [] [] are = refl
row_of_places [] (p ∷ ps) are = absurd (grind (arith, are))
row_of_places (q ∷ qs) [] are = absurd (grind (arith, are))
row_of_places (q ∷ qs) (None ∷ ps) are = absurd (none_is_some q.folio (same_inside None (Some q.folio) (ap (λ xs. slice_get xs 0) are)))
row_of_places (q ∷ qs) (Some m ∷ ps) are = λ j. Some (mark_of m) ∷ row_of_places qs ps (ap tail are) j

folios_of_row : {N : Type 0} (places : List (Option (MarkedFolio N))) → map (option_map (λ m. m.folio.folio)) places ≡ map (option_map (λ (a : FolioMark). a.folio)) (map (option_map mark_of) places)
folios_of_row [] = refl
folios_of_row (None ∷ ps) = λ j. None ∷ folios_of_row ps j
folios_of_row (Some m ∷ ps) = λ j. Some m.folio.folio ∷ folios_of_row ps j

-- folios that are back in their row stand at the places of their queues again
pub places_kept : {N : Type 0} (row : List FolioMark) (queues : List FolioQueue) (before now : List (Option (MarkedFolio N))) → AreInRow row before → AreInRow row now → AreInPlaces queues before → AreInPlaces queues now
places_kept row queues before now one other are =
    folios_of_row now ∙ ap (map (option_map (λ (a : FolioMark). a.folio))) (other ∙ sym one) ∙ sym (folios_of_row before) ∙ are

take_front : {X : Type 0} (xs ys : List X) → take (length xs) (xs ++ ys) ≡ xs
take_front [] ys = refl
take_front (x ∷ xs) ys = ap (λ zs. x ∷ zs) (take_front xs ys)

-- folios that are back stand at the places of their queues, too, where the places were lent as the front of a longer list
pub places_lent : {N : Type 0} (row : List FolioMark) (queues : List FolioQueue) (before now lent : List (Option (MarkedFolio N))) (count : ℕ) → lent ≡ before → AreInRow row lent → AreInRow row now → count ≡ length before
    → AreInPlaces queues before → AreInPlaces queues (take count (now ++ drop (length now) before))
places_lent row queues before now lent count same one other whole are =
    let was : AreInRow row before = subst (AreInRow row) same one in
    let long : count ≡ length now = whole ∙ row_length row before was ∙ sym (row_length row now other) in
    subst (AreInPlaces queues) (sym (ap (λ n. take n (now ++ drop (length now) before)) long ∙ take_front now (drop (length now) before))) (places_kept row queues before now was other are)
