-- The parts of the folios are taken from their places, in the order of their queues.
use Rattle.std.proofs.Common.{◌≡◌, ◌⊎◌, ⊎_elim, ℕ, zero, suc, ◌+◌, ◌<◌, Bool, true, List, [], ◌∷◌, ◌++◌, IsTrue, Option, Some, None, get_or, length, set, slice_get, inl, inr, refl, sym, ap, subst, ◌∙◌, arith}
use Rattle.std.proofs.lemmas.List.{length-append}
use Rattle.std.proofs.lemmas.Option.{slice_get-get_or}
use Rattle.act_model.specs.declared.receipts.Receipt.{Receipt}
use Rattle.folio_sections.specs.PartState.{PartState}
use Rattle.desk_pool.specs.FolioQueues.{AreQueues, queue_of}
use Rattle.desk_pool.specs.declared.folio_queues.FolioQueue.{FolioQueue}
use Rattle.desk_pool.specs.declared.marked_folios.MarkedFolio.{MarkedFolio}
use Rattle.desk_pool.specs.inner.FoliosBack.{AreFolioParts, AreSettled, StandsSettled}
use Rattle.desk_pool.specs.inner.FoliosInRow.{AreInPlaces}
use Rattle.desk_pool.proofs.FoliosInRow.{AreLeaving, found_within, none_is_some, none_leaves, one_leaves, tail}
use Rattle.desk_pool.proofs.Saying.{same_inside}

-- ---- places

-- at the place of a queue stands the folio of the queue
in_place : {N : Type 0} (queues : List FolioQueue) (places : List (Option (MarkedFolio N))) (i : ℕ) → AreInPlaces queues places → i < length queues
    → (m : MarkedFolio N) × (q : FolioQueue) × (slice_get places i ≡ Some (Some m)) × (slice_get queues i ≡ Some q) × (m.folio.folio ≡ q.folio)
in_place [] places i are within = absurd (omega (arith, within))
in_place (q ∷ qs) [] i are within = absurd (grind (arith, are))
in_place (q ∷ qs) (None ∷ ps) i are within = absurd (none_is_some q.folio (same_inside None (Some q.folio) (ap (λ xs. slice_get xs 0) are)))
in_place (q ∷ qs) (Some m ∷ ps) zero are within =
    (m, q, refl, refl, same_inside m.folio.folio q.folio (same_inside (Some m.folio.folio) (Some q.folio) (ap (λ xs. slice_get xs 0) are)))
in_place (q ∷ qs) (Some m ∷ ps) (suc i) are within = in_place qs ps i (ap tail are) (omega (arith, within))

pub places_length : {N : Type 0} (queues : List FolioQueue) (places : List (Option (MarkedFolio N))) → AreInPlaces queues places → length places ≡ length queues
places_length [] [] are = refl
places_length [] (p ∷ ps) are = absurd (grind (arith, are))
places_length (q ∷ qs) [] are = absurd (grind (arith, are))
places_length (q ∷ qs) (p ∷ ps) are = ap suc (places_length qs ps (ap tail are))

-- what is found in a list with one element pushed stood there before, or is the one that was pushed
found_behind : {X : Type 0} (xs : List X) (x : X) (i : ℕ) (y : X) → slice_get (xs ++ x ∷ []) i ≡ Some y → (slice_get xs i ≡ Some y) ⊎ ((i ≡ length xs) × (x ≡ y))
found_behind [] x zero y there = inr (refl, same_inside x y there)
found_behind [] x (suc i) y there = absurd (grind (arith, there))
found_behind (z ∷ zs) x zero y there = inl there
found_behind (z ∷ zs) x (suc i) y there = ⊎_elim (λ earlier. inl earlier) (λ own. inr (ap suc own.0, own.1)) (found_behind zs x i y there)

-- ---- so many folios

-- The parts of the first so many folios are taken.
pub record AreParts {N : Type 0} (journal : List Receipt) (queues : List FolioQueue) (before now : List (Option (MarkedFolio N))) (back : List (List PartState)) (settled : Bool) (i : ℕ) : Type 0 where
  pub leaving : AreLeaving before now i
  pub count : length back ≡ i
  pub parts_are : (place : ℕ) (queue : FolioQueue) (parts : List PartState) → slice_get queues place ≡ Some queue → slice_get back place ≡ Some parts → AreFolioParts journal queue.folio parts
  pub settled_are : IsTrue settled → AreSettled journal back

pub no_parts : {N : Type 0} (journal : List Receipt) (queues : List FolioQueue) (places : List (Option (MarkedFolio N))) (back : List (List PartState)) → back ≡ [] → AreParts journal queues places places back true 0
no_parts journal queues places back none = record {
  leaving = none_leaves places;
  count = ap length none;
  parts_are = λ place queue parts queued there. absurd (let within = found_within back place parts there in let count = ap length none in omega (arith, within, count));
  settled_are = λ _ j d within. absurd (let count = ap length none in omega (arith, within, count));
}

-- a folio whose turn it is to be taken cannot be away already
pub still_in_place : {N : Type 0} (queues : List FolioQueue) (before now : List (Option (MarkedFolio N))) (i : ℕ) (o : Option (MarkedFolio N)) → AreInPlaces queues before → AreLeaving before now i → i < length queues
    → slice_get now i ≡ Some o → ((m : MarkedFolio N) → o ≡ Some m → ⊥) → ⊥
still_in_place queues before now i o are leaving within there none =
    let found = in_place queues before i are within in
    none found.0 (same_inside o (Some found.0) (sym there ∙ leaving.stay i (omega arith) ∙ found.2))

-- the parts of one folio more are taken
pub one_more_parts : {N : Type 0} (journal : List Receipt) (queues : List FolioQueue) (before now : List (Option (MarkedFolio N))) (back left : List (List PartState)) (settled done all : Bool) (i : ℕ)
    (m : MarkedFolio N) (queue : FolioQueue) (items : List ℕ) (away : Option (MarkedFolio N)) (parts : List PartState)
    → AreQueues journal queues → AreInPlaces queues before → i < length queues → queue ≡ get_or queues i queue → items ≡ queue.items.items → slice_get now i ≡ Some (Some m) → away ≡ None
    → (IsTrue done → items ≡ queue_of journal m.folio.folio → StandsSettled journal m.folio.parts) → parts ≡ m.folio.parts → AreFolioParts journal m.folio.folio parts → left ≡ back ++ parts ∷ []
    → (IsTrue all → IsTrue done × IsTrue settled) → AreParts journal queues before now back settled i → AreParts journal queues before (set now i away) left all (i + 1)
one_more_parts journal queues before now back left settled done all i m queue items away parts are in_places within is listed there none whole moved own pushed both so_far =
    let found = in_place queues before i in_places within in
    let same_folio : m.folio.folio ≡ found.1.folio =
    sym (ap (λ f. f.folio.folio) (same_inside found.0 m (same_inside (Some found.0) (Some m) (sym found.2 ∙ sym (so_far.leaving.stay i (omega arith)) ∙ there)))) ∙ found.4 in
    let queue_is : queue ≡ found.1 = same_inside queue found.1 (ap Some is ∙ sym (slice_get-get_or queues i queue within) ∙ found.3) in
    let folio_is : m.folio.folio ≡ queue.folio = same_folio ∙ ap (λ q. q.folio) (sym queue_is) in
    let items_are : items ≡ queue_of journal m.folio.folio =
    listed ∙ subst (λ (q : FolioQueue). q.items.items ≡ queue_of journal q.folio) (sym is) (are i queue within) ∙ ap (queue_of journal) (sym folio_is) in
    record {
      leaving = one_leaves before now i away none (found_within now i (Some m) there) so_far.leaving;
      count = let count = so_far.count in let longer = ap length pushed in omega (arith, count, longer, length-append back (parts ∷ []));
      parts_are = λ place q ps queued here.
          ⊎_elim
          (λ earlier. so_far.parts_are place q ps queued earlier)
          (λ last.
          let at : place ≡ i = last.0 ∙ so_far.count in
          let same : found.1 ≡ q = same_inside found.1 q (sym found.3 ∙ ap (slice_get queues) (sym at) ∙ queued) in
          subst (λ f. AreFolioParts journal f ps) (same_folio ∙ ap (λ (x : FolioQueue). x.folio) same) (subst (AreFolioParts journal m.folio.folio) last.1 own))
          (found_behind back parts place ps (ap (λ xs. slice_get xs place) (sym pushed) ∙ here));
      settled_are = λ whole_so j d inside.
          ⊎_elim
          (λ earlier.
          let before_it = found_within back j (get_or left j d) earlier in
          subst (StandsSettled journal) (same_inside (get_or back j d) (get_or left j d) (sym (slice_get-get_or back j d before_it) ∙ earlier)) (so_far.settled_are (both whole_so).1 j d before_it))
          (λ last. subst (StandsSettled journal) (sym moved ∙ last.1) (whole (both whole_so).0 items_are))
          (found_behind back parts j (get_or left j d) (ap (λ xs. slice_get xs j) (sym pushed) ∙ slice_get-get_or left j d inside));
    }
