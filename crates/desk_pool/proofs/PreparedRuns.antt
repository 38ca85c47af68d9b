-- Prepared parts in which the items of a permitted order are settled, one after the other.
use Rattle.std.proofs.Common.{◌≡◌, ℕ, ◌+◌, ◌-◌, ◌<◌, ◌≤◌, List, [], ◌∷◌, ◌++◌, All, Contains, IsTrue, Some, drop, get_or, length, set, slice_get, take, inl, refl, sym, ap, subst, ◌∙◌, ⊎_elim, length-append, arith}
use Rattle.std.specs.List.{range_with_len}
use Rattle.std.proofs.lemmas.Bool.{cases_eq}
use Rattle.std.proofs.lemmas.List.{drop_more, get_or-set_other, get_or-set_same, length-set, take-append-drop, take_more}
use Rattle.std.proofs.lemmas.List.Sums.{fold-append}
use Rattle.std.proofs.lemmas.Option.{slice_get-get_or}
use Rattle.gb_base.proofs.Members.{In, in_append_left, in_append_right, in_range, of_append}
use Rattle.gb_base.specs.declared.keys.Key.{Key}
use Rattle.act_model.proofs.KeyOrder.{has_decides}
use Rattle.act_model.specs.Receiving.{IsJournal}
use Rattle.act_model.specs.declared.receipts.Receipt.{Receipt}
use Rattle.conflict_queue.specs.ItemKeys.{keys_of_item}
use Rattle.conflict_queue.specs.Schedules.{IsPermitted}
use Rattle.folio_sections.proofs.Additions.{at-append}
use Rattle.folio_sections.specs.Adding.{AddsList}
use Rattle.folio_sections.specs.Entries.{at}
use Rattle.folio_sections.specs.Held.{entries_at, is_held, room_at}
use Rattle.kept_registers.specs.Kept.{Kept}
use Rattle.registrar.proofs.ContainedParts.{contains_part}
use Rattle.registrar.proofs.PermittedOrders.{ahead_of, given_same, of_order, touches}
use Rattle.registrar.proofs.PermittedRuns.{as_first, as_first_is, at_front, firsts, found_at, nothing_first}
use Rattle.registrar.proofs.RisingNumbers.{contains_of_in, in_of_contains}
use Rattle.registrar.specs.Brings.{Brought, brings}
use Rattle.registrar.specs.HasSettled.{settled_first}
use Rattle.registrar.specs.HeldKeys.{keys_of_first}
use Rattle.registrar.specs.Rooms.{HasItsRoom, HasItsScratch, room_wanted}
use Rattle.registrar.specs.Settling.{Settlement, nothing_settled, settled_in_order, settled_next}
use Rattle.registrar.specs.StandingAwards.{StandsForKeptAwards}
use Rattle.registrar.specs.declared.verdicts.Verdict.{Verdict}
use Rattle.desk_pool.proofs.RoomsSuffice.{room_grows, room_suffices}
use Rattle.desk_pool.proofs.AgreeingScratches.{scratch_same}
use Rattle.desk_pool.specs.Preparing.{AreTitledFolios, HasPlaces, IsPrepared, ServesEachItem}
use Rattle.desk_pool.specs.RoundRooms.{room_of_first}
use Rattle.desk_pool.specs.declared.register_frames.RegisterFrame.{RegisterFrame}
use Rattle.desk_pool.specs.inner.PreparedRuns.{HasTaken}

-- nothing is settled yet
pub none_taken : (journal : List Receipt) (s : RegisterFrame) → IsPrepared journal s → HasTaken journal [] s
none_taken journal s prepared = record {
  places = prepared.places;
  entries = prepared.empty;
  verdicts = λ n there. absurd (in_of_contains [] n there);
}

-- the verdict that an item has in the order of receipts
abbrev pub verdict_first : List Receipt → ℕ → Verdict
verdict_first journal n = (brings journal n (at (settled_first journal (n - 1)).entries)).verdict

-- a verdict that is written stands at its number, and the others stay
written : (vs : List Verdict) (n i : ℕ) (v : Verdict) → 1 ≤ i → i ≤ length vs → n ≡ i → slice_get (set vs (i - 1) v) (n - 1) ≡ Some v
written vs n i v low high same =
    let count = length-set vs (i - 1) v in
    let place : n - 1 ≡ i - 1 = omega (arith, same) in
    ap (slice_get (set vs (i - 1) v)) place
    ∙ slice_get-get_or (set vs (i - 1) v) (i - 1) v (omega (arith, count, low, high))
    ∙ ap (λ w. Some w) (get_or-set_same vs (i - 1) v v (omega (arith, low, high)))

unwritten : (vs : List Verdict) (n i : ℕ) (v w : Verdict) → 1 ≤ n → n ≤ length vs → 1 ≤ i → (n ≡ i → ⊥) → slice_get vs (n - 1) ≡ Some w → slice_get (set vs (i - 1) v) (n - 1) ≡ Some w
unwritten vs n i v w low high above unlike is =
    let count = length-set vs (i - 1) v in
    slice_get-get_or (set vs (i - 1) v) (n - 1) v (omega (arith, count, low, high))
    ∙ ap (λ x. Some x) (get_or-set_other vs (i - 1) (n - 1) v v (λ same. unlike (omega (arith, same, low, above))))
    ∙ sym (slice_get-get_or vs (n - 1) v (omega (arith, low, high)))
    ∙ is

-- all that an item's step asks of the frame in which it is made
pub record CanTake (journal : List Receipt) (i : ℕ) (s : RegisterFrame) : Type 0 where
  pub low : 1 ≤ i
  pub high : i ≤ length journal
  pub held : (k : Key) → Contains (keys_of_item journal i) k → IsTrue (is_held s.parts k)
  pub wide : HasItsRoom journal i (entries_at s.parts) (room_at s.parts)
  pub scratch : HasItsScratch journal i (entries_at s.parts) s.scratch
  pub kept : StandsForKeptAwards journal (is_held s.parts) (entries_at s.parts)
  pub earlier : (k : Key) → Contains (keys_of_item journal i) k → All (λ e. e.receipt < i) (entries_at s.parts k)

-- what the step of an item leaves, by what the item brings to the register after those that are done
pub record IsStep (journal : List Receipt) (done : List ℕ) (i : ℕ) (before after : RegisterFrame) (v : Verdict) : Type 0 where
  pub held : is_held after.parts ≡ is_held before.parts
  pub added : AddsList (entries_at before.parts) (entries_at after.parts) (room_at before.parts) (room_at after.parts) (brings journal i (at (settled_in_order journal done).entries)).entries
  pub verdict : v ≡ (brings journal i (at (settled_in_order journal done).entries)).verdict
  pub scratch : after.scratch ≡ before.scratch
  pub verdicts : after.verdicts.items ≡ set before.verdicts.items (i - 1) v
  pub folios : after.folios ≡ before.folios

module _ (journal : List Receipt) (done left : List ℕ) (i : ℕ) (numbered : IsJournal journal) (empty : Kept journal (λ k. [])) (permitted : IsPermitted journal (done ++ i ∷ left)) where
  -- at the item's keys stands what the one registrar finds there
  found_there : (k : Key) → Contains (keys_of_item journal i) k → at (settled_in_order journal done).entries k ≡ at (settled_first journal (i - 1)).entries k
  found_there k own =
      (at_front journal done (i ∷ left) numbered empty permitted).entries k
      ∙ given_same (touches journal k) (λ j. at (as_first journal j).entries k) done (range_with_len 1 (i - 1)) (λ j lacks. nothing_first journal k j numbered empty lacks)
      (ahead_of journal done left i k permitted ((has_decides k (keys_of_item journal i)).1 own))
      ∙ sym ((firsts journal (i - 1) numbered empty).entries k)

  pub can_take : (s : RegisterFrame) → HasTaken journal done s → CanTake journal i s
  can_take s taken =
      let of_journal = of_order journal (done ++ i ∷ left) i permitted (in_append_right done (i ∷ left) i (inl refl)) in
      let front = at_front journal done (i ∷ left) numbered empty permitted in
      let found = found_at journal done left i numbered empty permitted in
      let row = range_with_len 1 (length journal) in
      let held : (k : Key) → Contains (keys_of_item journal i) k → IsTrue (is_held s.parts k) = λ k own.
      taken.places.frame.held k
      ∙ (has_decides k (keys_of_first journal (length journal))).1
      (contains_part (keys_of_item journal) row i k (contains_of_in row i (in_range 1 (length journal) i of_journal.0 (omega (arith, of_journal.1)))) own) in
      let there : (k : Key) → Contains (keys_of_item journal i) k → entries_at s.parts k ≡ at (settled_first journal (i - 1)).entries k = λ k own.
      taken.entries k ∙ found_there k own in
      record {
        low = of_journal.0;
        high = of_journal.1;
        held = held;
        wide = λ k own.
            let suffices = room_suffices journal k numbered empty i of_journal.0 own in
            let grows = room_grows journal i (length journal) k of_journal.1 in
            let place = taken.places.room k (held k own) in
            subst (λ es. room_wanted journal i es ≤ room_at s.parts k) (sym (there k own))
            (let fits = subst (λ es. room_of_first journal (length journal) k ≤ length es + room_at s.parts k) (there k own) place in omega (arith, suffices, grows, fits));
        scratch = scratch_same journal i (at (settled_first journal (i - 1)).entries) (entries_at s.parts) s.scratch there (taken.places.frame.scratch i of_journal.1);
        kept = record {
          register = at (settled_in_order journal done).entries;
          stands = λ k held. taken.entries k;
          kept = front.kept;
          awards = front.awards;
        };
        earlier = λ k own. subst (All (λ e. e.receipt < i)) (sym (taken.entries k)) (found.earlier k own);
      }

  places_stay : (s after : RegisterFrame) (v : Verdict) → HasTaken journal done s → IsStep journal done i s after v → HasPlaces journal after
  places_stay s after v taken step = record {
    frame = record {
      held = λ k. ap (λ holds. holds k) step.held ∙ taken.places.frame.held k;
      scratch = subst (ServesEachItem journal) (sym step.scratch) taken.places.frame.scratch;
      verdicts = ap length step.verdicts ∙ length-set s.verdicts.items (i - 1) v ∙ taken.places.frame.verdicts;
      folios = subst (λ fs. AreTitledFolios journal fs.items) (sym step.folios) taken.places.frame.folios;
    };
    room = λ k held.
        let place = taken.places.room k (subst (λ holds. IsTrue (holds k)) step.held held) in
        let less = step.added.room k in
        let es = at (brings journal i (at (settled_in_order journal done).entries)).entries k in
        let more : length (entries_at after.parts k) ≡ length (entries_at s.parts k) + length es = ap length (step.added.there k) ∙ length-append (entries_at s.parts k) es in
        omega (arith, place, less, more);
  }

  said : (s after : RegisterFrame) (v : Verdict) → HasTaken journal done s → IsStep journal done i s after v → (n : ℕ) → Contains (done ++ i ∷ []) n → slice_get after.verdicts.items (n - 1) ≡ Some (verdict_first journal n)
  said s after v taken step n there =
      let can = can_take s taken in
      let count = taken.places.frame.verdicts in
      let found = found_at journal done left i numbered empty permitted in
      let own : v ≡ verdict_first journal i = step.verdict ∙ ap (λ (b : Brought). b.verdict) (found.same ∙ as_first_is journal i) in
      ap (λ vs. slice_get vs (n - 1)) step.verdicts
      ∙ ⊎_elim
      (λ same. written s.verdicts.items n i v can.low (omega (arith, can.high, count)) same ∙ ap (λ w. Some w) own ∙ ap (λ m. Some (verdict_first journal m)) (sym same))
      (λ unlike.
      let ahead : In n done = ⊎_elim (λ front. front) (λ rest. ⊎_elim (λ same. absurd (unlike (sym same))) (λ none. absurd none) rest) (of_append done (i ∷ []) n (in_of_contains (done ++ i ∷ []) n there)) in
      let within = (permitted.all n).0 (contains_of_in (done ++ i ∷ left) n (in_append_left done (i ∷ left) n ahead)) in
      unwritten s.verdicts.items n i v (verdict_first journal n) within.0 (omega (arith, within.1, count)) can.low unlike (taken.verdicts n (contains_of_in done n ahead)))
      (cases_eq n i)

  pub taken_next : (s after : RegisterFrame) (v : Verdict) → HasTaken journal done s → IsStep journal done i s after v → HasTaken journal (done ++ i ∷ []) after
  taken_next s after v taken step =
      let es = at (brings journal i (at (settled_in_order journal done).entries)).entries in
      record {
        places = places_stay s after v taken step;
        entries = λ k. step.added.there k
            ∙ ap (λ xs. xs ++ es k) (taken.entries k)
            ∙ sym (at-append (settled_in_order journal done).entries (brings journal i (at (settled_in_order journal done).entries)).entries k)
            ∙ ap (λ (t : Settlement). at t.entries k) (sym (fold-append (settled_next journal) nothing_settled done (i ∷ [])));
        verdicts = said s after v taken step;
      }

-- ---- at a place of an order

-- with the item at this place one more is done
pub one_more : (order : List ℕ) (place i : ℕ) → place < length order → i ≡ get_or order place i → take (place + 1) order ≡ take place order ++ i ∷ []
one_more order place i within is = take_more order place i within ∙ ap (λ n. take place order ++ n ∷ []) (sym is)

-- the order is cut at the item
pub cut_at_place : (journal : List Receipt) (order : List ℕ) (place i : ℕ) → place < length order → i ≡ get_or order place i → IsPermitted journal order
    → IsPermitted journal (take place order ++ i ∷ drop (place + 1) order)
cut_at_place journal order place i within is permitted =
    subst (IsPermitted journal)
    (sym (take-append-drop place order) ∙ ap (λ ns. take place order ++ ns) (drop_more order place i within ∙ ap (λ n. n ∷ drop (place + 1) order) (sym is)))
    permitted

pub kept_ahead : (journal : List Receipt) (done left : List ℕ) (i : ℕ) → IsJournal journal → Kept journal (λ k. []) → IsPermitted journal (done ++ i ∷ left) → Kept journal (at (settled_in_order journal done).entries)
kept_ahead journal done left i numbered empty permitted = (at_front journal done (i ∷ left) numbered empty permitted).kept
