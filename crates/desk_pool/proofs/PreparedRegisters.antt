-- The register that prepared parts are after the items of a whole permitted order.
use Rattle.std.proofs.Common.{◌≡◌, ℕ, suc, ◌+◌, ◌-◌, ◌<◌, Bool, true, false, cond, List, [], ◌∷◌, IsTrue, Some, filter, length, map, slice_get, refl, sym, ap, subst, ◌∙◌, arith}
use Rattle.std.specs.List.{enumerate_from, range_with_len}
use Rattle.std.proofs.lemmas.List.FromFn.{length-enumerate_from}
use Rattle.gb_base.specs.declared.keys.Key.{Key}
use Rattle.gb_base.specs.declared.keys.Key.TheVariants.{Title}
use Rattle.act_model.specs.Receiving.{IsJournal}
use Rattle.act_model.specs.declared.receipts.Receipt.{Receipt}
use Rattle.conflict_queue.proofs.Numbered.{some_is}
use Rattle.conflict_queue.specs.Schedules.{IsPermitted}
use Rattle.folio_sections.proofs.FilteredLists.{all_filtered, in_filter, of_filter}
use Rattle.folio_sections.proofs.HeldParts.{open_is_held}
use Rattle.folio_sections.specs.Entries.{at}
use Rattle.folio_sections.specs.Held.{entries_at, is_given, is_held, room_at}
use Rattle.folio_sections.specs.Titles.{is_open}
use Rattle.kept_registers.specs.Kept.{Kept}
use Rattle.registrar.proofs.NoticedPlaces.{Rises}
use Rattle.registrar.proofs.OneListOfFolios.{one_list_of_folios}
use Rattle.registrar.proofs.PermittedOrders.{in_order}
use Rattle.registrar.proofs.PermittedRuns.{as_first, as_first_is, firsts}
use Rattle.registrar.proofs.Registering.{first_keep_awards, registrar_kept}
use Rattle.registrar.proofs.RisingNumbers.{contains_of_in, in_of_contains, pairs_of_rises, rises_of_pairs}
use Rattle.registrar.proofs.SameSchedules.{same_entries}
use Rattle.registrar.specs.HasSettled.{HasSettled, settled_first}
use Rattle.registrar.specs.HeldKeys.{keys_of_first}
use Rattle.registrar.specs.KeptAwards.{AwardsKept}
use Rattle.registrar.specs.OpenFolios.{open_folios}
use Rattle.registrar.specs.RegisterState.{RegisterState}
use Rattle.registrar.specs.Settling.{registrar}
use Rattle.registrar.specs.declared.verdicts.Verdict.{Verdict}
use Rattle.registrar.specs.inner.OpenFolios.{AreOpenFolios}
use Rattle.desk_pool.proofs.PreparedRuns.{verdict_first}
use Rattle.desk_pool.specs.Preparing.{AreTitledFolios, HasPlaces, IsPrepared, ServesEachItem}
use Rattle.desk_pool.specs.declared.register_frames.RegisterFrame.{RegisterFrame}
use Rattle.desk_pool.specs.inner.PreparedRuns.{HasTaken}
use Rattle.desk_pool.specs.inner.TheRegister.{IsTheRegister}

-- ---- verdicts

-- a list that has at each place what a function gives for its number is the list of what the function gives
enumerated : (f : ℕ → Verdict) (a : ℕ) (vs : List Verdict) → ((k : ℕ) → k < length vs → slice_get vs k ≡ Some (f (a + k))) → enumerate_from a vs ≡ map (λ n. (n, f n)) (range_with_len a (length vs))
enumerated f a [] each = refl
enumerated f a (v ∷ vs) each =
    let start : a + 0 ≡ a = omega arith in
    let here : v ≡ f a = some_is v (f a) (each 0 (omega arith) ∙ ap (λ n. Some (f n)) start) in
    let rest = enumerated f (a + 1) vs (λ k within. let next : a + suc k ≡ (a + 1) + k = omega arith in each (suc k) (omega (arith, within)) ∙ ap (λ n. Some (f n)) next) in
    λ j. (a, here j) ∷ rest j

pub all_said : (journal : List Receipt) (order : List ℕ) (s : RegisterFrame) → IsJournal journal → Kept journal (λ k. []) → IsPermitted journal order → HasTaken journal order s
    → enumerate_from 1 s.verdicts.items ≡ (registrar journal).verdicts
all_said journal order s numbered empty permitted taken =
    let vs = s.verdicts.items in
    let count = taken.places.frame.verdicts in
    let each : (k : ℕ) → k < length vs → slice_get vs k ≡ Some (verdict_first journal (1 + k)) = λ k within.
    let back : k ≡ (1 + k) - 1 = omega arith in
    ap (slice_get vs) back ∙ taken.verdicts (1 + k) (contains_of_in order (1 + k) (in_order journal order (1 + k) permitted (omega arith) (omega (arith, within, count)))) in
    enumerated (verdict_first journal) 1 vs each
    ∙ ap (λ n. map (λ m. (m, verdict_first journal m)) (range_with_len 1 n)) count
    ∙ sym (same_maps (range_with_len 1 (length journal)))
    ∙ sym (firsts journal (length journal) numbered empty).verdicts
  where
    same_maps : (row : List ℕ) → map {B = ℕ × Verdict} (λ n. (n, (as_first journal n).verdict)) row ≡ map (λ n. (n, verdict_first journal n)) row
    same_maps row = λ j. map {B = ℕ × Verdict} (λ n. (n, (as_first_is journal n j).verdict)) row

-- ---- folios

rises_filtered : (p : ℕ → Bool) (ns : List ℕ) → Rises ns → Rises (filter p ns)
rises_filtered p [] up = tt
rises_filtered p (n ∷ ns) up =
    elim (p n) as (λ b. Rises (cond b (n ∷ filter p ns) (filter p ns))) [
      | true ↦ (all_filtered (λ k. n < k) p ns up.0, rises_filtered p ns up.1)
      | false ↦ rises_filtered p ns up.1
    ]

open_ones : (journal : List Receipt) (s : RegisterFrame) → HasPlaces journal s → AreOpenFolios (filter (λ folio. is_open (entries_at s.parts (Title folio))) s.folios.items) (entries_at s.parts)
open_ones journal s places =
    let p : ℕ → Bool = λ folio. is_open (entries_at s.parts (Title folio)) in
    let all = s.folios.items in
    record {
      ascending = pairs_of_rises (filter p all) (rises_filtered p all (rises_of_pairs all places.frame.folios.ascending));
      members = λ folio. (
        λ among. (of_filter p all folio (in_of_contains (filter p all) folio among)).1,
        λ is. contains_of_in (filter p all) folio
            (in_filter p all folio (in_of_contains all folio ((places.frame.folios.members folio).1 (sym (places.frame.held (Title folio)) ∙ open_is_held s.parts (Title folio) is))) is),
      );
    }

-- ---- together

pub register_left : (journal : List Receipt) (order : List ℕ) (s : RegisterFrame) (register : RegisterState) → IsJournal journal → Kept journal (λ k. []) → IsPermitted journal order → HasTaken journal order s
    → register.parts ≡ s.parts → register.verdicts ≡ enumerate_from 1 s.verdicts.items → register.folios ≡ filter (λ folio. is_open (entries_at s.parts (Title folio))) s.folios.items
    → IsTheRegister journal register
register_left journal order s register numbered empty permitted taken parts said listed =
    let stands : (k : Key) → entries_at s.parts k ≡ at (registrar journal).entries k = λ k. taken.entries k ∙ same_entries journal order k numbered empty permitted in
    let there : entries_at s.parts ≡ at (registrar journal).entries = λ j k. stands k j in
    let entries : entries_at register.parts ≡ at (registrar journal).entries = ap entries_at parts ∙ there in
    let verdicts : register.verdicts ≡ (registrar journal).verdicts = said ∙ all_said journal order s numbered empty permitted taken in
    let folios : register.folios ≡ open_folios (registrar journal).entries =
    listed ∙ one_list_of_folios (filter (λ folio. is_open (entries_at s.parts (Title folio))) s.folios.items) (registrar journal).entries (entries_at s.parts) (open_ones journal s taken.places) stands in
    let held : (k : Key) → is_held register.parts k ≡ is_given (keys_of_first journal (length journal)) k = λ k. ap (λ ps. is_held ps k) parts ∙ taken.places.frame.held k in
    let count : length register.verdicts ≡ length journal = ap length said ∙ length-enumerate_from 1 s.verdicts.items ∙ taken.places.frame.verdicts in
    let all : length journal ≡ length register.verdicts = sym count in
    let settled : HasSettled journal register = record {
      entries = entries ∙ ap (λ n. at (settled_first journal n).entries) all;
      verdicts = verdicts ∙ ap (λ n. (settled_first journal n).verdicts) all;
      folios = folios ∙ ap (λ n. open_folios (settled_first journal n).entries) all;
      held = λ k. held k ∙ ap (λ n. is_given (keys_of_first journal n) k) all;
    } in
    record {
      settled = settled;
      whole = record { settled = settled; whole = count };
      entries = entries;
      verdicts = verdicts;
      folios = folios;
      held = held;
      kept = subst (Kept journal) (sym entries) (registrar_kept journal numbered empty);
      awards = subst (AwardsKept journal) (sym entries) (first_keep_awards journal (length journal) numbered empty);
    }

-- ---- parts that are cleared

pub cleared : (journal : List Receipt) (before after : RegisterFrame) → HasPlaces journal before → is_held after.parts ≡ is_held before.parts → ((k : Key) → entries_at after.parts k ≡ [])
    → ((k : Key) → room_at after.parts k ≡ room_at before.parts k + length (entries_at before.parts k)) → after.scratch ≡ before.scratch → after.verdicts ≡ before.verdicts → after.folios ≡ before.folios
    → IsPrepared journal after
cleared journal before after places holds none room scratch verdicts folios = record {
  places = record {
    frame = record {
      held = λ k. ap (λ h. h k) holds ∙ places.frame.held k;
      scratch = subst (ServesEachItem journal) (sym scratch) places.frame.scratch;
      verdicts = ap (λ vs. length vs.items) verdicts ∙ places.frame.verdicts;
      folios = subst (λ fs. AreTitledFolios journal fs.items) (sym folios) places.frame.folios;
    };
    room = λ k held.
        let place = places.room k (subst (λ h. IsTrue (h k)) holds held) in
        let more = room k in
        let nothing = ap length (none k) in
        omega (arith, place, more, nothing);
  };
  empty = none;
}
