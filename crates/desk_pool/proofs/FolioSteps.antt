-- A folio whose turn has come can have the item's step, and the step leaves it behind its lock.
use Rattle.std.proofs.Common.{◌≡◌, ℕ, ◌+◌, ◌-◌, ◌≤◌, ◌==◌, ◌&&◌, true, List, [], All, Contains, IsTrue, length, sym, ap, subst, ◌∙◌, arith}
use Rattle.std.specs.List.{range_with_len}
use Rattle.std.proofs.lemmas.Bool.{and_parts, eqb-true}
use Rattle.std.proofs.lemmas.Bool.Decides.{nat_tests}
use Rattle.std.proofs.lemmas.List.Elements.{All-contains}
use Rattle.gb_base.proofs.Members.{in_range}
use Rattle.gb_base.specs.Keys.{folio_of_key}
use Rattle.gb_base.specs.declared.keys.Key.{Key}
use Rattle.act_model.proofs.KeyOrder.{has_decides}
use Rattle.act_model.specs.Receiving.{IsJournal}
use Rattle.act_model.specs.declared.receipts.Receipt.{Receipt}
use Rattle.conflict_queue.specs.ItemKeys.{keys_of_item}
use Rattle.folio_sections.specs.Adding.{AddsList}
use Rattle.folio_sections.specs.Entries.{at}
use Rattle.folio_sections.specs.Held.{entries_at, is_given, is_held, room_at}
use Rattle.folio_sections.specs.PartState.{PartState}
use Rattle.kept_registers.specs.Kept.{Kept}
use Rattle.registrar.proofs.ContainedParts.{contains_part}
use Rattle.registrar.proofs.Registering.{left_by, registrar_is}
use Rattle.registrar.proofs.RisingNumbers.{contains_of_in}
use Rattle.registrar.specs.Brings.{brings}
use Rattle.registrar.specs.HasSettled.{settled_first}
use Rattle.registrar.specs.HeldKeys.{keys_of_first}
use Rattle.registrar.specs.Rooms.{HasItsScratch}
use Rattle.registrar.specs.Settling.{Settlement, registrar}
use Rattle.sale_rules.specs.ScratchRoom.{ScratchRoom}
use Rattle.desk_pool.proofs.AgreeingScratches.{scratch_same}
use Rattle.desk_pool.proofs.Settling.{CanStep, can_step, room_behind, stands_behind, stands_on}
use Rattle.desk_pool.proofs.Turns.{TurnComes, all_done, next_found, turn_comes}
use Rattle.desk_pool.specs.FolioQueues.{is_key_of, is_next, last_taken, queue_of}
use Rattle.desk_pool.specs.FolioStates.{FolioState, HasAllRoom, HasAllScratch, IsBehindLock, StandsAt}
use Rattle.desk_pool.specs.RoundRooms.{room_of_first}

-- ---- the folio's keys

-- where an item of the journal touches a key of the folio, the key is among the folio's
pub key_of_folio : (journal : List Receipt) (folio i : ℕ) (k : Key) → 1 ≤ i → i ≤ length journal → folio_of_key k ≡ folio → Contains (keys_of_item journal i) k → is_key_of journal folio k ≡ true
key_of_folio journal folio i k low high own there =
    let row = range_with_len 1 (length journal) in
    let among = contains_part (keys_of_item journal) row i k (contains_of_in row i (in_range 1 (length journal) i low (omega (arith, high)))) there in
    let given : is_given (keys_of_first journal (length journal)) k ≡ true = (has_decides k (keys_of_first journal (length journal))).1 among in
    let here : (folio_of_key k == folio) ≡ true = grind (arith, nat_tests, own) in
    λ j. here j && given j

pub folio_of_its_key : (journal : List Receipt) (folio : ℕ) (k : Key) → IsTrue (is_key_of journal folio k) → folio_of_key k ≡ folio
folio_of_its_key journal folio k is = eqb-true (folio_of_key k) folio (and_parts (folio_of_key k == folio) (is_given (keys_of_first journal (length journal)) k) is).0

module _ (journal : List Receipt) (s : FolioState) (behind : IsBehindLock journal s) where
  -- a key that is held is the folio's
  pub own_key : (k : Key) → IsTrue (is_held s.parts k) → folio_of_key k ≡ s.folio
  own_key k held = folio_of_its_key journal s.folio k (sym (behind.held k) ∙ held)

  -- a key of the folio that an item of the journal touches is held
  pub holds_key : (i : ℕ) (k : Key) → 1 ≤ i → i ≤ length journal → folio_of_key k ≡ s.folio → Contains (keys_of_item journal i) k → IsTrue (is_held s.parts k)
  holds_key i k low high own there = behind.held k ∙ key_of_folio journal s.folio i k low high own there

  -- ---- before the step

  pub ahead_of_step : (i : ℕ) → Kept journal (λ k. []) → TurnComes journal s.folio s.taken i → StandsAt journal (i - 1) (is_held s.parts) (entries_at s.parts)
  ahead_of_step i empty turn =
      stands_on journal s.folio (last_taken (queue_of journal s.folio) s.taken) (i - 1) (is_held s.parts) (entries_at s.parts) behind.numbered empty turn.before turn.none own_key behind.stands

  -- where all of the folio's items are settled, its keys have what the one registrar leaves there
  pub stands_when_done : Kept journal (λ k. []) → s.taken ≡ length (queue_of journal s.folio) → (k : Key) → IsTrue (is_held s.parts k) → entries_at s.parts k ≡ at (registrar journal).entries k
  stands_when_done empty all k held =
      let done = all_done journal s.folio s.taken all in
      stands_on journal s.folio (last_taken (queue_of journal s.folio) s.taken) (length journal) (is_held s.parts) (entries_at s.parts) behind.numbered empty done.within done.none own_key behind.stands k held
      ∙ ap (λ (all : Settlement). at all.entries k) (registrar_is journal)

  -- ---- after the step

  pub behind_step : (i : ℕ) (parts : List PartState) (scratch : ScratchRoom) → TurnComes journal s.folio s.taken i → is_held parts ≡ is_held s.parts → StandsAt journal i (is_held s.parts) (entries_at parts)
      → HasAllRoom journal (is_held s.parts) (entries_at parts) (room_at parts) → scratch ≡ s.scratch → IsBehindLock journal (record { folio = s.folio; taken = s.taken + 1; parts = parts; scratch = scratch })
  behind_step i parts scratch turn held there roomy same = record {
    numbered = behind.numbered;
    held = λ k. ap (λ holds. holds k) held ∙ behind.held k;
    stands = subst (λ n. StandsAt journal n (is_held parts) (entries_at parts)) (sym turn.taken_next) (subst (λ holds. StandsAt journal i holds (entries_at parts)) (sym held) there);
    room = subst (λ holds. HasAllRoom journal holds (entries_at parts) (room_at parts)) (sym held) roomy;
    scratch = λ n touched. subst (HasItsScratch journal n (at (settled_first journal (n - 1)).entries)) (sym same) (behind.scratch n touched);
  }

-- the folio is behind its lock after the step, where the journal is known by its name
pub behind_named : (names journal : List Receipt) (s : FolioState) (i taken : ℕ) (parts : List PartState) (scratch : ScratchRoom) → journal ≡ names → IsBehindLock journal s → TurnComes journal s.folio s.taken i
    → taken ≡ s.taken + 1 → is_held parts ≡ is_held s.parts → StandsAt journal i (is_held s.parts) (entries_at parts) → HasAllRoom journal (is_held s.parts) (entries_at parts) (room_at parts) → scratch ≡ s.scratch
    → IsBehindLock names (record { folio = s.folio; taken = taken; parts = parts; scratch = scratch })
behind_named names journal s i taken parts scratch named behind turn one_more held there roomy same =
    subst (λ j. IsBehindLock j (record { folio = s.folio; taken = taken; parts = parts; scratch = scratch })) named
    (subst (λ n. IsBehindLock journal (record { folio = s.folio; taken = n; parts = parts; scratch = scratch })) (sym one_more)
    (behind_step journal s behind i parts scratch turn held there roomy same))

-- a folio whose parts are empty and have room for all items is behind its lock, with none of its items settled
pub behind_at_first : (journal : List Receipt) (folio : ℕ) (parts : List PartState) (scratch : ScratchRoom) → IsJournal journal → ((k : Key) → is_held parts k ≡ is_key_of journal folio k)
    → ((k : Key) → entries_at parts k ≡ []) → ((k : Key) → IsTrue (is_held parts k) → room_of_first journal (length journal) k ≤ room_at parts k) → HasAllScratch journal folio scratch
    → IsBehindLock journal (record { folio = folio; taken = 0; parts = parts; scratch = scratch })
behind_at_first journal folio parts scratch numbered held empty roomy scratch_suffices = record {
  numbered = numbered;
  held = held;
  stands = λ k there. empty k;
  room = λ k there. let place = roomy k there in omega (arith, place);
  scratch = scratch_suffices;
}

-- ---- an item that touches one folio

-- All that the item's step asks of a folio whose turn has come.
pub record IsReady (journal : List Receipt) (s : FolioState) (i : ℕ) : Type 0 where
  pub behind : IsBehindLock journal s
  pub turn : TurnComes journal s.folio s.taken i
  pub held : (k : Key) → Contains (keys_of_item journal i) k → IsTrue (is_held s.parts k)
  pub there : StandsAt journal (i - 1) (is_held s.parts) (entries_at s.parts)
  pub can : CanStep journal i (is_held s.parts) (entries_at s.parts) (room_at s.parts)
  pub scratch : HasItsScratch journal i (entries_at s.parts) s.scratch
  pub kept : Kept journal (at (settled_first journal (i - 1)).entries)

pub is_ready : (journal : List Receipt) (s : FolioState) (i : ℕ) → IsBehindLock journal s → Kept journal (λ k. []) → IsTrue (is_next (queue_of journal s.folio) s.taken i)
    → All (λ k. folio_of_key k ≡ s.folio) (keys_of_item journal i) → IsReady journal s i
is_ready journal s i behind empty next own =
    let turn = turn_comes journal s.folio s.taken i (next_found (queue_of journal s.folio) s.taken i next) in
    let held : (k : Key) → Contains (keys_of_item journal i) k → IsTrue (is_held s.parts k) = λ k there.
    holds_key journal s behind i k turn.low turn.high (All-contains (λ j. folio_of_key j ≡ s.folio) (keys_of_item journal i) k own there) there in
    let there = ahead_of_step journal s behind i empty turn in
    record {
      behind = behind;
      turn = turn;
      held = held;
      there = there;
      can = can_step journal i (is_held s.parts) (entries_at s.parts) (room_at s.parts) behind.numbered empty turn.low turn.high held there behind.room;
      scratch =
          scratch_same journal i (at (settled_first journal (i - 1)).entries) (entries_at s.parts) s.scratch (λ k own. there k (held k own)) (behind.scratch i turn.touches);
      kept = (left_by journal (i - 1) behind.numbered empty).settled.kept;
    }

-- a folio whose turn has come is ready, where the journal is known by its name and the folio by its fields
pub ready_named : (names journal : List Receipt) (s self : FolioState) (queue : List ℕ) (i : ℕ) → journal ≡ names → IsBehindLock names s → Kept names (λ k. []) → s ≡ self → queue ≡ queue_of names self.folio
    → true ≡ is_next queue self.taken i → All (λ k. folio_of_key k ≡ self.folio) (keys_of_item names i) → IsReady journal s i
ready_named names journal s self queue i named behind empty fields are next own =
    let ready = is_ready names self i (subst (IsBehindLock names) fields behind) empty (subst (λ q. IsTrue (is_next q self.taken i)) are (sym next)) own in
    subst (λ j. IsReady j s i) (sym named) (subst (λ x. IsReady names x i) (sym fields) ready)

-- after the step the folio is behind its lock again
pub behind_its_step : (names journal : List Receipt) (s : FolioState) (i taken : ℕ) (parts : List PartState) (scratch : ScratchRoom) → journal ≡ names → IsReady journal s i → taken ≡ s.taken + 1 → is_held parts ≡ is_held s.parts
    → AddsList (entries_at s.parts) (entries_at parts) (room_at s.parts) (room_at parts) (brings journal i (at (settled_first journal (i - 1)).entries)).entries → scratch ≡ s.scratch
    → IsBehindLock names (record { folio = s.folio; taken = taken; parts = parts; scratch = scratch })
behind_its_step names journal s i taken parts scratch named ready one_more held added same =
    let there = stands_behind journal i (is_held s.parts) (entries_at s.parts) (entries_at parts) (room_at s.parts) (room_at parts) ready.turn.low ready.there added in
    let roomy =
    room_behind journal (is_held s.parts) (entries_at s.parts) (entries_at parts) (room_at s.parts) (room_at parts) (brings journal i (at (settled_first journal (i - 1)).entries)).entries ready.behind.room added in
    behind_named names journal s i taken parts scratch named ready.behind ready.turn one_more held there roomy same
