-- Two folios whose turn has come for the same item can have its step together, and it leaves both behind their locks.
use Rattle.std.proofs.Common.{◌≡◌, ◌⊎◌, ⊎_elim, ℕ, ◌+◌, ◌-◌, ◌<◌, ◌≤◌, ◌||◌, ◌==◌, true, List, [], All, Contains, IsTrue, length, refl, sym, ap, subst, ◌∙◌, arith}
use Rattle.std.proofs.lemmas.Bool.{eqb-true, or_left, or_right}
use Rattle.std.proofs.lemmas.List.Elements.{All-contains}
use Rattle.gb_base.specs.Keys.{folio_of_key}
use Rattle.gb_base.specs.declared.keys.Key.{Key}
use Rattle.act_model.specs.declared.receipts.Receipt.{Receipt}
use Rattle.conflict_queue.specs.ItemKeys.{keys_of_item}
use Rattle.folio_sections.proofs.FilteredLists.{of_any}
use Rattle.folio_sections.specs.Adding.{AddsList}
use Rattle.folio_sections.specs.Entries.{at}
use Rattle.folio_sections.specs.Held.{entries_at, is_held, room_at}
use Rattle.folio_sections.specs.PartState.{PartState}
use Rattle.kept_registers.specs.Kept.{Kept}
use Rattle.registrar.proofs.Registering.{left_by}
use Rattle.registrar.proofs.RisingNumbers.{contains_of_in}
use Rattle.registrar.specs.Brings.{brings}
use Rattle.registrar.specs.HasSettled.{settled_first}
use Rattle.registrar.specs.Rooms.{HasItsScratch}
use Rattle.sale_rules.specs.ScratchRoom.{ScratchRoom}
use Rattle.desk_pool.proofs.Apart.{at_either, at_first, at_second, first_same, second_same}
use Rattle.desk_pool.proofs.FolioSteps.{ahead_of_step, behind_named, holds_key, own_key}
use Rattle.desk_pool.proofs.AgreeingScratches.{scratch_same}
use Rattle.desk_pool.proofs.Settling.{CanStep, can_step, room_behind, stands_behind}
use Rattle.desk_pool.proofs.Turns.{TurnComes, next_found, turn_comes}
use Rattle.desk_pool.specs.FolioQueues.{is_next, queue_of}
use Rattle.desk_pool.specs.FolioStates.{FolioState, HasAllRoom, IsBehindLock, StandsAt}
use Rattle.desk_pool.specs.RoundRooms.{room_of_first}
use Rattle.desk_pool.specs.inner.FolioPairs.{AreApart, PairState, either_at, either_holds, either_room}

-- the parts of both folios
abbrev pub pair_of : FolioState → FolioState → PairState
pair_of s t = record { first = s.parts; second = t.parts }

-- two folios of different numbers hold no key together
pub apart_by_number : (journal : List Receipt) (s t : FolioState) → IsBehindLock journal s → IsBehindLock journal t → s.folio < t.folio → AreApart (is_held s.parts) (is_held t.parts)
apart_by_number journal s t one other less =
    let of_one = own_key journal s one in
    let of_other = own_key journal t other in
    record {
      one_first = λ k j here there. of_one k here ∙ sym (of_one j there);
      one_second = λ k j here there. of_other k here ∙ sym (of_other j there);
      rise = λ k j here there. let low = of_one k here in let high = of_other j there in omega (arith, low, high, less);
    }

-- the folio holds a key that the item touches
pub record TouchesHeld (journal : List Receipt) (s : FolioState) (i : ℕ) : Type 0 where
  pub key : Key
  pub held : is_held s.parts key ≡ true

pub touches_held : (journal : List Receipt) (s : FolioState) (i : ℕ) → IsBehindLock journal s → TurnComes journal s.folio s.taken i → TouchesHeld journal s i
touches_held journal s i behind turn =
    let found = of_any (λ k. folio_of_key k == s.folio) (keys_of_item journal i) turn.touches in
    record {
      key = found.0;
      held = holds_key journal s behind i found.0 turn.low turn.high (eqb-true (folio_of_key found.0) s.folio found.2) (contains_of_in (keys_of_item journal i) found.0 found.1);
    }

-- ---- before the step

-- All that an item's step asks of two folios whose turn has come, and of the pair of their parts.
pub record ArePairReady (journal : List Receipt) (s t : FolioState) (pair : PairState) (i : ℕ) : Type 0 where
  pub pair_is : pair ≡ pair_of s t
  pub one : IsBehindLock journal s
  pub other : IsBehindLock journal t
  pub turn_one : TurnComes journal s.folio s.taken i
  pub turn_other : TurnComes journal t.folio t.taken i
  pub apart : AreApart (is_held s.parts) (is_held t.parts)
  pub held : (k : Key) → Contains (keys_of_item journal i) k → IsTrue (either_holds pair k)
  pub there : StandsAt journal (i - 1) (either_holds pair) (either_at pair)
  pub roomy : HasAllRoom journal (either_holds pair) (either_at pair) (either_room pair)
  pub can : CanStep journal i (either_holds pair) (either_at pair) (either_room pair)
  pub scratch : HasItsScratch journal i (either_at pair) s.scratch
  pub kept : Kept journal (at (settled_first journal (i - 1)).entries)

pub pair_is_ready : (journal : List Receipt) (s t : FolioState) (i : ℕ) → IsBehindLock journal s → IsBehindLock journal t → Kept journal (λ k. []) → s.folio < t.folio
    → IsTrue (is_next (queue_of journal s.folio) s.taken i) → IsTrue (is_next (queue_of journal t.folio) t.taken i)
    → All (λ k. (folio_of_key k ≡ s.folio) ⊎ (folio_of_key k ≡ t.folio)) (keys_of_item journal i) → ArePairReady journal s t (pair_of s t) i
pair_is_ready journal s t i one other empty less next_one next_other own =
    let turn_one = turn_comes journal s.folio s.taken i (next_found (queue_of journal s.folio) s.taken i next_one) in
    let turn_other = turn_comes journal t.folio t.taken i (next_found (queue_of journal t.folio) t.taken i next_other) in
    let held : (k : Key) → Contains (keys_of_item journal i) k → IsTrue (either_holds (pair_of s t) k) = λ k among.
    ⊎_elim (λ of_one. or_left (is_held s.parts k) (is_held t.parts k) (holds_key journal s one i k turn_one.low turn_one.high of_one among))
    (λ of_other. or_right (is_held s.parts k) (is_held t.parts k) (holds_key journal t other i k turn_other.low turn_other.high of_other among))
    (All-contains (λ j. (folio_of_key j ≡ s.folio) ⊎ (folio_of_key j ≡ t.folio)) (keys_of_item journal i) k own among) in
    let there : StandsAt journal (i - 1) (either_holds (pair_of s t)) (either_at (pair_of s t)) =
    at_either (λ k es r. es ≡ at (settled_first journal (i - 1)).entries k) (is_held s.parts) (is_held t.parts) (entries_at s.parts) (entries_at t.parts) (room_at s.parts) (room_at t.parts)
    (ahead_of_step journal s one i empty turn_one) (ahead_of_step journal t other i empty turn_other) in
    let roomy : HasAllRoom journal (either_holds (pair_of s t)) (either_at (pair_of s t)) (either_room (pair_of s t)) =
    at_either (λ k es r. room_of_first journal (length journal) k ≤ length es + r) (is_held s.parts) (is_held t.parts) (entries_at s.parts) (entries_at t.parts) (room_at s.parts) (room_at t.parts) one.room other.room in
    record {
      pair_is = refl;
      one = one;
      other = other;
      turn_one = turn_one;
      turn_other = turn_other;
      apart = apart_by_number journal s t one other less;
      held = held;
      there = there;
      roomy = roomy;
      can = can_step journal i (either_holds (pair_of s t)) (either_at (pair_of s t)) (either_room (pair_of s t)) one.numbered empty turn_one.low turn_one.high held there roomy;
      scratch =
          scratch_same journal i (at (settled_first journal (i - 1)).entries) (either_at (pair_of s t)) s.scratch (λ k among. there k (held k among)) (one.scratch i turn_one.touches);
      kept = (left_by journal (i - 1) one.numbered empty).settled.kept;
    }

-- two folios whose turn has come are ready, where the journal is known by its name and the folios by their fields
pub pair_ready_named : (names journal : List Receipt) (s t first second : FolioState) (pair : PairState) (first_queue second_queue : List ℕ) (i : ℕ) → journal ≡ names → IsBehindLock names s → IsBehindLock names t → Kept names (λ k. [])
    → s ≡ first → t ≡ second → first.folio < second.folio → first_queue ≡ queue_of names first.folio → second_queue ≡ queue_of names second.folio
    → true ≡ is_next first_queue first.taken i → true ≡ is_next second_queue second.taken i
    → All (λ k. (folio_of_key k ≡ first.folio) ⊎ (folio_of_key k ≡ second.folio)) (keys_of_item names i) → pair ≡ pair_of s t → ArePairReady journal s t pair i
pair_ready_named names journal s t first second pair first_queue second_queue i named one other empty one_is other_is less first_are second_are next_one next_other own pair_is =
    let ready =
    pair_is_ready names first second i (subst (IsBehindLock names) one_is one) (subst (IsBehindLock names) other_is other) empty less
    (subst (λ q. IsTrue (is_next q first.taken i)) first_are (sym next_one)) (subst (λ q. IsTrue (is_next q second.taken i)) second_are (sym next_other)) own in
    subst (λ p. ArePairReady journal s t p i) (sym pair_is)
    (subst (λ j. ArePairReady j s t (pair_of s t) i) (sym named)
    (subst (λ x. ArePairReady names x t (pair_of x t) i) (sym one_is) (subst (λ y. ArePairReady names first y (pair_of first y) i) (sym other_is) ready)))

-- ---- after the step

-- Both are behind their locks again.
pub record AreBehind (names : List Receipt) (s t : FolioState) (taken_one taken_other : ℕ) (parts_one parts_other : List PartState) (scratch : ScratchRoom) : Type 0 where
  pub one : IsBehindLock names (record { folio = s.folio; taken = taken_one; parts = parts_one; scratch = scratch })
  pub other : IsBehindLock names (record { folio = t.folio; taken = taken_other; parts = parts_other; scratch = t.scratch })

-- what the step leaves at the keys of both together, it leaves at the keys of each
module _ (journal : List Receipt) (s t : FolioState) (i : ℕ) (after : PairState) (ready : ArePairReady journal s t (pair_of s t) i) (apart : AreApart (is_held after.first) (is_held after.second))
    (held : either_holds after ≡ either_holds (pair_of s t))
    (added : AddsList (either_at (pair_of s t)) (either_at after) (either_room (pair_of s t)) (either_room after) (brings journal i (at (settled_first journal (i - 1)).entries)).entries) where
  each : (k : Key) → (is_held after.first k || is_held after.second k) ≡ (is_held s.parts k || is_held t.parts k)
  each k = ap (λ holds. holds k) held

  here : TouchesHeld journal s i
  here = touches_held journal s i ready.one ready.turn_one

  there : TouchesHeld journal t i
  there = touches_held journal t i ready.other ready.turn_other

  one_held : is_held after.first ≡ is_held s.parts
  one_held = first_same (is_held s.parts) (is_held t.parts) (is_held after.first) (is_held after.second) ready.apart apart each here.key there.key here.held there.held

  other_held : is_held after.second ≡ is_held t.parts
  other_held = second_same (is_held s.parts) (is_held t.parts) (is_held after.first) (is_held after.second) ready.apart apart each here.key there.key here.held there.held

  stands : StandsAt journal i (either_holds (pair_of s t)) (either_at after)
  stands = stands_behind journal i (either_holds (pair_of s t)) (either_at (pair_of s t)) (either_at after) (either_room (pair_of s t)) (either_room after) ready.turn_one.low ready.there added

  roomy : HasAllRoom journal (either_holds (pair_of s t)) (either_at after) (either_room after)
  roomy =
      room_behind journal (either_holds (pair_of s t)) (either_at (pair_of s t)) (either_at after) (either_room (pair_of s t)) (either_room after)
      (brings journal i (at (settled_first journal (i - 1)).entries)).entries ready.roomy added

  pub one_behind : (names : List Receipt) (taken : ℕ) (scratch : ScratchRoom) → journal ≡ names → taken ≡ s.taken + 1 → scratch ≡ s.scratch
      → IsBehindLock names (record { folio = s.folio; taken = taken; parts = after.first; scratch = scratch })
  one_behind names taken scratch named count same =
      behind_named names journal s i taken after.first scratch named ready.one ready.turn_one count one_held
      (at_first (λ k es r. es ≡ at (settled_first journal i).entries k) (is_held s.parts) (is_held t.parts) (is_held after.first) (entries_at after.first) (entries_at after.second) (room_at after.first) (room_at after.second)
      one_held stands)
      (at_first (λ k es r. room_of_first journal (length journal) k ≤ length es + r) (is_held s.parts) (is_held t.parts) (is_held after.first) (entries_at after.first) (entries_at after.second) (room_at after.first)
      (room_at after.second) one_held roomy)
      same

  pub other_behind : (names : List Receipt) (taken : ℕ) → journal ≡ names → taken ≡ t.taken + 1 → IsBehindLock names (record { folio = t.folio; taken = taken; parts = after.second; scratch = t.scratch })
  other_behind names taken named count =
      behind_named names journal t i taken after.second t.scratch named ready.other ready.turn_other count other_held
      (at_second (λ k es r. es ≡ at (settled_first journal i).entries k) (is_held s.parts) (is_held t.parts) (is_held after.first) (entries_at after.first) (entries_at after.second) (room_at after.first) (room_at after.second)
      ready.apart one_held stands)
      (at_second (λ k es r. room_of_first journal (length journal) k ≤ length es + r) (is_held s.parts) (is_held t.parts) (is_held after.first) (entries_at after.first) (entries_at after.second) (room_at after.first)
      (room_at after.second) ready.apart one_held roomy)
      refl

pub pair_behind : (names journal : List Receipt) (s t : FolioState) (i taken_one taken_other : ℕ) (before after : PairState) (parts_one parts_other : List PartState) (scratch : ScratchRoom) → journal ≡ names
    → ArePairReady journal s t before i → taken_one ≡ s.taken + 1 → taken_other ≡ t.taken + 1 → parts_one ≡ after.first → parts_other ≡ after.second → AreApart (is_held parts_one) (is_held parts_other)
    → either_holds after ≡ either_holds before
    → AddsList (either_at before) (either_at after) (either_room before) (either_room after) (brings journal i (at (settled_first journal (i - 1)).entries)).entries → scratch ≡ s.scratch
    → AreBehind names s t taken_one taken_other parts_one parts_other scratch
pair_behind names journal s t i taken_one taken_other before after parts_one parts_other scratch named ready count_one count_other one_is other_is apart held added same =
    let brought = (brings journal i (at (settled_first journal (i - 1)).entries)).entries in
    let ready_of = subst (λ p. ArePairReady journal s t p i) ready.pair_is ready in
    let held_of = subst (λ p. either_holds after ≡ either_holds p) ready.pair_is held in
    let added_of = subst (λ p. AddsList (either_at p) (either_at after) (either_room p) (either_room after) brought) ready.pair_is added in
    let apart_of : AreApart (is_held after.first) (is_held after.second) =
    subst (λ ps. AreApart (is_held ps) (is_held after.second)) one_is (subst (λ ps. AreApart (is_held parts_one) (is_held ps)) other_is apart) in
    record {
      one = subst (λ ps. IsBehindLock names (record { folio = s.folio; taken = taken_one; parts = ps; scratch = scratch })) (sym one_is)
          (one_behind journal s t i after ready_of apart_of held_of added_of names taken_one scratch named count_one same);
      other = subst (λ ps. IsBehindLock names (record { folio = t.folio; taken = taken_other; parts = ps; scratch = t.scratch })) (sym other_is)
          (other_behind journal s t i after ready_of apart_of held_of added_of names taken_other named count_other);
    }
