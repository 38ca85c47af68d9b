-- Parts that are taken over key by key, each from the parts of its folio.
use Rattle.std.proofs.Common.{◌≡◌, ⊎_elim, ℕ, zero, suc, ◌+◌, ◌<◌, ◌≤◌, ◌==◌, ◌&&◌, ◌||◌, true, false, List, [], ◌∷◌, All, AllPairs, IsTrue, length, map, set, get_or, Option, Some, None, option_map, slice_get, refl, sym, ap, subst, ◌∙◌, arith}
use Rattle.std.proofs.lemmas.Bool.{cases_Bool, cases_eq, cases_lt, or_right, true≢false}
use Rattle.std.proofs.lemmas.List.{length-set}
use Rattle.std.proofs.lemmas.Option.{slice_get-get_or}
use Rattle.gb_base.specs.Keys.{folio_of_key, same_key}
use Rattle.gb_base.specs.declared.keys.Key.{Key}
use Rattle.act_model.proofs.KeyOrder.{itself, same_is}
use Rattle.act_model.specs.declared.receipts.Receipt.{Receipt}
use Rattle.folio_sections.specs.Entries.{at}
use Rattle.folio_sections.specs.Exchanged.{TakesAt}
use Rattle.folio_sections.specs.Held.{entries_at, is_given, is_held, room_at}
use Rattle.folio_sections.specs.PartState.{PartState}
use Rattle.registrar.specs.HeldKeys.{keys_of_first}
use Rattle.registrar.specs.Settling.{registrar}
use Rattle.desk_pool.specs.FolioQueues.{is_key_of}
use Rattle.desk_pool.specs.FolioStates.{HasAllRoom}
use Rattle.desk_pool.specs.RoundRooms.{room_of_first}
use Rattle.desk_pool.specs.declared.folio_parts.KeyRoom.{KeyRoom}
use Rattle.desk_pool.specs.declared.folio_queues.FolioQueue.{FolioQueue}
use Rattle.desk_pool.specs.inner.FoliosBack.{AllBack, AreAllKeys, AreSettled, StandsSettled}
use Rattle.desk_pool.specs.inner.TakenOver.{IsHeldInFolio, IsTakenOver}
use Rattle.desk_pool.proofs.AllComplete.{given_listed}
use Rattle.desk_pool.proofs.BuiltQueues.{same_number}
use Rattle.desk_pool.proofs.FoliosInRow.{found_within}
use Rattle.desk_pool.proofs.Saying.{same_inside, written_apart, written_there}

-- ---- one key

-- The parts have place at the key; and where a premise holds, they have what the one registrar leaves there.
pub record IsBackAt (journal : List Receipt) (P : Type 0) (parts : List PartState) (k : Key) : Type 0 where
  pub stands : P → entries_at parts k ≡ at (registrar journal).entries k
  pub room : room_of_first journal (length journal) k ≤ length (entries_at parts k) + room_at parts k

-- The parts of the key's folio have place at the key; and where a premise holds, they have what the one registrar leaves there.
abbrev pub IsBackFor : List Receipt → Type 0 → List FolioQueue → List (List PartState) → Key → Type 0
IsBackFor journal P queues back k =
    (place : ℕ) (parts : List PartState) → option_map (λ q. q.folio) (slice_get queues place) ≡ Some (folio_of_key k) → slice_get back place ≡ Some parts → IsBackAt journal P parts k

-- what was taken over is back at its key
taken_back : (journal : List Receipt) (P : Type 0) (parts after from : List PartState) (key : Key) → TakesAt parts after from key → IsBackAt journal P from key → IsBackAt journal P after key
taken_back journal P parts after from key takes back =
    let places = takes.room in
    let enough = back.room in
    let entries : length (entries_at after key) ≡ length (entries_at from key) = ap length takes.there in
    record { stands = λ p. takes.there ∙ back.stands p; room = omega (arith, entries, places, enough) }

-- at the other keys the parts stay as they were
back_elsewhere : (journal : List Receipt) (P : Type 0) (parts after from : List PartState) (key : Key) → TakesAt parts after from key
    → (k : Key) → same_key key k ≡ false → IsBackAt journal P parts k → IsBackAt journal P after k
back_elsewhere journal P parts after from key takes k apart back =
    let entries : length (entries_at after k) ≡ length (entries_at parts k) = ap length (takes.elsewhere k apart) in
    let places = takes.elsewhere_room k apart in
    let enough = back.room in
    record { stands = λ p. takes.elsewhere k apart ∙ back.stands p; room = omega (arith, entries, places, enough) }

-- the parts of each folio are still back at the other keys
back_later : (journal : List Receipt) (P : Type 0) (queues : List FolioQueue) (parts after : List PartState) (back left : List (List PartState)) (key k : Key) → IsTakenOver queues parts after back left key
    → same_key key k ≡ false → IsBackFor journal P queues back k → IsBackFor journal P queues left k
back_later journal P queues parts after back left key k over apart are = λ at found folio here.
    let there : slice_get (set back over.place over.given) at ≡ Some found = ap (λ ps. slice_get ps at) (sym over.left_is) ∙ here in
    ⊎_elim
    (λ same.
    let is : over.given ≡ found =
    same_inside over.given found (sym (written_there back over.place over.given (found_within back over.place over.from over.there)) ∙ ap (slice_get (set back over.place over.given)) (sym same) ∙ there) in
    subst (λ ps. IsBackAt journal P ps k) is (back_elsewhere journal P over.from over.given parts key over.gives k apart (are at over.from folio (ap (slice_get back) same ∙ over.there))))
    (λ other. are at found folio (sym (written_apart back over.place at over.given other) ∙ there))
    (cases_eq at over.place)

-- ---- all keys

-- the parts of each folio are held at the folio's keys
abbrev pub AreHeldBack : List Receipt → List FolioQueue → List (List PartState) → Type 0
AreHeldBack journal queues back =
    (place : ℕ) (folio : ℕ) (parts : List PartState) → option_map (λ q. q.folio) (slice_get queues place) ≡ Some folio → slice_get back place ≡ Some parts → (k : Key) → is_held parts k ≡ is_key_of journal folio k

-- The first i keys are taken over, and the others are still back in the parts of their folios.
pub record AreTakenOver (journal : List Receipt) (P : Type 0) (queues : List FolioQueue) (before parts : List PartState) (lent : List (List PartState)) (keys : List KeyRoom) (i : ℕ) : Type 0 where
  pub held : is_held parts ≡ is_held before
  pub count : length lent ≡ length queues
  pub lent_held : AreHeldBack journal queues lent
  pub taken : (j : ℕ) (d : KeyRoom) → j < i → IsBackAt journal P parts (get_or keys j d).key
  pub back : (j : ℕ) (d : KeyRoom) → i ≤ j → j < length keys → IsBackFor journal P queues lent (get_or keys j d).key

-- where the queue at a place is of the folio, there is a queue, and it has the folio's number
queued : (o : Option FolioQueue) (folio : ℕ) → option_map (λ q. q.folio) o ≡ Some folio → (queue : FolioQueue) × (o ≡ Some queue) × (queue.folio ≡ folio)
queued None folio is = absurd (grind (arith, is))
queued (Some queue) folio is = (queue, refl, same_inside queue.folio folio is)

-- an element that is found at a place is the one that is read there
found_is : {X : Type 0} (xs : List X) (i : ℕ) (d x : X) → slice_get xs i ≡ Some x → get_or xs i d ≡ x
found_is xs i d x there = same_inside (get_or xs i d) x (sym (slice_get-get_or xs i d (found_within xs i x there)) ∙ there)

-- the key of an element of the list is given among its keys
key_given : (keys : List KeyRoom) (i : ℕ) (d : KeyRoom) → i < length keys → is_given (map (λ w. w.key) keys) (get_or keys i d).key ≡ true
key_given [] i d within = absurd (omega arith)
key_given (w ∷ ws) zero d within = ap (λ b. b || is_given (map (λ v. v.key) ws) w.key) (itself w.key)
key_given (w ∷ ws) (suc i) d within = or_right (same_key w.key (get_or ws i d).key) (is_given (map (λ v. v.key) ws) (get_or ws i d).key) (key_given ws i d (omega arith))

-- the parts of a folio have place at each of its keys that the journal's items touch
back_at_start : (journal : List Receipt) (queues : List FolioQueue) (back : List (List PartState)) (k : Key) → AllBack journal queues back → is_given (keys_of_first journal (length journal)) k ≡ true
    → IsBackFor journal (AreSettled journal back) queues back k
back_at_start journal queues back k all given = λ place parts folio there.
    let q = queued (slice_get queues place) (folio_of_key k) folio in
    let are = all.parts_are place q.0 parts q.1 there in
    let held : is_held parts k ≡ true = are.held k ∙ ap (λ f. (folio_of_key k == f) && is_given (keys_of_first journal (length journal)) k) q.2 ∙ ap (λ b. b && is_given (keys_of_first journal (length journal)) k) (same_number (folio_of_key k)) ∙ given in
    record {
      stands = λ settled. subst (StandsSettled journal) (found_is back place parts parts there) (settled place parts (found_within back place parts there)) k held;
      room = are.room k held;
    }

pub none_taken_over : (journal : List Receipt) (queues : List FolioQueue) (parts : List PartState) (back : List (List PartState)) (keys : List KeyRoom) → AllBack journal queues back → AreAllKeys journal keys
    → AreTakenOver journal (AreSettled journal back) queues parts parts back keys 0
none_taken_over journal queues parts back keys all are =
    record {
      held = refl;
      count = all.count;
      lent_held = λ place folio found is there k.
          let q = queued (slice_get queues place) folio is in
          (all.parts_are place q.0 found q.1 there).held k ∙ ap (λ f. is_key_of journal f k) q.2;
      taken = λ j d below. absurd (omega (arith, below));
      back = λ j d above within. back_at_start journal queues back (get_or keys j d).key all (sym (are.all (get_or keys j d).key) ∙ key_given keys j d within);
    }

-- within a list the element read does not depend on the default
any_default : {X : Type 0} (xs : List X) (i : ℕ) (d e : X) → i < length xs → get_or xs i d ≡ get_or xs i e
any_default xs i d e within = same_inside (get_or xs i d) (get_or xs i e) (sym (slice_get-get_or xs i d within) ∙ slice_get-get_or xs i e within)

apart_back : (j k : Key) → same_key j k ≡ false → same_key k j ≡ false
apart_back j k apart =
    ⊎_elim (λ same. absurd (true≢false (sym (itself k) ∙ ap (λ x. same_key x k) (same_is k j same) ∙ apart))) (λ other. other) (cases_Bool (same_key k j))

-- parts that were exchanged at a key still have the folio's keys
held_later : (journal : List Receipt) (queues : List FolioQueue) (parts after : List PartState) (back left : List (List PartState)) (key : Key) → IsTakenOver queues parts after back left key
    → AreHeldBack journal queues back → AreHeldBack journal queues left
held_later journal queues parts after back left key over are = λ at folio found is here k.
    let there : slice_get (set back over.place over.given) at ≡ Some found = ap (λ ps. slice_get ps at) (sym over.left_is) ∙ here in
    ⊎_elim
    (λ same.
    let given : over.given ≡ found =
    same_inside over.given found (sym (written_there back over.place over.given (found_within back over.place over.from over.there)) ∙ ap (slice_get (set back over.place over.given)) (sym same) ∙ there) in
    ap (λ ps. is_held ps k) (sym given) ∙ (λ j. over.gives.held j k) ∙ are at folio over.from is (ap (slice_get back) same ∙ over.there) k)
    (λ other. are at folio found is (sym (written_apart back over.place at over.given other) ∙ there) k)
    (cases_eq at over.place)

-- one key more is taken over
pub one_more_taken : (journal : List Receipt) (P : Type 0) (queues : List FolioQueue) (before parts after : List PartState) (lent left : List (List PartState)) (keys : List KeyRoom) (i : ℕ) (w : KeyRoom)
    → AllPairs (λ v later. same_key v.key later.key ≡ false) keys → i < length keys → w ≡ get_or keys i w → AreTakenOver journal P queues before parts lent keys i
    → IsTakenOver queues parts after lent left w.key → AreTakenOver journal P queues before after left keys (i + 1)
one_more_taken journal P queues before parts after lent left keys i w apart within is so_far over =
    let own : (d : KeyRoom) → w ≡ get_or keys i d = λ d. is ∙ any_default keys i w d within in
    record {
      held = over.takes.held ∙ so_far.held;
      count = ap length over.left_is ∙ length-set lent over.place over.given ∙ so_far.count;
      lent_held = held_later journal queues parts after lent left w.key over so_far.lent_held;
      taken = λ j d below.
          ⊎_elim
          (λ earlier.
          let other : same_key w.key (get_or keys j d).key ≡ false = apart_back (get_or keys j d).key w.key (ap (λ v. same_key (get_or keys j d).key v.key) (own d) ∙ apart j i d earlier within) in
          back_elsewhere journal P parts after over.from w.key over.takes (get_or keys j d).key other (so_far.taken j d earlier))
          (λ last.
          let same : j ≡ i = omega (arith, last, below) in
          let there : w ≡ get_or keys j d = own d ∙ ap (λ n. get_or keys n d) (sym same) in
          let from : IsBackAt journal P over.from w.key =
          subst (λ v. IsBackFor journal P queues lent v.key) (sym (own d)) (so_far.back i d (omega arith) within) over.place over.from over.folio over.there in
          subst (λ v. IsBackAt journal P after v.key) there (taken_back journal P parts after over.from w.key over.takes from))
          (cases_lt j i);
      back = λ j d above inside.
          back_later journal P queues parts after lent left w.key (get_or keys j d).key over (ap (λ u. same_key u.key (get_or keys j d).key) (own d) ∙ apart i j d (omega (arith, above)) inside)
          (so_far.back j d (omega (arith, above)) inside);
    }

-- ---- all are taken over

module _ (journal : List Receipt) (P : Type 0) (queues : List FolioQueue) (before parts : List PartState) (lent : List (List PartState)) (keys : List KeyRoom) (i : ℕ)
    (given : (k : Key) → is_held before k ≡ is_given (keys_of_first journal (length journal)) k) (are : AreAllKeys journal keys) (whole : length keys ≤ i)
    (over : AreTakenOver journal P queues before parts lent keys i) where
  each : All (λ w. IsBackAt journal P parts w.key) keys
  each = λ j d within. over.taken j d (omega (arith, within, whole))

  at_held : (k : Key) → IsTrue (is_held parts k) → IsBackAt journal P parts k
  at_held k held = given_listed keys k (IsBackAt journal P parts) (are.all k ∙ sym (given k) ∙ sym (λ j. over.held j k) ∙ held) each

  pub room_taken : HasAllRoom journal (is_held parts) (entries_at parts) (room_at parts)
  room_taken = λ k held. (at_held k held).room

  pub settled_taken : P → StandsSettled journal parts
  settled_taken settled = λ k held. (at_held k held).stands settled

-- ---- what one key needs

-- at a place within a list something is found
there_within : {X : Type 0} (xs : List X) (i : ℕ) → i < length xs → (x : X) × (slice_get xs i ≡ Some x)
there_within [] i within = absurd (omega arith)
there_within (x ∷ xs) zero within = (x, refl)
there_within (x ∷ xs) (suc i) within = there_within xs i (omega arith)

pub held_in_folio : (journal : List Receipt) (P : Type 0) (queues : List FolioQueue) (before parts : List PartState) (lent : List (List PartState)) (keys : List KeyRoom) (i : ℕ) (k : Key)
    → AreTakenOver journal P queues before parts lent keys i → is_given (keys_of_first journal (length journal)) k ≡ true → IsHeldInFolio queues lent k
held_in_folio journal P queues before parts lent keys i k over given = λ place folio.
    let q = queued (slice_get queues place) (folio_of_key k) folio in
    let within = found_within queues place q.0 q.1 in
    let count = over.count in
    let parts_there = there_within lent place (omega (arith, within, count)) in (
      parts_there.0,
      parts_there.1,
      over.lent_held place (folio_of_key k) parts_there.0 folio parts_there.1 k
          ∙ ap (λ b. b && is_given (keys_of_first journal (length journal)) k) (same_number (folio_of_key k))
          ∙ given,
    )

-- the key of an element of the list is one that the journal's items touch
pub given_at_place : (journal : List Receipt) (keys : List KeyRoom) (i : ℕ) (w : KeyRoom) → AreAllKeys journal keys → i < length keys → w ≡ get_or keys i w → is_given (keys_of_first journal (length journal)) w.key ≡ true
given_at_place journal keys i w are within is =
    subst (λ v. is_given (keys_of_first journal (length journal)) v.key ≡ true) (sym is) (sym (are.all (get_or keys i w).key) ∙ key_given keys i w within)
