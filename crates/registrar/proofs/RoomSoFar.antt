-- Keys are held and get their room one after another.
use Rattle.std.proofs.Common.{◌≡◌, ℕ, suc, zero, ◌+◌, ◌<◌, ◌≤◌, Bool, true, false, ◌||◌, List, [], ◌∷◌, ◌++◌, length, get_or, take, Contains, refl, sym, ap, subst, ◌∙◌, ⊎_elim, arith}
use Rattle.std.proofs.lemmas.Bool.{cases_eq, false≢true}
use Rattle.std.proofs.lemmas.Grind.{take_at_read}
use Rattle.std.proofs.lemmas.List.{get_or_default, take_all}
use Rattle.std.proofs.lemmas.List.Folds.{list_any-append}
use Rattle.gb_base.specs.Keys.{same_key}
use Rattle.gb_base.specs.declared.keys.Key.{Key}
use Rattle.folio_sections.specs.Held.{WidensBy, entries_at, is_given, is_held, room_at}
use Rattle.folio_sections.specs.PartState.{PartState}
use Rattle.folio_sections.proofs.WiderKeys.{held_then, held_too}
use Rattle.registrar.specs.Rooms.{most_brought}

-- the first of these keys are held too, and have room for what an item may bring; no entry has changed, and no key has less room
pub record RoomSoFar (before parts : List PartState) (keys : List Key) (done : ℕ) : Type 0 where
  pub entries : entries_at parts ≡ entries_at before
  pub held : (k : Key) → is_held parts k ≡ (is_held before k || is_given (take done keys) k)
  pub room : (i : ℕ) (d : Key) → i < done → length (entries_at before (get_or keys i d)) + most_brought ≤ room_at parts (get_or keys i d)
  pub kept : (k : Key) → room_at before k ≤ room_at parts k

or_nothing : (b : Bool) → (b || false) ≡ b
or_nothing true = refl
or_nothing false = refl

or_in_turn : (a b c : Bool) → ((a || b) || c) ≡ (a || (b || c))
or_in_turn true b c = refl
or_in_turn false b c = refl

pub room_at_none : (parts : List PartState) (keys : List Key) → RoomSoFar parts parts keys 0
room_at_none parts keys = record { entries = refl; held = λ k. sym (or_nothing (is_held parts k)); room = λ i d less. absurd (omega arith); kept = λ k. omega arith }

given_next : (keys : List Key) (i : ℕ) (key k : Key) → i < length keys → key ≡ get_or keys i key → is_given (take (i + 1) keys) k ≡ (is_given (take i keys) k || same_key key k)
given_next keys i key k within is =
    ap (λ ks. is_given ks k) ((take_at_read keys i key within).1 ∙ ap (λ j. take i keys ++ j ∷ []) (sym is))
    ∙ list_any-append (λ j. same_key j k) (take i keys) (key ∷ [])
    ∙ ap (λ b. is_given (take i keys) k || b) (or_nothing (same_key key k))

-- one key more is held, and has its room
pub room_at_next : (before parts after : List PartState) (keys : List Key) (i : ℕ) (key : Key) → RoomSoFar before parts keys i → i < length keys → key ≡ get_or keys i key
    → ((k : Key) → is_held after k ≡ (is_held parts k || same_key key k)) → entries_at after ≡ entries_at parts
    → length (entries_at after key) + most_brought ≤ room_at after key → ((k : Key) → room_at parts k ≤ room_at after k) → RoomSoFar before after keys (i + 1)
room_at_next before parts after keys i key so_far within is holds entries room kept =
    let here : length (entries_at before key) + most_brought ≤ room_at after key = subst (λ f. length (f key) + most_brought ≤ room_at after key) (entries ∙ so_far.entries) room in
    record {
      entries = entries ∙ so_far.entries;
      held = λ k. holds k ∙ ap (λ b. b || same_key key k) (so_far.held k) ∙ or_in_turn (is_held before k) (is_given (take i keys) k) (same_key key k)
          ∙ ap (λ b. is_held before k || b) (sym (given_next keys i key k within is));
      room = λ j d less.
          ⊎_elim
          (λ same_place.
          let key_is : key ≡ get_or keys j d = is ∙ get_or_default keys i key d within ∙ ap (λ n. get_or keys n d) (sym same_place) in
          subst (λ k. length (entries_at before k) + most_brought ≤ room_at after k) key_is here)
          (λ other.
          let earlier = so_far.room j d (omega (arith, other)) in
          let more = kept (get_or keys j d) in
          omega arith)
          (cases_eq j i);
      kept = λ k. let first = so_far.kept k in let last = kept k in omega arith;
    }

-- ---- no other key is added

left_no : (a b : Bool) → (a || b) ≡ false → a ≡ false
left_no false b none = refl
left_no true b none = none

right_no : (a b : Bool) → (a || b) ≡ false → b ≡ false
right_no false b none = none
right_no true b none = absurd (false≢true (sym none))

none_of_first : (i : ℕ) (keys : List Key) (k : Key) → is_given keys k ≡ false → is_given (take i keys) k ≡ false
none_of_first zero keys k none = refl
none_of_first (suc i) [] k none = refl
none_of_first (suc i) (key ∷ keys) k none =
    ap (λ b. b || is_given (take i keys) k) (left_no (same_key key k) (is_given keys k) none)
    ∙ none_of_first i keys k (right_no (same_key key k) (is_given keys k) none)

-- no key but these is added, also where one key more may have been
pub widens_next : (before parts after : List PartState) (keys : List Key) (i : ℕ) (key : Key) → RoomSoFar before parts keys i → i < length keys → key ≡ get_or keys i key
    → WidensBy (same_key key) parts after → WidensBy (is_given keys) before after
widens_next before parts after keys i key so_far within is wide =
    let neither : (k : Key) → is_given keys k ≡ false → (is_given (take i keys) k || same_key key k) ≡ false = λ k other. sym (given_next keys i key k within is) ∙ none_of_first (i + 1) keys k other in
    held_then (is_given keys) (is_given (take i keys)) (same_key key) before parts after
    (λ k other. left_no (is_given (take i keys) k) (same_key key k) (neither k other))
    (λ k other. right_no (is_given (take i keys) k) (same_key key k) (neither k other))
    (held_too (is_given (take i keys)) before parts so_far.held) wide

-- ---- all keys

pub held_all : (before parts : List PartState) (keys : List Key) (done : ℕ) (k : Key) → RoomSoFar before parts keys done → length keys ≤ done → is_held parts k ≡ (is_held before k || is_given keys k)
held_all before parts keys done k so_far last = so_far.held k ∙ ap (λ ks. is_held before k || is_given ks k) (take_all done keys last)

pub widens_all : (before parts : List PartState) (keys : List Key) (done : ℕ) → RoomSoFar before parts keys done → length keys ≤ done → WidensBy (is_given keys) before parts
widens_all before parts keys done so_far last = held_too (is_given keys) before parts (λ k. held_all before parts keys done k so_far last)

pub room_at_all : (before parts : List PartState) (keys : List Key) (done : ℕ) (k : Key) → RoomSoFar before parts keys done → length keys ≤ done → Contains keys k
    → length (entries_at parts k) + most_brought ≤ room_at parts k
room_at_all before parts keys done k so_far last there =
    subst (λ f. length (f k) + most_brought ≤ room_at parts k) (sym so_far.entries)
    (subst (λ x. length (entries_at before x) + most_brought ≤ room_at parts x) there.2 (so_far.room there.0 k (omega (arith, there.1))))
