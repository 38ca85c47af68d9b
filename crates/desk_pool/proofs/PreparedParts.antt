-- Parts with room at the keys of a list, and the lists of keys of a map of rooms.
use Rattle.std.proofs.Common.{◌≡◌, ⊎_elim, ℕ, suc, ◌+◌, ◌<◌, ◌≤◌, Bool, true, false, cond, ◌&&◌, ◌||◌, ◌==◌, List, [], ◌∷◌, ◌++◌, Option, Some, None, Result, Ok, Err, IfOk, All, IsTrue, find, get_or, is_some, length, map, take, refl, sym, ap, subst, ◌∙◌, arith}
use Rattle.std.specs.BTreeMap.{BTreeMap, IsOrdered, get, is_at}
use Rattle.std.specs.BTreeMap.Range.{IsLeBy, range_contains}
use Rattle.std.specs.Map.{lookup}
use Rattle.std.specs.Option.{option_map_or}
use Rattle.std.specs.declared.ops.Bound.TheVariants.{Included}
use Rattle.std.proofs.lemmas.Bool.{cases_eq, false≢true, or_right}
use Rattle.std.proofs.lemmas.Bool.Decides.{nat_tests}
use Rattle.std.proofs.lemmas.Cmp.{eq_by_cmp_equiv}
use Rattle.std.proofs.lemmas.Grind.{take_at_read}
use Rattle.std.proofs.lemmas.List.{get_or-map, get_or_default, length-map}
use Rattle.std.proofs.lemmas.List.Elements.{All-filter}
use Rattle.std.proofs.lemmas.List.Folds.{list_any-append}
use Rattle.std.proofs.lemmas.Map.Entries.{btree_map_get_place, lookup-filter-keys}
use Rattle.std.proofs.lemmas.Option.{slice_get-get_or}
use Rattle.gb_base.specs.Keys.{folio_of_key, key_cmp, same_key}
use Rattle.gb_base.specs.declared.keys.Key.{Key}
use Rattle.gb_base.specs.declared.keys.Key.TheVariants.{Case, Right, Title}
use Rattle.act_model.proofs.KeyOrder.{itself, same_is, ties, total}
use Rattle.desk_pool.proofs.BuiltQueues.{or_none}
use Rattle.desk_pool.specs.declared.folio_parts.KeyRoom.{KeyRoom}
use Rattle.desk_pool.specs.inner.KeyRooms.{room_in}
use Rattle.desk_pool.specs.inner.PartsPrepared.{ArePartsFor, AreRoomsAt, room_of_entry}
use Rattle.folio_sections.specs.Held.{entries_at, is_given, is_held, room_at}
use Rattle.folio_sections.specs.PartState.{PartState}
use Rattle.folio_sections.specs.inner.RightsInKeys.{entries_from_to}

-- ---- part by part

abbrev pub key_of : KeyRoom → Key
key_of r = r.key

-- The first so many of these keys are held, and nothing stands in them.
pub record AreHeldSoFar (parts : List PartState) (keys : List KeyRoom) (done : ℕ) : Type 0 where
  pub held : (k : Key) → is_held parts k ≡ is_given (map key_of (take done keys)) k
  pub empty : (k : Key) → entries_at parts k ≡ []

-- The first so many of these keys are held and empty, and have their room.
pub record HeldSoFar (parts : List PartState) (keys : List KeyRoom) (done : ℕ) : Type 0 where
  pub so_far : AreHeldSoFar parts keys done
  pub room : (i : ℕ) (d : KeyRoom) → i < done → (get_or keys i d).room ≤ room_at parts (get_or keys i d).key

none_stands : (parts : List PartState) (k : Key) → All (λ p. p.entries ≡ []) parts → option_map_or (λ (p : PartState). p.entries) (find (λ p. same_key p.key k) parts) [] ≡ []
none_stands [] k empty = refl
none_stands (p ∷ ps) k empty =
    elim (same_key p.key k) as (λ b. option_map_or (λ (q : PartState). q.entries) (cond b (Some p) (find (λ q. same_key q.key k) ps)) [] ≡ []) [
      | true ↦ empty 0 p (omega arith)
      | false ↦ none_stands ps k (λ i d within. empty (suc i) d (omega (arith, within)))
    ]

pub none_held : (parts : List PartState) (keys : List KeyRoom) → ((k : Key) → is_held parts k ≡ is_given [] k) → All (λ p. p.entries ≡ []) parts → AreHeldSoFar parts keys 0
none_held parts keys holds empty = record { held = holds; empty = λ k. none_stands parts k empty }

pub held_none : (parts : List PartState) (keys : List KeyRoom) → ((k : Key) → is_held parts k ≡ is_given [] k) → All (λ p. p.entries ≡ []) parts → HeldSoFar parts keys 0
held_none parts keys holds empty = record { so_far = none_held parts keys holds empty; room = λ i d less. absurd (omega (arith, less)) }

map_both : (xs ys : List KeyRoom) → map key_of (xs ++ ys) ≡ map key_of xs ++ map key_of ys
map_both [] ys = refl
map_both (x ∷ xs) ys = ap (λ rest. key_of x ∷ rest) (map_both xs ys)

given_next : (keys : List KeyRoom) (i : ℕ) (r : KeyRoom) (k : Key) → i < length keys → r ≡ get_or keys i r
    → is_given (map key_of (take (i + 1) keys)) k ≡ (is_given (map key_of (take i keys)) k || same_key r.key k)
given_next keys i r k within is =
    ap (λ rs. is_given (map key_of rs) k) ((take_at_read keys i r within).1 ∙ ap (λ x. take i keys ++ x ∷ []) (sym is))
    ∙ ap (λ ks. is_given ks k) (map_both (take i keys) (r ∷ []))
    ∙ list_any-append (λ j. same_key j k) (map key_of (take i keys)) (r.key ∷ [])
    ∙ ap (λ b. is_given (map key_of (take i keys)) k || b) (or_none (same_key r.key k))

pub one_more_held : (parts held : List PartState) (keys : List KeyRoom) (i : ℕ) (r : KeyRoom) → AreHeldSoFar parts keys i → i < length keys → r ≡ get_or keys i r
    → ((k : Key) → is_held held k ≡ (is_held parts k || same_key r.key k)) → entries_at held ≡ entries_at parts → AreHeldSoFar held keys (i + 1)
one_more_held parts held keys i r so_far within is holds stays = record {
  held = λ k. holds k ∙ ap (λ b. b || same_key r.key k) (so_far.held k) ∙ sym (given_next keys i r k within is);
  empty = λ k. ap (λ f. f k) stays ∙ so_far.empty k;
}

pub held_next : (parts held after : List PartState) (keys : List KeyRoom) (i : ℕ) (r : KeyRoom) → HeldSoFar parts keys i → i < length keys → r ≡ get_or keys i r
    → ((k : Key) → is_held held k ≡ (is_held parts k || same_key r.key k)) → entries_at held ≡ entries_at parts → ((k : Key) → room_at parts k ≤ room_at held k)
    → is_held after ≡ is_held held → entries_at after ≡ entries_at held → (IsTrue (is_held after r.key) → r.room ≤ room_at after r.key)
    → ((k : Key) → room_at held k ≤ room_at after k) → HeldSoFar after keys (i + 1)
held_next parts held after keys i r so_far within is holds stays wider same entries room kept =
    let there : IsTrue (is_held after r.key) = subst IsTrue (sym (ap (λ f. f r.key) same ∙ holds r.key)) (or_right (is_held parts r.key) (same_key r.key r.key) (itself r.key)) in
    let here : r.room ≤ room_at after r.key = room there in
    record {
      so_far = one_more_held parts after keys i r so_far.so_far within is (λ k. ap (λ f. f k) same ∙ holds k) (entries ∙ stays);
      room = λ j d less.
          ⊎_elim
          (λ same_place.
          let key_is : r ≡ get_or keys j d = is ∙ get_or_default keys i r d within ∙ ap (λ n. get_or keys n d) (sym same_place) in
          subst (λ (x : KeyRoom). x.room ≤ room_at after x.key) key_is here)
          (λ other.
          let earlier = so_far.room j d (omega (arith, other, less)) in
          let more = wider (get_or keys j d).key in
          let further = kept (get_or keys j d).key in
          omega (arith, earlier, more, further))
          (cases_eq j i);
    }

-- ---- parts for those keys of a map that pass a test

-- a key that is given among these has an element with its room
pub in_list : (P : KeyRoom → Type 0) (list : List KeyRoom) (k : Key) → All P list → is_given (map key_of list) k ≡ true → (r : KeyRoom) × (P r × (r.key ≡ k))
in_list P [] k all there = absurd (false≢true there)
in_list P (r ∷ rs) k all there =
    elim (same_key r.key k) as (λ b. same_key r.key k ≡ b → (b || is_given (map key_of rs) k) ≡ true → (x : KeyRoom) × (P x × (x.key ≡ k))) [
      | true ↦ λ e _. (r, (all 0 r (omega arith), same_is r.key k e))
      | false ↦ λ e h. in_list P rs k (λ i d within. all (suc i) d (omega (arith, within))) h
    ] refl there

pub parts_for : (rooms : BTreeMap Key ℕ) (wanted : Key → Bool) (list : List KeyRoom) (parts : List PartState) → AreRoomsAt rooms wanted list
    → ((k : Key) → is_held parts k ≡ is_given (map key_of list) k) → ((k : Key) → entries_at parts k ≡ []) → All (λ r. r.room ≤ room_at parts r.key) list → ArePartsFor rooms wanted parts
parts_for rooms wanted list parts are held empty room = record {
  held = λ k. held k ∙ are.keys k;
  empty = empty;
  room = λ k there.
      let both = in_list (λ r. (room_in rooms r.key ≡ r.room) × (r.room ≤ room_at parts r.key)) list k (λ i d within. (are.rooms_are i d within, room i d within)) (sym (held k) ∙ there) in
      subst (λ j. room_in rooms j ≤ room_at parts j) both.1.1 (omega (arith, both.1.0.0, both.1.0.1));
}

pub parts_on_ok : {Y : Type 0} (rooms : BTreeMap Key ℕ) (wanted : Key → Bool) (list : List KeyRoom) (r : Result (List PartState) Y) → AreRoomsAt rooms wanted list
    → IfOk r (λ parts. (k : Key) → is_held parts k ≡ is_given (map key_of list) k) → IfOk r (λ parts. (k : Key) → entries_at parts k ≡ [])
    → IfOk r (λ parts. All (λ x. x.room ≤ room_at parts x.key) list) → IfOk r (ArePartsFor rooms wanted)
parts_on_ok rooms wanted list (Ok parts) are held empty room = parts_for rooms wanted list parts are held empty room
parts_on_ok rooms wanted list (Err e) are held empty room = tt

-- ---- the keys of a map

tied_either_way : (j k : Key) → same_key j k ≡ is_at (key_cmp k) j
tied_either_way j k = ties j k ∙ (eq_by_cmp_equiv total).symm j k

given_is : (es : List (Key × ℕ)) (k : Key) → is_given (map key_of (map room_of_entry es)) k ≡ is_some (lookup (is_at (key_cmp k)) es)
given_is [] k = refl
given_is (e ∷ es) k =
    ap (λ b. b || is_given (map key_of (map room_of_entry es)) k) (tied_either_way e.0 k)
    ∙ elim (is_at (key_cmp k) e.0) as (λ b. (b || is_given (map key_of (map room_of_entry es)) k) ≡ is_some (cond b (Some e.1) (lookup (is_at (key_cmp k)) es))) [
      | true ↦ refl
      | false ↦ given_is es k
    ]

entries_found : (rooms : BTreeMap Key ℕ) → IsOrdered key_cmp rooms → All (λ e. room_in rooms e.0 ≡ e.1) rooms.entries
entries_found rooms ordered = λ i d within.
    let e = get_or rooms.entries i d in
    ap (λ o. option_map_or (λ (n : ℕ). n) o 0) (btree_map_get_place total rooms i e.0 e.1 ordered (slice_get-get_or rooms.entries i d within))

listed_rooms : (rooms : BTreeMap Key ℕ) (es : List (Key × ℕ)) → All (λ e. room_in rooms e.0 ≡ e.1) es → All (λ r. room_in rooms r.key ≡ r.room) (map room_of_entry es)
listed_rooms rooms es all = λ i d within.
    let count = length-map es room_of_entry in
    let at : get_or (map room_of_entry es) i d ≡ room_of_entry (get_or es i (d.key, d.room)) = get_or-map room_of_entry es i (d.key, d.room) d (omega (arith, count, within)) in
    subst (λ (r : KeyRoom). room_in rooms r.key ≡ r.room) (sym at) (all i (d.key, d.room) (omega (arith, count, within)))

pub all_listed : (rooms : BTreeMap Key ℕ) → IsOrdered key_cmp rooms → AreRoomsAt rooms (λ k. true) (map room_of_entry rooms.entries)
all_listed rooms ordered = record { keys = given_is rooms.entries; rooms_are = listed_rooms rooms rooms.entries (entries_found rooms ordered) }

-- ---- the keys of a folio

pub title_first : (folio : ℕ) → IsLeBy key_cmp (Title folio) (Case folio)
title_first folio = grind (arith, nat_tests)

in_folio : (folio : ℕ) (k : Key) → range_contains key_cmp (Included (Title folio)) (Included (Case folio)) k ≡ (folio_of_key k == folio)
in_folio folio (Title f) = grind (arith, nat_tests)
in_folio folio (Right f right) = grind (arith, nat_tests)
in_folio folio (Case f) = grind (arith, nat_tests)

and_at : (b : Bool) (o : Option ℕ) → is_some (cond b o None) ≡ (b && is_some o)
and_at true o = refl
and_at false o = refl

pub folio_listed : (rooms : BTreeMap Key ℕ) (folio : ℕ) → IsOrdered key_cmp rooms → AreRoomsAt rooms (λ k. folio_of_key k == folio) (map room_of_entry (entries_from_to (Title folio) (Case folio) rooms.entries))
folio_listed rooms folio ordered =
    let inside : Key → Bool = range_contains key_cmp (Included (Title folio)) (Included (Case folio)) in
    record {
      keys = λ k. given_is (entries_from_to (Title folio) (Case folio) rooms.entries) k
          ∙ ap is_some (lookup-filter-keys (is_at (key_cmp k)) inside (folio_of_key k == folio)
          (λ j tied. in_folio folio j ∙ ap (λ x. folio_of_key x == folio) (same_is j k (tied_either_way j k ∙ tied))) rooms.entries)
          ∙ and_at (folio_of_key k == folio) (get key_cmp rooms k);
      rooms_are = listed_rooms rooms (entries_from_to (Title folio) (Case folio) rooms.entries) (All-filter (λ e. inside e.0) (λ (e : Key × ℕ). room_in rooms e.0 ≡ e.1) rooms.entries (entries_found rooms ordered));
    }
