-- What becomes of parts that exchange the part of a key, and of parts whose entries are taken away.
use Rattle.std.proofs.Common.{◌≡◌, ℕ, suc, zero, ◌+◌, ◌<◌, true, false, cond, ◌||◌, List, [], ◌∷◌, ◌++◌, length, get_or, set, take, drop, All, Some, find, position, refl, sym, ap, subst, ◌∙◌, arith}
use Rattle.std.specs.List.{AllZip}
use Rattle.std.specs.Option.{option_map_or}
use Rattle.std.specs.BTreeMap.{BTreeMap}
use Rattle.std.proofs.lemmas.List.{take_at}
use Rattle.std.proofs.lemmas.List.Elements.{length_all_zip}
use Rattle.std.proofs.lemmas.List.Folds.{find_past}
use Rattle.gb_base.specs.Keys.{same_key}
use Rattle.gb_base.specs.declared.keys.Key.{Key}
use Rattle.folio_sections.specs.Exchanged.{TakesAt}
use Rattle.folio_sections.specs.Held.{entries_at, is_held, room_at}
use Rattle.folio_sections.specs.PartState.{PartState}
use Rattle.folio_sections.specs.inner.PartIndex.{IsIndexOf, KeepsPlaces}
use Rattle.folio_sections.proofs.HeldParts.{found_set, found_there, held_kept, index_kept, is_at, key_found, nothing_at, position_alike}

-- the part of a key in one list has the key of that in another
pub same_place : (now parts others given : List PartState) (k : Key) (i j : ℕ) (p q : PartState) → parts ≡ now → given ≡ others
    → position (is_at k) now ≡ Some i → position (is_at k) others ≡ Some j → p ≡ get_or parts i p → q ≡ get_or given j q → q.key ≡ p.key
same_place now parts others given k i j p q is given_is at_i at_j e f =
    key_found others k q (found_there others k j q at_j (f ∙ ap (λ xs. get_or xs j q) given_is))
    ∙ sym (key_found now k p (found_there now k i p at_i (e ∙ ap (λ xs. get_or xs i p) is)))

-- a list takes the part of the key from another
takes : (parts others : List PartState) (k : Key) (i j : ℕ) (p q : PartState) → position (is_at k) parts ≡ Some i → position (is_at k) others ≡ Some j
    → p ≡ get_or parts i p → q ≡ get_or others j q → TakesAt parts (set parts i q) others k
takes parts others k i j p q at_i at_j e f =
    let own : p.key ≡ k = key_found parts k p (found_there parts k i p at_i e) in
    let theirs : find (is_at k) others ≡ Some q = found_there others k j q at_j f in
    let same : q.key ≡ p.key = key_found others k q theirs ∙ sym own in
    let new : find (is_at k) (set parts i q) ≡ Some q = found_set parts parts k i p q refl at_i e same in
    let past : (l : Key) → same_key k l ≡ false → find (is_at l) (set parts i q) ≡ find (is_at l) parts = λ l apart.
    find_past (is_at l) parts i q p (ap (is_at l) (sym e) ∙ ap (λ x. same_key x l) own ∙ apart) (ap (λ x. same_key x l) (same ∙ own) ∙ apart) in
    record {
      there = ap (λ o. option_map_or (λ (x : PartState). x.entries) o []) (new ∙ sym theirs);
      room = ap (λ o. option_map_or (λ (x : PartState). x.room) o 0) (new ∙ sym theirs);
      elsewhere = λ l apart. ap (λ o. option_map_or (λ (x : PartState). x.entries) o []) (past l apart);
      elsewhere_room = λ l apart. ap (λ o. option_map_or (λ (x : PartState). x.room) o 0) (past l apart);
      held = held_kept parts i p q e same;
    }

-- a list takes the part of the key from another, where both lists were lent and what was put in is that part
pub takes_at : (now parts others given : List PartState) (k : Key) (i j : ℕ) (p q new : PartState) → parts ≡ now → given ≡ others
    → position (is_at k) now ≡ Some i → position (is_at k) others ≡ Some j → p ≡ get_or parts i p → q ≡ get_or given j q → new ≡ q
    → TakesAt now (set parts i new) others k
takes_at now parts others given k i j p q new is given_is at_i at_j e f put =
    subst (λ x. TakesAt now (set parts i x) others k) (sym put)
    (subst (λ xs. TakesAt xs (set parts i q) others k) is
    (takes parts others k i j p q (subst (λ xs. position (is_at k) xs ≡ Some i) (sym is) at_i) at_j e (f ∙ ap (λ xs. get_or xs j q) given_is)))

-- the index says where each key stands, also with a part that has the key of the one before
pub still_indexed : (index : BTreeMap Key ℕ) (parts : List PartState) (i : ℕ) (p q new : PartState) → IsIndexOf index parts → p ≡ get_or parts i p
    → q.key ≡ p.key → new ≡ q → IsIndexOf index (set parts i new)
still_indexed index parts i p q new indexed e same put = λ k. indexed k ∙ sym (index_kept parts i p new e (ap (λ x. x.key) put ∙ same) k)

-- ---- entries that are taken away

places_self : (p : PartState) → KeepsPlaces p p
places_self p = record { key = refl; places = refl }

places_on : (p q r : PartState) → KeepsPlaces p q → KeepsPlaces q r → KeepsPlaces p r
places_on p q r g h = record { key = h.key ∙ g.key; places = h.places ∙ g.places }

pub all_places_self : (parts : List PartState) → AllZip KeepsPlaces parts parts
all_places_self [] = tt
all_places_self (p ∷ ps) = (places_self p, all_places_self ps)

pub all_places_set : (before parts : List PartState) (i : ℕ) (d q : PartState) → AllZip KeepsPlaces before parts → i < length parts → KeepsPlaces (get_or parts i d) q
    → AllZip KeepsPlaces before (set parts i q)
all_places_set [] [] i d q all within g = absurd (omega arith)
all_places_set [] (y ∷ ys) i d q all within g = absurd all
all_places_set (x ∷ xs) [] i d q all within g = absurd all
all_places_set (x ∷ xs) (y ∷ ys) zero d q all within g = (places_on x y q all.0 g, all.1)
all_places_set (x ∷ xs) (y ∷ ys) (suc i) d q all within g = (all.0, all_places_set xs ys i d q all.1 (omega arith) g)

pub held_placed : (before after : List PartState) → AllZip KeepsPlaces before after → (k : Key) → is_held after k ≡ is_held before k
held_placed [] [] all k = refl
held_placed [] (y ∷ ys) all k = absurd all
held_placed (x ∷ xs) [] all k = absurd all
held_placed (x ∷ xs) (y ∷ ys) all k = λ i. same_key (all.0.key i) k || held_placed xs ys all.1 k i

pub position_placed : (before after : List PartState) → AllZip KeepsPlaces before after → (k : Key) → position (is_at k) after ≡ position (is_at k) before
position_placed before after all k = position_alike KeepsPlaces (λ x y g. g.key) before after all k

abbrev places_at : List PartState → Key → ℕ
places_at parts k = room_at parts k + length (entries_at parts k)

places_found : (p : PartState) (ps : List PartState) (k : Key) → places_at (p ∷ ps) k ≡ cond (is_at k p) (p.room + length p.entries) (places_at ps k)
places_found p ps k =
    elim (is_at k p) as (λ b. option_map_or (λ (x : PartState). x.room) (cond b (Some p) (find (is_at k) ps)) 0
    + length (option_map_or (λ (x : PartState). x.entries) (cond b (Some p) (find (is_at k) ps)) [])
    ≡ cond b (p.room + length p.entries) (places_at ps k)) [
      | true ↦ refl
      | false ↦ refl
    ]

places_kept : (before after : List PartState) → AllZip KeepsPlaces before after → (k : Key) → places_at after k ≡ places_at before k
places_kept [] [] all k = refl
places_kept [] (y ∷ ys) all k = absurd all
places_kept (x ∷ xs) [] all k = absurd all
places_kept (x ∷ xs) (y ∷ ys) all k =
    places_found y ys k
    ∙ (λ i. cond (same_key (all.0.key i) k) (all.0.places i) (places_kept xs ys all.1 k i))
    ∙ sym (places_found x xs k)

-- an entry that is taken away leaves its place
pub place_left : (before after : PartState) → after.key ≡ before.key → after.entries ≡ [] → after.room ≡ before.room + length before.entries → KeepsPlaces before after
place_left before after key none room =
    let empty : length after.entries ≡ 0 = ap length none in
    record { key = key; places = omega (arith, room, empty) }

-- where nothing stands any more, the room has grown by what stood there
pub room_cleared : (before after : List PartState) → AllZip KeepsPlaces before after → All (λ p. p.entries ≡ []) after → (k : Key)
    → room_at after k ≡ room_at before k + length (entries_at before k)
room_cleared before after all none k =
    let kept : room_at after k + length (entries_at after k) ≡ room_at before k + length (entries_at before k) = places_kept before after all k in
    let empty : length (entries_at after k) ≡ 0 = ap length (nothing_at after k none) in
    omega (arith, kept, empty)

-- what a slice that was lent and cleared leaves in the vector
pub placed : (P : List PartState → Type 0) (now old lent new : List PartState) (n : ℕ) → n ≡ length old → lent ≡ old → old ≡ now → AllZip KeepsPlaces lent new
    → (AllZip KeepsPlaces now new → P new) → P (take n (new ++ drop (length new) old))
placed P now old lent new n count whole is all f =
    let kept : AllZip KeepsPlaces old new = subst (λ xs. AllZip KeepsPlaces xs new) whole all in
    let same : length new ≡ n = sym (length_all_zip KeepsPlaces old new kept) ∙ sym count in
    subst P (sym (take_at new (drop (length new) old) n same)) (f (subst (λ xs. AllZip KeepsPlaces xs new) is kept))
