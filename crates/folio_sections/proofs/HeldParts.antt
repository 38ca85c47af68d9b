-- What a list of parts says of each key, and what becomes of it where one part changes or all grow.
use Rattle.std.specs.Prelude.{IfSome}
use Rattle.std.proofs.Common.{◌≡◌, ℕ, suc, zero, ◌+◌, ◌<◌, ◌≤◌, Bool, true, false, cond, not, ◌||◌, nat_lt, List, [], ◌∷◌, ◌++◌, length, get_or, set, take, drop, All, Option, Some, None, is_some, find, position, IsTrue, refl, sym, ap, subst, ◌∙◌, arith}
use Rattle.std.specs.List.{AllZip, position_or_len}
use Rattle.std.specs.BTreeMap.{BTreeMap, Updates, get}
use Rattle.std.specs.Option.{option_map_or, option_or}
use Rattle.std.specs.Ordering.{is_eq}
use Rattle.std.proofs.lemmas.Bool.{false≢true}
use Rattle.std.proofs.lemmas.List.{take_at}
use Rattle.std.proofs.lemmas.List.Elements.{All-append, All-from_recursion, All-head, All-tail, length_all_zip}
use Rattle.std.proofs.lemmas.List.Folds.{find-set, find_past}
use Rattle.std.proofs.lemmas.List.Quantifiers.{position-Some}
use Rattle.std.proofs.lemmas.Option.{slice_get-get_or}
use Rattle.gb_base.specs.Keys.{key_cmp, same_key}
use Rattle.gb_base.specs.declared.keys.Key.{Key}
use Rattle.act_model.proofs.KeyOrder.{itself, same_is, ties}
use Rattle.folio_sections.specs.Adding.{Adds}
use Rattle.folio_sections.specs.Held.{entries_at, is_held, room_at}
use Rattle.folio_sections.specs.PartState.{PartState}
use Rattle.folio_sections.specs.Titles.{is_open}
use Rattle.folio_sections.specs.declared.entries.Entry.{Entry}
use Rattle.folio_sections.specs.inner.PartIndex.{Grows, IsIndexOf}
use Rattle.folio_sections.proofs.Indexes.{find_passes, find-position, is_some-find, is_some-position, position-at, position-set, position_push, is_none_of}

-- whether a part is of the key
abbrev pub is_at : Key → PartState → Bool
is_at k p = same_key p.key k

-- the part that is found has the key
pub key_found : (parts : List PartState) (k : Key) (p : PartState) → find (is_at k) parts ≡ Some p → p.key ≡ k
key_found parts k p h = same_is p.key k (find_passes (is_at k) parts p h)

pub held_found : (parts : List PartState) (k : Key) (p : PartState) → find (is_at k) parts ≡ Some p → is_held parts k ≡ true
held_found parts k p h = sym (is_some-find (is_at k) parts) ∙ ap is_some h

pub held_none : (parts : List PartState) (k : Key) → find (is_at k) parts ≡ None → is_held parts k ≡ false
held_none parts k h = sym (is_some-find (is_at k) parts) ∙ ap is_some h

-- where no part has an entry, nothing stands
pub nothing_at : (parts : List PartState) (k : Key) → All (λ p. p.entries ≡ []) parts → entries_at parts k ≡ []
nothing_at [] k none = refl
nothing_at (p ∷ ps) k none =
    elim (same_key p.key k) as (λ b. option_map_or (λ (q : PartState). q.entries) (cond b (Some p) (find (λ q. same_key q.key k) ps)) [] ≡ []) [
      | true ↦ none 0 p (omega arith)
      | false ↦ nothing_at ps k (All-tail (λ q. q.entries ≡ []) p ps none)
    ]

-- the part at a key's index is found there
pub found_there : (parts : List PartState) (k : Key) (i : ℕ) (p : PartState) → position (is_at k) parts ≡ Some i → p ≡ get_or parts i p → find (is_at k) parts ≡ Some p
found_there parts k i p h e =
    find-position (is_at k) parts i h ∙ slice_get-get_or parts i p (position-Some (is_at k) parts i p h).0 ∙ ap Some (sym e)

-- a key that is held has an index
pub no_index : (parts : List PartState) (k : Key) → position (is_at k) parts ≡ None → IsTrue (is_held parts k) → ⊥
no_index parts k h held = false≢true (sym (ap is_some h) ∙ is_some-position (is_at k) parts ∙ held)

-- nothing stands at a key without an index
pub nothing_there : (parts : List PartState) (k : Key) → position (is_at k) parts ≡ None → entries_at parts k ≡ []
nothing_there parts k h =
    elim (find (is_at k) parts) as (λ o. find (is_at k) parts ≡ o → option_map_or (λ (p : PartState). p.entries) o [] ≡ []) [
      | None ↦ λ _. refl
      | Some p ↦ λ found. absurd (no_index parts k h (held_found parts k p found))
    ] refl

-- another part of the same key leaves the index of every key
pub index_kept : (parts : List PartState) (i : ℕ) (p q : PartState) → p ≡ get_or parts i p → q.key ≡ p.key → (k : Key) → position (is_at k) (set parts i q) ≡ position (is_at k) parts
index_kept parts i p q e same k =
    position-set (is_at k) parts i q p (ap (λ key. same_key key k) same ∙ ap (is_at k) e)

pub held_kept : (parts : List PartState) (i : ℕ) (p q : PartState) → p ≡ get_or parts i p → q.key ≡ p.key → is_held (set parts i q) ≡ is_held parts
held_kept parts i p q e same = λ j k.
    (sym (is_some-position (is_at k) (set parts i q)) ∙ ap is_some (index_kept parts i p q e same k) ∙ is_some-position (is_at k) parts) j

-- the part at the entry's key, with that entry at its end and room for one less
adds_at : (parts : List PartState) (i : ℕ) (p q : PartState) (entry : Entry) → position (is_at entry.key) parts ≡ Some i → p ≡ get_or parts i p → q.key ≡ p.key → q.entries ≡ p.entries ++ entry ∷ [] → q.room + 1 ≡ p.room → Adds (entries_at parts) (entries_at (set parts i q)) (room_at parts) (room_at (set parts i q)) entry
adds_at parts i p q entry h e key entries room =
    let k = entry.key in
    let own : p.key ≡ k = key_found parts k p (found_there parts k i p h e) in
    let passes : is_at k q ≡ true = ap (λ x. same_key x k) (key ∙ own) ∙ itself k in
    let old : find (is_at k) parts ≡ Some p = found_there parts k i p h e in
    let new : find (is_at k) (set parts i q) ≡ Some q =
    find-set (is_at k) parts i q (sym (position-at (is_at k) parts i h)) (position-Some (is_at k) parts i p h).0 passes in
    let past : (j : Key) → same_key k j ≡ false → find (is_at j) (set parts i q) ≡ find (is_at j) parts = λ j apart.
    find_past (is_at j) parts i q p (ap (is_at j) (sym e) ∙ ap (λ x. same_key x j) own ∙ apart) (ap (λ x. same_key x j) (key ∙ own) ∙ apart) in
    record {
      there = ap (λ o. option_map_or (λ (x : PartState). x.entries) o []) new ∙ entries ∙ ap (λ o. option_map_or (λ (x : PartState). x.entries) o [] ++ entry ∷ []) (sym old);
      room = ap (λ o. option_map_or (λ (x : PartState). x.room) o 0 + 1) new ∙ room ∙ ap (λ o. option_map_or (λ (x : PartState). x.room) o 0) (sym old);
      others = λ j apart. ap (λ o. option_map_or (λ (x : PartState). x.entries) o []) (past j apart);
      others_room = λ j apart. ap (λ o. option_map_or (λ (x : PartState). x.room) o 0) (past j apart);
    }

pub adds_there : (now parts : List PartState) (i : ℕ) (p q : PartState) (entry : Entry) → parts ≡ now → position (is_at entry.key) now ≡ Some i → p ≡ get_or parts i p → q.key ≡ p.key → q.entries ≡ p.entries ++ entry ∷ [] → q.room + 1 ≡ p.room → Adds (entries_at now) (entries_at (set parts i q)) (room_at now) (room_at (set parts i q)) entry
adds_there now parts i p q entry is h e key entries room =
    let there = subst (λ xs. position (is_at entry.key) xs ≡ Some i) (sym is) h in
    subst (λ xs. Adds (entries_at xs) (entries_at (set parts i q)) (room_at xs) (room_at (set parts i q)) entry) is (adds_at parts i p q entry there e key entries room)

grows_self : (p : PartState) → Grows p p
grows_self p = record { key = refl; entries = refl; room = omega arith }

grows_on : (p q r : PartState) → Grows p q → Grows q r → Grows p r
grows_on p q r g h = record { key = h.key ∙ g.key; entries = h.entries ∙ g.entries; room = omega arith }

pub all_grow_self : (parts : List PartState) → AllZip Grows parts parts
all_grow_self [] = tt
all_grow_self (p ∷ ps) = (grows_self p, all_grow_self ps)

pub all_grow_set : (before parts : List PartState) (i : ℕ) (d q : PartState) → AllZip Grows before parts → i < length parts → Grows (get_or parts i d) q → AllZip Grows before (set parts i q)
all_grow_set [] [] i d q all within g = absurd (omega arith)
all_grow_set [] (y ∷ ys) i d q all within g = absurd all
all_grow_set (x ∷ xs) [] i d q all within g = absurd all
all_grow_set (x ∷ xs) (y ∷ ys) zero d q all within g = (grows_on x y q all.0 g, all.1)
all_grow_set (x ∷ xs) (y ∷ ys) (suc i) d q all within g = (all.0, all_grow_set xs ys i d q all.1 (omega arith) g)

-- the part at a key's index grows, and no other
pub all_grow_at : (now parts : List PartState) (k : Key) (i : ℕ) (p q : PartState) → parts ≡ now → position (is_at k) now ≡ Some i → p ≡ get_or parts i p → Grows p q → AllZip Grows now (set parts i q)
all_grow_at now parts k i p q is h e g =
    let stands : p ≡ get_or now i p = e ∙ ap (λ xs. get_or xs i p) is in
    subst (λ xs. AllZip Grows now (set xs i q)) (sym is)
    (all_grow_set now now i p q (all_grow_self now) (position-Some (is_at k) now i p h).0 (subst (λ x. Grows x q) stands g))

-- that part is then found at the key
pub found_set : (now parts : List PartState) (k : Key) (i : ℕ) (p q : PartState) → parts ≡ now → position (is_at k) now ≡ Some i → p ≡ get_or parts i p → q.key ≡ p.key → find (is_at k) (set parts i q) ≡ Some q
found_set now parts k i p q is h e same =
    let stands : p ≡ get_or now i p = e ∙ ap (λ xs. get_or xs i p) is in
    let own : p.key ≡ k = key_found now k p (found_there now k i p h stands) in
    ap (λ xs. find (is_at k) (set xs i q)) is
    ∙ find-set (is_at k) now i q (sym (position-at (is_at k) now i h)) (position-Some (is_at k) now i p h).0 (ap (λ x. same_key x k) (same ∙ own) ∙ itself k)

-- parts that had room have it still
pub room_there : (n : ℕ) (before after : List PartState) (i : ℕ) (d : PartState) → AllZip Grows before after → All (λ p. n ≤ p.room) before → i < length after → n ≤ (get_or after i d).room
room_there n [] [] i d all each within = absurd (omega arith)
room_there n [] (y ∷ ys) i d all each within = absurd all
room_there n (x ∷ xs) [] i d all each within = absurd all
room_there n (x ∷ xs) (y ∷ ys) zero d all each within =
    let had = All-head (λ (p : PartState). n ≤ p.room) x xs each in
    let wide = all.0.room in
    omega arith
room_there n (x ∷ xs) (y ∷ ys) (suc i) d all each within =
    room_there n xs ys i d all.1 (All-tail (λ (p : PartState). n ≤ p.room) x xs each) (omega arith)

pub map_or_cond : {A B : Type 0} (f : A → B) (b : Bool) (x : A) (o : Option A) (d : B) → option_map_or f (cond b (Some x) o) d ≡ cond b (f x) (option_map_or f o d)
map_or_cond f true x o d = refl
map_or_cond f false x o d = refl

cond_le : (b : Bool) (m n i j : ℕ) → m ≤ n → i ≤ j → cond b m i ≤ cond b n j
cond_le true m n i j h g = h
cond_le false m n i j h g = g

pub held_grown : (before after : List PartState) → AllZip Grows before after → (k : Key) → is_held after k ≡ is_held before k
held_grown [] [] all k = refl
held_grown [] (y ∷ ys) all k = absurd all
held_grown (x ∷ xs) [] all k = absurd all
held_grown (x ∷ xs) (y ∷ ys) all k = λ i. same_key (all.0.key i) k || held_grown xs ys all.1 k i

index_alike : (R : PartState → PartState → Type 0) → ((x y : PartState) → R x y → y.key ≡ x.key) → (before after : List PartState) → AllZip R before after → (k : Key) → position_or_len (is_at k) after ≡ position_or_len (is_at k) before
index_alike R keeps [] [] all k = refl
index_alike R keeps [] (y ∷ ys) all k = absurd all
index_alike R keeps (x ∷ xs) [] all k = absurd all
index_alike R keeps (x ∷ xs) (y ∷ ys) all k = λ i. cond (not (same_key (keeps x y all.0 i) k)) (1 + index_alike R keeps xs ys all.1 k i) 0

-- parts that keep their keys keep the place of each
pub position_alike : (R : PartState → PartState → Type 0) → ((x y : PartState) → R x y → y.key ≡ x.key) → (before after : List PartState) → AllZip R before after → (k : Key) → position (is_at k) after ≡ position (is_at k) before
position_alike R keeps before after all k = λ i.
    cond (nat_lt (index_alike R keeps before after all k i) (sym (length_all_zip R before after all) i)) (Some (index_alike R keeps before after all k i)) None

pub position_grown : (before after : List PartState) → AllZip Grows before after → (k : Key) → position (is_at k) after ≡ position (is_at k) before
position_grown before after all k = position_alike Grows (λ x y g. g.key) before after all k

pub entries_grown : (before after : List PartState) → AllZip Grows before after → (k : Key) → entries_at after k ≡ entries_at before k
entries_grown [] [] all k = refl
entries_grown [] (y ∷ ys) all k = absurd all
entries_grown (x ∷ xs) [] all k = absurd all
entries_grown (x ∷ xs) (y ∷ ys) all k =
    map_or_cond (λ (p : PartState). p.entries) (is_at k y) y (find (is_at k) ys) []
    ∙ (λ i. cond (same_key (all.0.key i) k) (all.0.entries i) (entries_grown xs ys all.1 k i))
    ∙ sym (map_or_cond (λ (p : PartState). p.entries) (is_at k x) x (find (is_at k) xs) [])

pub room_grown : (before after : List PartState) → AllZip Grows before after → (k : Key) → room_at before k ≤ room_at after k
room_grown [] [] all k = omega arith
room_grown [] (y ∷ ys) all k = absurd all
room_grown (x ∷ xs) [] all k = absurd all
room_grown (x ∷ xs) (y ∷ ys) all k =
    let old : room_at (x ∷ xs) k ≡ cond (is_at k x) x.room (room_at xs k) = map_or_cond (λ (p : PartState). p.room) (is_at k x) x (find (is_at k) xs) 0 in
    let new : room_at (y ∷ ys) k ≡ cond (is_at k x) y.room (room_at ys k) =
    map_or_cond (λ (p : PartState). p.room) (is_at k y) y (find (is_at k) ys) 0 ∙ (λ i. cond (same_key (all.0.key i) k) y.room (room_at ys k)) in
    let P : ℕ → Type 0 = λ n. n ≤ room_at (y ∷ ys) k in
    let Q : ℕ → Type 0 = λ n. cond (is_at k x) x.room (room_at xs k) ≤ n in
    subst P (sym old) (subst Q (sym new) (cond_le (is_at k x) x.room y.room (room_at xs k) (room_at ys k) all.0.room (room_grown xs ys all.1 k)))

-- where each part has room, so has each key that is held
pub room_at_held : (n : ℕ) (parts : List PartState) → All (λ p. n ≤ p.room) parts → (k : Key) → IsTrue (is_held parts k) → n ≤ room_at parts k
room_at_held n [] all k held = absurd (false≢true held)
room_at_held n (p ∷ ps) all k held =
    elim (is_at k p) as (λ b. IsTrue (b || is_held ps k) → n ≤ option_map_or (λ (x : PartState). x.room) (cond b (Some p) (find (is_at k) ps)) 0) [
      | true ↦ λ _. All-head (λ (x : PartState). n ≤ x.room) p ps all
      | false ↦ λ there. room_at_held n ps (All-tail (λ (x : PartState). n ≤ x.room) p ps all) k there
    ] held

or_absorbs : (a b : Bool) → (b ≡ true → a ≡ true) → a ≡ (a || b)
or_absorbs true b h = refl
or_absorbs false true h = h refl
or_absorbs false false h = refl

-- a key that is held already adds nothing
pub held_again : (parts : List PartState) (key : Key) → is_held parts key ≡ true → (k : Key) → is_held parts k ≡ (is_held parts k || same_key key k)
held_again parts key h k = or_absorbs (is_held parts k) (same_key key k) (λ same. subst (λ x. is_held parts x ≡ true) (same_is key k same) h)

or_none : (o : Option ℕ) → option_or o None ≡ o
or_none None = refl
or_none (Some n) = refl

-- a new part at the end, whose key is not held, and its index
index_with : (index index' : BTreeMap Key ℕ) (parts : List PartState) (key : Key) (new : PartState) → IsIndexOf index parts → Updates key_cmp index index' key (Some (length parts)) → new.key ≡ key → is_held parts key ≡ false → IsIndexOf index' (parts ++ new ∷ [])
index_with index index' parts key new indexed updates own apart k =
    let tie : same_key key k ≡ is_eq (key_cmp key k) = ties key k in
    let pushed = position_push (is_at k) parts new in
    let here : same_key new.key k ≡ same_key key k = ap (λ x. same_key x k) own in
    elim (same_key key k) as (λ b. same_key key k ≡ b → get key_cmp index' k ≡ position (is_at k) (parts ++ new ∷ [])) [
      | true ↦ λ same.
          let none : position (is_at k) parts ≡ None =
          is_none_of (position (is_at k) parts) (is_some-position (is_at k) parts ∙ subst (λ x. is_held parts x ≡ false) (same_is key k same) apart) in
          updates.0 k ∙ ap (λ b. cond b (Some (length parts)) (get key_cmp index k)) (sym tie ∙ same)
          ∙ sym (pushed ∙ ap (λ o. option_or o (cond (is_at k new) (Some (length parts)) None)) none ∙ ap (λ b. cond b (Some (length parts)) None) (here ∙ same))
      | false ↦ λ other.
          updates.2 k (sym tie ∙ other) ∙ indexed k
          ∙ sym (pushed ∙ ap (λ b. option_or (position (is_at k) parts) (cond b (Some (length parts)) None)) (here ∙ other) ∙ or_none (position (is_at k) parts))
    ] refl

pub index_pushed : (index index' : BTreeMap Key ℕ) (parts pushed : List PartState) (key : Key) (new : PartState) (n : ℕ) → IsIndexOf index parts → Updates key_cmp index index' key (Some n) → n ≡ length parts → pushed ≡ parts ++ new ∷ [] → new.key ≡ key → is_held parts key ≡ false → IsIndexOf index' pushed
index_pushed index index' parts pushed key new n indexed updates count is own apart =
    let updates' = subst (λ m. Updates key_cmp index index' key (Some m)) count updates in
    subst (λ xs. IsIndexOf index' xs) (sym is) (index_with index index' parts key new indexed updates' own apart)

-- what a slice that was lent and grew leaves in the vector
pub written : (P : List PartState → Type 0) (now old lent new : List PartState) (n : ℕ) → n ≡ length old → lent ≡ old → old ≡ now → AllZip Grows lent new → (AllZip Grows now new → P new) → P (take n (new ++ drop (length new) old))
written P now old lent new n count whole is all f =
    let grown : AllZip Grows old new = subst (λ xs. AllZip Grows xs new) whole all in
    let same : length new ≡ n = sym (length_all_zip Grows old new grown) ∙ sym count in
    subst P (sym (take_at new (drop (length new) old) n same)) (f (subst (λ xs. AllZip Grows xs new) is grown))

-- a part that is lent, where it is the one found, has the key
pub keyed : {A : Type 0} (o : Option A) (view : A → PartState) (state : PartState) (key : Key) → state.key ≡ key
    → IfSome o (λ part. view part ≡ state) → IfSome o (λ part. (view part).key ≡ key)
keyed None view state key is same = tt
keyed (Some part) view state key is same = ap (λ (s : PartState). s.key) same ∙ is

-- ---- a further part, on which nothing stands

found_pushed : (parts : List PartState) (p : PartState) (k : Key) → find (is_at k) (parts ++ p ∷ []) ≡ option_or (find (is_at k) parts) (cond (is_at k p) (Some p) None)
found_pushed [] p k = refl
found_pushed (q ∷ qs) p k =
    elim (is_at k q) as (λ b. cond b (Some q) (find (is_at k) (qs ++ p ∷ [])) ≡ option_or (cond b (Some q) (find (is_at k) qs)) (cond (is_at k p) (Some p) None)) [
      | true ↦ refl
      | false ↦ found_pushed qs p k
    ]

nothing_more : (o : Option PartState) (b : Bool) (p : PartState) → p.entries ≡ [] → option_map_or (λ (q : PartState). q.entries) (option_or o (cond b (Some p) None)) [] ≡ option_map_or (λ (q : PartState). q.entries) o []
nothing_more (Some q) b p none = refl
nothing_more None true p none = none
nothing_more None false p none = refl

no_less : (o : Option PartState) (b : Bool) (p : PartState) → option_map_or (λ (q : PartState). q.room) o 0 ≤ option_map_or (λ (q : PartState). q.room) (option_or o (cond b (Some p) None)) 0
no_less (Some q) b p = omega arith
no_less None b p = omega arith

pub entries_pushed : (parts all : List PartState) (p : PartState) → all ≡ parts ++ p ∷ [] → p.entries ≡ [] → entries_at all ≡ entries_at parts
entries_pushed parts all p is none = λ j k.
    (ap (λ ps. entries_at ps k) is ∙ ap (λ o. option_map_or (λ (q : PartState). q.entries) o []) (found_pushed parts p k) ∙ nothing_more (find (is_at k) parts) (is_at k p) p none) j

pub room_pushed : (parts all : List PartState) (p : PartState) (k : Key) → all ≡ parts ++ p ∷ [] → room_at parts k ≤ room_at all k
room_pushed parts all p k is =
    subst (λ ps. room_at parts k ≤ room_at ps k) (sym is)
    (subst (λ o. room_at parts k ≤ option_map_or (λ (q : PartState). q.room) o 0) (sym (found_pushed parts p k)) (no_less (find (is_at k) parts) (is_at k p) p))

found_at_end : (o : Option PartState) (b : Bool) (p : PartState) → is_some o ≡ false → b ≡ true → option_map_or (λ (q : PartState). q.room) (option_or o (cond b (Some p) None)) 0 ≡ p.room
found_at_end o b p none same = λ i. option_map_or (λ (q : PartState). q.room) (option_or (is_none_of o none i) (cond (same i) (Some p) None)) 0

-- that part is found at its key, which was not held
pub room_at_end : (parts all : List PartState) (p : PartState) (key : Key) → all ≡ parts ++ p ∷ [] → p.key ≡ key → is_held parts key ≡ false → room_at all key ≡ p.room
room_at_end parts all p key is own apart =
    ap (λ ps. room_at ps key) is
    ∙ ap (λ o. option_map_or (λ (q : PartState). q.room) o 0) (found_pushed parts p key)
    ∙ found_at_end (find (is_at key) parts) (is_at key p) p (is_some-find (is_at key) parts ∙ apart) (ap (λ k. same_key k key) own ∙ itself key)

pub all_empty_pushed : (parts all : List PartState) (p : PartState) → all ≡ parts ++ p ∷ [] → All (λ q. q.entries ≡ []) parts → p.entries ≡ [] → All (λ q. q.entries ≡ []) all
all_empty_pushed parts all p is none new =
    subst (All (λ q. q.entries ≡ [])) (sym is)
    (All-append (λ (q : PartState). q.entries ≡ []) parts (p ∷ []) none (All-from_recursion (λ (q : PartState). q.entries ≡ []) (p ∷ []) (new, tt)))

-- a title that is open is held
pub open_is_held : (parts : List PartState) (k : Key) → is_open (entries_at parts k) ≡ true → is_held parts k ≡ true
open_is_held parts k is =
    elim (find (is_at k) parts) as (λ o. find (is_at k) parts ≡ o → is_open (option_map_or (λ (p : PartState). p.entries) o []) ≡ true → is_held parts k ≡ true) [
      | None ↦ λ _ never. absurd (false≢true never)
      | Some p ↦ λ found _. held_found parts k p found
    ] refl is

pub none_is_open : (parts : List PartState) (k : Key) → is_held parts k ≡ false → false ≡ is_open (entries_at parts k)
none_is_open parts k apart =
    elim (is_open (entries_at parts k)) as (λ b. is_open (entries_at parts k) ≡ b → false ≡ b) [
      | true ↦ λ is. sym apart ∙ open_is_held parts k is
      | false ↦ λ is. refl
    ] refl
