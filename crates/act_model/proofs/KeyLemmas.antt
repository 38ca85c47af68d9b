-- Keys in their order, and how many keys a filing has.
use Rattle.std.proofs.Common.{◌≡◌, ℕ, ◌+◌, ◌-◌, ◌*◌, ◌<◌, ◌≤◌, Bool, true, false, cond, eqb, ◌||◌, List, [], ◌∷◌, ◌++◌, map, length, take, drop, get_or, IsTrue, refl, sym, ap, subst, ◌∙◌, ⊎_elim, suc, add-one, drop-cons, arith}
use Rattle.std.specs.List.{insert, list_any, list_all}
use Rattle.std.specs.declared.cmp.Ordering.{Ordering}
use Rattle.std.specs.declared.cmp.Ordering.TheVariants.{Less, Equal, Greater}
use Rattle.std.specs.Ordering.{is_lt, is_ge}
use Rattle.std.proofs.lemmas.Bool.{and_from, and_parts, cases_Bool, cond-false, eq-eqb, eqb-true, false≢true, leb-true, or_cases, or_left, or_right}
use Rattle.std.proofs.lemmas.Grind.{common_steps}
use Rattle.gb_base.specs.Keys.{key_cmp, same_key}
use Rattle.gb_base.specs.declared.keys.Key.{Key}
use Rattle.gb_base.specs.declared.keys.Key.TheVariants.{Title, Right, Case}
use Rattle.act_model.specs.declared.filing_acts.Act.{Act}
use Rattle.act_model.specs.declared.filing_acts.Act.TheVariants.{Open, Transfer, Create, NoticeFor, Convert, Assign, Cancel, Exchange, Exercise}
use Rattle.act_model.specs.declared.receipts.Receipt.{Receipt}
use Rattle.act_model.specs.Acts.{folio_of}
use Rattle.act_model.specs.WellFormed.{different, names_few_folios}
use Rattle.act_model.specs.Touches.{keys_of_act, keys_of_acts, new_right, was_in_division_three}
use Rattle.act_model.specs.inner.KeyInsertion.{insert_key, with_key, with_keys}
use Rattle.act_model.proofs.KeyOrder.{any_insert}

ge_not_lt : (o : Ordering) → is_ge o ≡ true → is_lt o ≡ false
ge_not_lt Less h = absurd (false≢true h)
ge_not_lt Equal h = refl
ge_not_lt Greater h = refl

-- a key that is put in after the first one
pub insert_key-first : (keys : List Key) (k j : Key) (i : ℕ) → 0 < length keys → j ≡ get_or keys 0 j → is_ge (key_cmp k j) ≡ true → insert (take (length keys - 1) (drop 1 keys)) i k ≡ insert_key k (take (length keys - 1) (drop 1 keys)) → insert keys (i + 1) k ≡ insert_key k keys
insert_key-first [] k j i within first ge place = absurd (omega arith)
insert_key-first (x ∷ xs) k j i within first ge place =
    let tail : take (length (x ∷ xs) - 1) (drop 1 (x ∷ xs)) ≡ xs = grind (arith, common_steps) in
    let place' = subst (λ ys. insert ys i k ≡ insert_key k ys) tail place in
    let lt' = subst (λ y. is_lt (key_cmp k y) ≡ false) first (ge_not_lt _ ge) in
    let split : insert (x ∷ xs) (i + 1) k ≡ x ∷ insert xs i k = rw add-one in
    split ∙ ap (λ ys. x ∷ ys) place' ∙ sym (cond-false _ _ _ lt')

pub length-insert_key : (k : Key) (js : List Key) → length (insert_key k js) ≡ length js + 1
length-insert_key k [] = refl
length-insert_key k (j ∷ js) =
    elim (is_lt (key_cmp k j)) as (λ b. length (cond b (k ∷ j ∷ js) (j ∷ insert_key k js)) ≡ length (j ∷ js) + 1) [
      | true ↦ omega arith
      | false ↦ omega (arith, length-insert_key k js)
    ]

length-with_key : (k : Key) (js : List Key) → length js ≤ length (with_key k js)
length-with_key k js =
    elim (list_any (λ j. same_key j k) js) as (λ b. length js ≤ length (cond b js (insert_key k js))) [
      | true ↦ omega arith
      | false ↦ omega (arith, length-insert_key k js)
    ]

pub length-with_keys : (ks js : List Key) → length js ≤ length (with_keys ks js)
length-with_keys [] js = omega arith
length-with_keys (k ∷ ks) js = omega (arith, length-with_key k js, length-with_keys ks (with_key k js))

pub with_keys-append : (ks ls js : List Key) → with_keys (ks ++ ls) js ≡ with_keys ls (with_keys ks js)
with_keys-append [] ls js = refl
with_keys-append (k ∷ ks) ls js = with_keys-append ks ls (with_key k js)

-- how many of these folios have their title among the keys
abbrev present : List ℕ → List Key → ℕ
present [] js = 0
present (f ∷ fs) js = cond (list_any (λ j. same_key j (Title f)) js) 1 0 + present fs js

present-le : (fs : List ℕ) (js : List Key) → present fs js ≤ length fs
present-le [] js = omega arith
present-le (f ∷ fs) js =
    elim (list_any (λ j. same_key j (Title f)) js) as (λ b. cond b 1 0 + present fs js ≤ length (f ∷ fs)) [
      | true ↦ omega (arith, present-le fs js)
      | false ↦ omega (arith, present-le fs js)
    ]

-- one element is counted as a test says, which may only become true; the count of the others may only grow
abbrev rises : Bool → Bool → ℕ → ℕ → Type 0
rises a b m n = cond b 1 0 + m ≤ cond (a || b) 1 0 + n

or_rises : (a b : Bool) (m n : ℕ) → m ≤ n → rises a b m n
or_rises true true m n h = omega arith
or_rises true false m n h = omega arith
or_rises false true m n h = omega arith
or_rises false false m n h = omega arith

present-insert_key : (fs : List ℕ) (k : Key) (js : List Key) → present fs js ≤ present fs (insert_key k js)
present-insert_key [] k js = omega arith
present-insert_key (f ∷ fs) k js =
    rw (any_insert (λ j. same_key j (Title f)) k js)
    (or_rises (same_key k (Title f)) (list_any (λ j. same_key j (Title f)) js) (present fs js) (present fs (insert_key k js)) (present-insert_key fs k js))

title_is : (f : ℕ) (k : Key) → same_key k (Title f) ≡ true → k ≡ Title f
title_is f (Title g) h = ap (λ n. Title n) (eqb-true g f (and_parts _ _ h).0)
title_is f (Right g r) h = absurd (false≢true (and_parts (eqb g f) false h).1)
title_is f (Case g) h = absurd (false≢true (and_parts (eqb g f) false h).1)

or_right_of : (a b : Bool) → a ≡ false → (a || b) ≡ true → b ≡ true
or_right_of true b e h = absurd (false≢true (sym e))
or_right_of false b e h = h

present-new : (fs : List ℕ) (k : Key) (js : List Key) → list_any (λ f. same_key k (Title f)) fs ≡ true → list_any (λ j. same_key j k) js ≡ false → present fs js + 1 ≤ present fs (insert_key k js)
present-new [] k js is_title new = absurd (false≢true is_title)
present-new (f ∷ fs) k js is_title new =
    rw (any_insert (λ j. same_key j (Title f)) k js)
    (⊎_elim
    (λ same.
    let absent = subst (λ j. list_any (λ i. same_key i j) js ≡ false) (title_is f k same) new in
    rw (same, absent) (omega (arith, present-insert_key fs k js)))
    (λ other.
    let later = present-new fs k js (or_right_of _ _ other is_title) new in
    omega (arith, or_rises (same_key k (Title f)) (list_any (λ j. same_key j (Title f)) js) (present fs js + 1) (present fs (insert_key k js)) later))
    (cases_Bool (same_key k (Title f))))

-- no more keys than the titles of these folios that are among them, and r others
abbrev Fits : List ℕ → ℕ → List Key → Type 0
Fits fs r js = length js ≤ present fs js + r

Fits-title : (fs : List ℕ) (k : Key) (js : List Key) (r : ℕ) → list_any (λ f. same_key k (Title f)) fs ≡ true → Fits fs r js → Fits fs r (with_key k js)
Fits-title fs k js r is_title fits =
    elim (list_any (λ j. same_key j k) js) as (λ b. list_any (λ j. same_key j k) js ≡ b → Fits fs r (cond b js (insert_key k js))) [
      | true ↦ λ stands. fits
      | false ↦ λ new. omega (arith, length-insert_key k js, present-new fs k js is_title new)
    ] refl

Fits-other : (fs : List ℕ) (k : Key) (js : List Key) (r : ℕ) → Fits fs r js → Fits fs (r + 1) (with_key k js)
Fits-other fs k js r fits =
    elim (list_any (λ j. same_key j k) js) as (λ b. Fits fs (r + 1) (cond b js (insert_key k js))) [
      | true ↦ omega arith
      | false ↦ omega (arith, length-insert_key k js, present-insert_key fs k js)
    ]

-- each of these numbers once
abbrev once : List ℕ → List ℕ
once [] = []
once (n ∷ ns) = cond (list_any (λ m. eqb m n) ns) (once ns) (n ∷ once ns)

length-once : (ns : List ℕ) → length (once ns) ≡ different ns
length-once [] = refl
length-once (n ∷ ns) =
    elim (list_any (λ m. eqb m n) ns) as (λ b. length (cond b (once ns) (n ∷ once ns)) ≡ cond b (different ns) (different ns + 1)) [
      | true ↦ length-once ns
      | false ↦ omega (arith, length-once ns)
    ]

-- the key is the title of one of these folios
abbrev is_title_of : List ℕ → Key → Bool
is_title_of fs k = list_any (λ f. same_key k (Title f)) fs

title_of_equal : (m n : ℕ) → eqb m n ≡ true → same_key (Title m) (Title n) ≡ true
title_of_equal m n e = rw e

any_of_member : (q : ℕ → Bool) (n : ℕ) (ns : List ℕ) → list_any (λ m. eqb m n) ns ≡ true → q n ≡ true → list_any q ns ≡ true
any_of_member q n [] member h = absurd (false≢true member)
any_of_member q n (m ∷ ns) member h =
    ⊎_elim
    (λ same. or_left (q m) (list_any q ns) (subst (λ k. q k ≡ true) (sym (eqb-true m n same)) h))
    (λ other. or_right (q m) (list_any q ns) (any_of_member q n ns (or_right_of _ _ other member) h))
    (cases_Bool (eqb m n))

any-once : (q : ℕ → Bool) (ns : List ℕ) → list_any q ns ≡ true → list_any q (once ns) ≡ true
any-once q [] h = h
any-once q (n ∷ ns) h =
    elim (list_any (λ m. eqb m n) ns) as (λ b. list_any (λ m. eqb m n) ns ≡ b → list_any q (cond b (once ns) (n ∷ once ns)) ≡ true) [
      | true ↦ λ again. any-once q ns (⊎_elim (λ here. any_of_member q n ns again here) (λ rest. rest) (or_cases _ _ h))
      | false ↦ λ new. ⊎_elim (λ here. or_left (q n) _ here) (λ rest. or_right (q n) _ (any-once q ns rest)) (or_cases _ _ h)
    ] refl

all_titled : (fs : List ℕ) (acts : List Act) → ((f : ℕ) → list_any (λ m. eqb m f) (map folio_of acts) ≡ true → is_title_of fs (Title f) ≡ true) → list_all (λ act. is_title_of fs (Title (folio_of act))) acts ≡ true
all_titled fs [] each = refl
all_titled fs (act ∷ acts) each =
    and_from _ _
    (each (folio_of act) (or_left (eqb (folio_of act) (folio_of act)) (list_any (λ m. eqb m (folio_of act)) (map folio_of acts)) (eq-eqb _ _ refl)))
    (all_titled fs acts (λ f member. each f (or_right (eqb (folio_of act) f) (list_any (λ m. eqb m f) (map folio_of acts)) member)))

keys_of_act-Fits : (fs : List ℕ) (rs : List Receipt) (n a : ℕ) (act : Act) (js : List Key) (r : ℕ) → is_title_of fs (Title (folio_of act)) ≡ true → Fits fs r js → Fits fs (r + 2) (with_keys (keys_of_act rs n a act) js)
keys_of_act-Fits fs rs n a (Open f i o) js r t h = omega (arith, Fits-title fs (Title f) js r t h)
keys_of_act-Fits fs rs n a (Transfer f o) js r t h = omega (arith, Fits-title fs (Title f) js r t h)
keys_of_act-Fits fs rs n a (Create f s c) js r t h = omega (arith, Fits-other fs (Right f (new_right n a)) (with_key (Title f) js) r (Fits-title fs (Title f) js r t h))
keys_of_act-Fits fs rs n a (NoticeFor f s) js r t h = omega (arith, Fits-other fs (Right f (new_right n a)) (with_key (Title f) js) r (Fits-title fs (Title f) js r t h))
keys_of_act-Fits fs rs n a (Convert f q) js r t h = omega (arith, Fits-other fs (Right f q) (with_key (Title f) js) r (Fits-title fs (Title f) js r t h))
keys_of_act-Fits fs rs n a (Assign f q p) js r t h = omega (arith, Fits-other fs (Right f q) js r h)
keys_of_act-Fits fs rs n a (Cancel f q) js r t h = omega (arith, Fits-other fs (Right f q) (with_key (Title f) js) r (Fits-title fs (Title f) js r t h))
keys_of_act-Fits fs rs n a (Exchange f q u) js r t h =
    let rights = Fits-other fs (Right f u) (with_key (Right f q) js) (r + 1) (Fits-other fs (Right f q) js r h) in
    elim (was_in_division_three rs n f q) as (λ b. Fits fs (r + 2) (with_keys (Right f q ∷ Right f u ∷ cond b (Title f ∷ []) []) js)) [
      | true ↦ omega (arith, Fits-title fs (Title f) (with_key (Right f u) (with_key (Right f q) js)) (r + 1 + 1) t rights)
      | false ↦ omega (arith, rights)
    ]
keys_of_act-Fits fs rs n a (Exercise f q s) js r t h =
    omega (arith, Fits-other fs (Right f (new_right n a)) (with_key (Right f q) (with_key (Title f) js)) (r + 1) (Fits-other fs (Right f q) (with_key (Title f) js) r (Fits-title fs (Title f) js r t h)))

keys_of_acts-Fits : (fs : List ℕ) (rs : List Receipt) (n a : ℕ) (acts : List Act) (js : List Key) (r : ℕ) → list_all (λ act. is_title_of fs (Title (folio_of act))) acts ≡ true → Fits fs r js → Fits fs (r + 2 * length acts) (with_keys (keys_of_acts rs n a acts) js)
keys_of_acts-Fits fs rs n a [] js r t h = omega arith
keys_of_acts-Fits fs rs n a (act ∷ acts) js r t h =
    let parts = and_parts (is_title_of fs (Title (folio_of act))) (list_all (λ b. is_title_of fs (Title (folio_of b))) acts) t in
    rw (with_keys-append (keys_of_act rs n a act) (keys_of_acts rs n (a + 1) acts) js)
    (omega (arith, keys_of_acts-Fits fs rs n (a + 1) acts (with_keys (keys_of_act rs n a act) js) (r + 2) parts.1 (keys_of_act-Fits fs rs n a act js r parts.0 h)))

-- a filing has at most two titles, and two rights for each act
pub length-keys_of_acts : (rs : List Receipt) (n : ℕ) (acts : List Act) → length acts ≤ 8 → IsTrue (names_few_folios acts) → length (with_keys (keys_of_acts rs n 1 acts) []) ≤ 18
length-keys_of_acts rs n acts few folios =
    let fs = once (map folio_of acts) in
    let titled = all_titled fs acts (λ f member. any-once (λ g. same_key (Title f) (Title g)) (map folio_of acts) (any_of_member (λ g. same_key (Title f) (Title g)) f (map folio_of acts) member (title_of_equal f f (eq-eqb f f refl)))) in
    let keys = with_keys (keys_of_acts rs n 1 acts) [] in
    omega (arith, keys_of_acts-Fits fs rs n 1 acts [] 0 titled (omega arith), present-le fs keys, length-once (map folio_of acts), leb-true (different (map folio_of acts)) 2 folios)

-- what is left at a place begins with the element there
pub drop_next : {A : Type 0} (xs : List A) (i : ℕ) (x : A) → i < length xs → x ≡ get_or xs i x → drop i xs ≡ x ∷ drop (i + 1) xs
drop_next xs i x within here =
    drop-cons xs i x within ∙ ap (λ y. y ∷ drop (suc i) xs) (sym here) ∙ ap (λ k. x ∷ drop k xs) (sym (add-one i))
