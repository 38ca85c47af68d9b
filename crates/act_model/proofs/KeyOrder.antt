-- Keys in ascending order, each once: how they are made, and that there is one such list of any keys.
use Rattle.std.proofs.Common.{◌≡◌, ℕ, suc, zero, ◌<◌, Bool, true, false, cond, eqb, T, Decides, ◌&&◌, ◌||◌, List, [], ◌∷◌, map, length, get_or, Contains, Some, None, is_some, refl, sym, ap, subst, ◌∙◌, ⊎_elim, arith}
use Rattle.std.specs.List.{AllByRecursion, list_any}
use Rattle.std.specs.List.Sorted.{IsStrictlySortedBy}
use Rattle.std.specs.Cmp.{IsTotalOrder}
use Rattle.std.specs.Ordering.{eq_by_cmp, is_eq, is_lt, ordering_reverse}
use Rattle.std.specs.declared.cmp.Ordering.{Ordering}
use Rattle.std.specs.declared.cmp.Ordering.TheVariants.{Less, Equal, Greater}
use Rattle.std.specs.Option.{option_map_or}
use Rattle.std.specs.FinMap.{FinMap, contains_key-keys, entries, entries_sorted, from_entries, get-from_entries, keys}
use Rattle.std.specs.FinMap.Entries.{below_all, is_some-find, is_sorted}
use Rattle.std.proofs.lemmas.Bool.{and_parts, cases_Bool, eqb-true, false≢true, or_cases, or_left, or_right}
use Rattle.std.proofs.lemmas.Bool.Decides.{same_from_decides}
use Rattle.std.proofs.lemmas.Cmp.{tied_itself}
use Rattle.std.proofs.lemmas.Map.Views.{Contains-from_any}
use Rattle.gb_base.specs.Keys.{key_cmp, same_key}
use Rattle.gb_base.specs.contracts.keys.KeyOrd.TheImpl.Laws as order
use Rattle.gb_base.specs.declared.keys.Key.{Key}
use Rattle.gb_base.specs.declared.keys.Key.TheVariants.{Title, Right, Case}
use Rattle.act_model.specs.declared.items.Filing.{Filing}
use Rattle.act_model.specs.declared.receipts.Receipt.{Receipt}
use Rattle.act_model.specs.Touches.{filing_at, in_key_order, keys_in_order, keys_of_acts}
use Rattle.act_model.specs.inner.KeyInsertion.{insert_key, with_key, with_keys}

pub total : IsTotalOrder key_cmp
total = order.total-law

pub ties : (x y : Key) → same_key x y ≡ eq_by_cmp key_cmp x y
ties = order.matches_eq-law

pub same_is : (x y : Key) → same_key x y ≡ true → x ≡ y
same_is (Title f) (Title g) h = ap (λ n. Title n) (eqb-true f g (and_parts (eqb f g) true h).0)
same_is (Title f) (Right g s) h = absurd (false≢true (and_parts (eqb f g) false h).1)
same_is (Title f) (Case g) h = absurd (false≢true (and_parts (eqb f g) false h).1)
same_is (Right f r) (Title g) h = absurd (false≢true (and_parts (eqb f g) false h).1)
same_is (Right f r) (Right g s) h =
    let p = and_parts (eqb f g) (eqb r.receipt s.receipt && eqb r.act s.act) h in
    let q = and_parts (eqb r.receipt s.receipt) (eqb r.act s.act) p.1 in
    λ i. Right (eqb-true f g p.0 i) (record { receipt = eqb-true r.receipt s.receipt q.0 i; act = eqb-true r.act s.act q.1 i })
same_is (Right f r) (Case g) h = absurd (false≢true (and_parts (eqb f g) false h).1)
same_is (Case f) (Title g) h = absurd (false≢true (and_parts (eqb f g) false h).1)
same_is (Case f) (Right g s) h = absurd (false≢true (and_parts (eqb f g) false h).1)
same_is (Case f) (Case g) h = ap (λ n. Case n) (eqb-true f g (and_parts (eqb f g) true h).0)

pub itself : (x : Key) → same_key x x ≡ true
itself x = ties x x ∙ ap is_eq (tied_itself total x)

-- whether the key stands among these
abbrev pub has : Key → List Key → Bool
has k js = list_any (λ j. same_key j k) js

has_of : (q : Key) (ks : List Key) (i : ℕ) → i < length ks → get_or ks i q ≡ q → has q ks ≡ true
has_of q [] i within e = absurd (omega arith)
has_of q (j ∷ js) zero within e = or_left (same_key j q) (has q js) (subst (λ k. same_key k q ≡ true) (sym e) (itself q))
has_of q (j ∷ js) (suc i) within e = or_right (same_key j q) (has q js) (has_of q js i (omega arith) e)

pub has_decides : (q : Key) (ks : List Key) → Decides (has q ks) (Contains ks q)
has_decides q ks = (Contains-from_any {eq = λ a b. same_key b a} (λ x y h. sym (same_is y x h)) q ks, λ c. has_of q ks c.0 c.1 c.2)

-- every key here is above x
abbrev Above : Key → List Key → Type 0
Above x ks = AllByRecursion (λ k. key_cmp x k ≡ Less) ks

above_further : (x y : Key) (ks : List Key) → key_cmp x y ≡ Less → Above y ks → Above x ks
above_further x y [] less above = tt
above_further x y (k ∷ ks) less above = (total.trans x y k less above.0, above_further x y ks less above.1)

above_insert : (x k : Key) (js : List Key) → key_cmp x k ≡ Less → Above x js → Above x (insert_key k js)
above_insert x k [] less above = (less, tt)
above_insert x k (j ∷ js) less above =
    elim (is_lt (key_cmp k j)) as (λ b. Above x (cond b (k ∷ j ∷ js) (j ∷ insert_key k js))) [
      | true ↦ (less, above)
      | false ↦ (above.0, above_insert x k js less above.1)
    ]

or_left_false : (a b : Bool) → (a || b) ≡ false → a ≡ false
or_left_false true b h = h
or_left_false false b h = refl

or_right_false : (a b : Bool) → (a || b) ≡ false → b ≡ false
or_right_false true b h = absurd (false≢true (sym h))
or_right_false false b h = h

sorted_insert : (k : Key) (js : List Key) → has k js ≡ false → IsStrictlySortedBy key_cmp js → IsStrictlySortedBy key_cmp (insert_key k js)
unfolding IsStrictlySortedBy
sorted_insert k [] new sorted = (tt, tt)
sorted_insert k (j ∷ js) new sorted =
    let reversed = total.antisymm j k in
    elim (key_cmp k j) as (λ o. key_cmp k j ≡ o → IsStrictlySortedBy key_cmp (cond (is_lt o) (k ∷ j ∷ js) (j ∷ insert_key k js))) [
      | Less ↦ λ e. ((e, above_further k j js e sorted.0), sorted)
      | Equal ↦ λ e. absurd (false≢true (sym (or_left_false (same_key j k) (has k js) new) ∙ ties j k ∙ ap is_eq (reversed ∙ ap ordering_reverse e)))
      | Greater ↦ λ e. (above_insert j k js (reversed ∙ ap ordering_reverse e) sorted.0, sorted_insert k js (or_right_false (same_key j k) (has k js) new) sorted.1)
    ] refl

sorted_with : (k : Key) (js : List Key) → IsStrictlySortedBy key_cmp js → IsStrictlySortedBy key_cmp (with_key k js)
sorted_with k js sorted =
    elim (has k js) as (λ b. has k js ≡ b → IsStrictlySortedBy key_cmp (cond b js (insert_key k js))) [
      | true ↦ λ e. sorted
      | false ↦ λ e. sorted_insert k js e sorted
    ] refl

-- keys that are put in their places stand in ascending order
pub sorted_with_keys : (ks js : List Key) → IsStrictlySortedBy key_cmp js → IsStrictlySortedBy key_cmp (with_keys ks js)
sorted_with_keys [] js sorted = sorted
sorted_with_keys (k ∷ ks) js sorted = sorted_with_keys ks (with_key k js) (sorted_with k js sorted)

or_swap : (a b c : Bool) → (a || (b || c)) ≡ (b || (a || c))
or_swap true true c = refl
or_swap true false c = refl
or_swap false b c = refl

or_assoc : (a b c : Bool) → (a || (b || c)) ≡ ((a || b) || c)
or_assoc true b c = refl
or_assoc false b c = refl

or_false : (a : Bool) → (a || false) ≡ a
or_false true = refl
or_false false = refl

or_twice : (a b : Bool) → (a ≡ true → b ≡ true) → b ≡ (a || b)
or_twice true b h = h refl
or_twice false b h = refl

pub any_insert : (p : Key → Bool) (k : Key) (js : List Key) → list_any p (insert_key k js) ≡ (p k || list_any p js)
any_insert p k [] = refl
any_insert p k (j ∷ js) =
    elim (is_lt (key_cmp k j)) as (λ b. list_any p (cond b (k ∷ j ∷ js) (j ∷ insert_key k js)) ≡ (p k || list_any p (j ∷ js))) [
      | true ↦ refl
      | false ↦ ap (λ b. p j || b) (any_insert p k js) ∙ or_swap (p j) (p k) (list_any p js)
    ]

has_with : (q k : Key) (js : List Key) → has q (with_key k js) ≡ (same_key k q || has q js)
has_with q k js =
    elim (has k js) as (λ b. has k js ≡ b → has q (cond b js (insert_key k js)) ≡ (same_key k q || has q js)) [
      | true ↦ λ e. or_twice (same_key k q) (has q js) (λ same. subst (λ x. has x js ≡ true) (same_is k q same) e)
      | false ↦ λ e. any_insert (λ j. same_key j q) k js
    ] refl

has_with_keys : (q : Key) (ks js : List Key) → has q (with_keys ks js) ≡ (has q ks || has q js)
has_with_keys q [] js = refl
has_with_keys q (k ∷ ks) js = has_with_keys q ks (with_key k js) ∙ ap (λ b. has q ks || b) (has_with q k js) ∙ or_swap (has q ks) (same_key k q) (has q js) ∙ or_assoc (same_key k q) (has q ks) (has q js)

-- two lists that have the same keys contain the same ones
contain_same : (ks js : List Key) → ((q : Key) → has q ks ≡ has q js) → (q : Key) → (Contains ks q → Contains js q) × (Contains js q → Contains ks q)
contain_same ks js same q =
    let there = has_decides q ks in
    let here = has_decides q js in
    (λ c. here.0 (sym (same q) ∙ there.1 c), λ c. there.0 (same q ∙ here.1 c))

-- the keys that stand there are those that were put there
pub with_keys_members : (ks : List Key) (q : Key) → (Contains (with_keys ks []) q → Contains ks q) × (Contains ks q → Contains (with_keys ks []) q)
with_keys_members ks = contain_same (with_keys ks []) ks (λ q. has_with_keys q ks [] ∙ or_false (has q ks))

is_less : (o : Ordering) → T (is_lt o) → o ≡ Less
is_less Less h = refl
is_less Equal h = absurd h
is_less Greater h = absurd h

both_parts : (a b : Bool) → T (a && b) → T a × T b
both_parts true b h = (tt, h)
both_parts false b h = absurd h

-- the keys of entries in order
above_keys : (x : Key) (es : List (Key × Unit {0})) → T (below_all key_cmp x es) → Above x (map (λ e. e.0) es)
above_keys x [] h = tt
above_keys x (e ∷ es) h =
    let p = both_parts (is_lt (key_cmp x e.0)) (below_all key_cmp x es) h in
    (is_less (key_cmp x e.0) p.0, above_keys x es p.1)

sorted_keys : (es : List (Key × Unit {0})) → T (is_sorted key_cmp es) → IsStrictlySortedBy key_cmp (map (λ e. e.0) es)
unfolding IsStrictlySortedBy
sorted_keys [] h = tt
sorted_keys (e ∷ es) h =
    let p = both_parts (below_all key_cmp e.0 es) (is_sorted key_cmp es) h in
    (above_keys e.0 es p.0, sorted_keys es p.1)

abbrev entries_of : List Key → List (Key × Unit {0})
entries_of ks = map (λ k. (k, tt)) ks

pub in_key_order_sorted : (ks : List Key) → IsStrictlySortedBy key_cmp (in_key_order ks)
in_key_order_sorted ks = let m : FinMap key_cmp (Unit {0}) = from_entries (entries_of ks) in sorted_keys (entries m) (entries_sorted m)

reversed_eq : (o : Ordering) → is_eq (ordering_reverse o) ≡ is_eq o
reversed_eq Less = refl
reversed_eq Equal = refl
reversed_eq Greater = refl

tied_same : (x y : Key) → eq_by_cmp key_cmp x y ≡ same_key y x
tied_same x y = ap is_eq (total.antisymm x y) ∙ reversed_eq (key_cmp y x) ∙ sym (ties y x)

any_tied : (q : Key) (ks : List Key) → list_any (eq_by_cmp key_cmp q) ks ≡ has q ks
any_tied q [] = refl
any_tied q (k ∷ ks) = λ i. tied_same q k i || any_tied q ks i

entries_have : (q : Key) (ks : List Key) → list_any (eq_by_cmp key_cmp q) (map (λ e. e.0) (entries_of ks)) ≡ has q ks
entries_have q [] = refl
entries_have q (k ∷ ks) = λ i. tied_same q k i || entries_have q ks i

pub in_key_order_members : (ks : List Key) (q : Key) → (Contains (in_key_order ks) q → Contains ks q) × (Contains ks q → Contains (in_key_order ks) q)
in_key_order_members ks =
    let m : FinMap key_cmp (Unit {0}) = from_entries (entries_of ks) in
    contain_same (in_key_order ks) ks (λ q.
    sym (any_tied q (keys m)) ∙ sym (contains_key-keys m q)
    ∙ ap is_some (get-from_entries total (entries_of ks) q) ∙ is_some-find key_cmp q (entries_of ks) ∙ entries_have q ks)

above_of : (x q : Key) (ks : List Key) → Above x ks → has q ks ≡ true → key_cmp x q ≡ Less
above_of x q [] above h = absurd (false≢true h)
above_of x q (k ∷ ks) above h =
    ⊎_elim
    (λ here. subst (λ j. key_cmp x j ≡ Less) (same_is k q here) above.0)
    (λ later. above_of x q ks above.1 later)
    (or_cases (same_key k q) (has q ks) h)

pub not_above_itself : (x : Key) (ks : List Key) → Above x ks → has x ks ≡ false
not_above_itself x ks above =
    ⊎_elim
    (λ h. absurd (false≢true (ap is_lt (sym (tied_itself total x) ∙ above_of x x ks above h))))
    (λ h. h)
    (cases_Bool (has x ks))

first_same : (k j : Key) (ks js : List Key) → Above k ks → Above j js → ((q : Key) → has q (k ∷ ks) ≡ has q (j ∷ js)) → k ≡ j
first_same k j ks js above_k above_j same =
    ⊎_elim
    (λ here. sym (same_is j k here))
    (λ k_later. ⊎_elim
    (λ here. same_is k j here)
    (λ j_later. absurd (false≢true (ap is_lt (sym (ap ordering_reverse (above_of k j ks above_k j_later)) ∙ sym (total.antisymm j k) ∙ above_of j k js above_j k_later))))
    (or_cases (same_key k j) (has j ks) (same j ∙ or_left (same_key j j) (has j js) (itself j))))
    (or_cases (same_key j k) (has k js) (sym (same k) ∙ or_left (same_key k k) (has k ks) (itself k)))

rest_same : (a b c : Bool) → (a ≡ true → b ≡ false) → (a ≡ true → c ≡ false) → (a || b) ≡ (a || c) → b ≡ c
rest_same true b c f g h = f refl ∙ sym (g refl)
rest_same false b c f g h = h

-- one list alone has these keys in ascending order
same_list : (ks js : List Key) → IsStrictlySortedBy key_cmp ks → IsStrictlySortedBy key_cmp js → ((q : Key) → has q ks ≡ has q js) → ks ≡ js
unfolding IsStrictlySortedBy
same_list [] [] s t same = refl
same_list [] (j ∷ js) s t same = absurd (false≢true (same j ∙ or_left (same_key j j) (has j js) (itself j)))
same_list (k ∷ ks) [] s t same = absurd (false≢true (sym (same k) ∙ or_left (same_key k k) (has k ks) (itself k)))
same_list (k ∷ ks) (j ∷ js) s t same =
    let first = first_same k j ks js s.0 t.0 same in
    let above : Above k js = subst (λ x. Above x js) (sym first) t.0 in
    let later : (q : Key) → has q ks ≡ has q js =
    λ q. rest_same (same_key k q) (has q ks) (has q js)
    (λ e. subst (λ x. has x ks ≡ false) (same_is k q e) (not_above_itself k ks s.0))
    (λ e. subst (λ x. has x js ≡ false) (same_is k q e) (not_above_itself k js above))
    (same q ∙ ap (λ x. same_key x q || has q js) (sym first)) in
    λ i. first i ∷ same_list ks js s.1 t.1 later i

pub one_list : (ks js : List Key) → IsStrictlySortedBy key_cmp ks → IsStrictlySortedBy key_cmp js → ((q : Key) → (Contains ks q → Contains js q) × (Contains js q → Contains ks q)) → ks ≡ js
one_list ks js s t both =
    same_list ks js s t (λ q.
    let there = has_decides q ks in
    let here = has_decides q js in
    same_from_decides (has q ks) (has q js) there (λ h. (both q).1 (here.0 h), λ c. here.1 ((both q).0 c)))

sorted_none : IsStrictlySortedBy key_cmp []
unfolding IsStrictlySortedBy
sorted_none = tt

-- keys that are put in their places are those in key order
pub placed_in_order : (ks : List Key) → with_keys ks [] ≡ in_key_order ks
placed_in_order ks =
    one_list (with_keys ks []) (in_key_order ks) (sorted_with_keys ks [] sorted_none) (in_key_order_sorted ks)
    (λ q. let ours = with_keys_members ks q in let theirs = in_key_order_members ks q in (λ c. theirs.1 (ours.0 c), λ c. ours.1 (theirs.0 c)))

-- the keys of a filing that are put in their places are those in key order
pub filing_in_order : (journal : List Receipt) (m : ℕ) (f : Filing) (js : List Key) → filing_at journal m ≡ Some f → js ≡ with_keys (keys_of_acts journal m 1 f.acts) [] → js ≡ keys_in_order journal m
filing_in_order journal m f js is made =
    made ∙ placed_in_order (keys_of_acts journal m 1 f.acts)
    ∙ ap in_key_order (sym (ap (λ o. option_map_or (λ g. keys_of_acts journal m 1 g.acts) o []) is))

-- where receipt m is no filing there are no keys
pub none_in_order : (journal : List Receipt) (m : ℕ) → filing_at journal m ≡ None → [] ≡ keys_in_order journal m
none_in_order journal m is = placed_in_order [] ∙ ap (λ o. in_key_order (option_map_or (λ g. keys_of_acts journal m 1 g.acts) o [])) (sym is)
