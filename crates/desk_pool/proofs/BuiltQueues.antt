-- The queues of folios grow item by item, and their list has the folio of each key that an item touches.
use Rattle.std.proofs.Common.{◌≡◌, ⊎_elim, ℕ, zero, suc, ◌+◌, ◌-◌, ◌<◌, ◌≤◌, Bool, true, false, cond, ◌||◌, ◌==◌, List, [], ◌∷◌, ◌++◌, Option, Some, None, IsTrue, Vec, drop, filter, flat_map, get_or, length, map, slice_get, refl, sym, ap, subst, ◌∙◌, length-append, arith}
use Rattle.std.specs.BTreeMap.{BTreeMap, IsOrdered, Updates, get, is_at}
use Rattle.std.specs.List.{last_or, list_any, range_with_len}
use Rattle.std.specs.List.Sorted.{IsStrictlySortedBy}
use Rattle.std.specs.Map.{keys_of, lookup}
use Rattle.std.specs.Option.{option_map_or}
use Rattle.std.specs.Ordering.{is_eq, nat_cmp}
use Rattle.std.specs.declared.alloc.Global.{Global}
use Rattle.std.proofs.lemmas.Bool.{cases_Bool, eqb-true, false≢true, or_right}
use Rattle.std.proofs.lemmas.Bool.Decides.{nat_tests}
use Rattle.std.proofs.lemmas.Cmp.{nat_cmp_total}
use Rattle.std.proofs.lemmas.List.{append-nil, get_or-map, length-map}
use Rattle.std.proofs.lemmas.List.Elements.{filter-append}
use Rattle.std.proofs.lemmas.List.Folds.{list_any-append}
use Rattle.std.proofs.lemmas.Map.Entries.{btree_map_get_place}
use Rattle.std.proofs.lemmas.Map.Keys.{below_from_sorted}
use Rattle.std.proofs.lemmas.Option.{slice_get-get_or}
use Rattle.gb_base.specs.Keys.{folio_of_key, same_key}
use Rattle.gb_base.specs.declared.keys.Key.{Key}
use Rattle.gb_base.proofs.Fronts.{last_is}
use Rattle.act_model.proofs.KeyOrder.{any_insert, placed_in_order, same_is}
use Rattle.act_model.specs.Touches.{in_key_order}
use Rattle.act_model.specs.declared.receipts.Receipt.{Receipt}
use Rattle.act_model.specs.inner.KeyInsertion.{insert_key, with_key, with_keys}
use Rattle.conflict_queue.proofs.Lists.{get_behind}
use Rattle.conflict_queue.specs.Dockets.{has_key, keys_touched}
use Rattle.conflict_queue.specs.ItemKeys.{keys_of_item}
use Rattle.desk_pool.proofs.CountedRooms.{cut}
use Rattle.desk_pool.specs.FolioQueues.{queue_of, touches_folio}
use Rattle.desk_pool.specs.declared.folio_queues.FolioQueue.{FolioQueue}
use Rattle.desk_pool.specs.inner.AllQueues.{AreAllQueues, is_queued}
use Rattle.desk_pool.specs.inner.QueuesBuilt.{as_entry, is_last, items_at, items_in, with_item, with_item_at}
use Rattle.folio_sections.specs.Held.{is_given}
use Rattle.registrar.proofs.Registering.{range_more}
use Rattle.registrar.specs.HeldKeys.{keys_of_first}

-- ---- an item is put at the end of others, once

pub same_number : (n : ℕ) → (n == n) ≡ true
same_number n = grind (arith, nat_tests)

last_behind : (item : ℕ) (q : List ℕ) → is_last item (q ++ item ∷ []) ≡ true
last_behind item q =
    let both = length-append q (item ∷ []) in
    let number : length (q ++ item ∷ []) - 1 ≡ length q = omega arith in
    ap (λ n. option_map_or (λ m. m == item) (slice_get (q ++ item ∷ []) n) false) number
    ∙ ap (λ o. option_map_or (λ m. m == item) o false) (get_behind q item) ∙ same_number item

pub ends_with : (item : ℕ) (q : List ℕ) → is_last item (with_item item q) ≡ true
ends_with item q =
    elim (is_last item q) as (λ b. is_last item q ≡ b → is_last item (cond b q (q ++ item ∷ [])) ≡ true) [
      | true ↦ λ e. e
      | false ↦ λ e. last_behind item q
    ] refl

pub stays : (item : ℕ) (q : List ℕ) → is_last item q ≡ true → with_item item q ≡ q
stays item q e = ap (λ b. cond b q (q ++ item ∷ [])) e

both_same : {X : Type 0} (b : Bool) (x y : X) → x ≡ y → cond b x y ≡ y
both_same true x y e = e
both_same false x y e = refl

-- after all keys of an item, the item stands in the queue once, where one of the keys is of the folio
all_at : (ks : List Key) (folio item : ℕ) (q : List ℕ) → with_item_at ks folio item q ≡ cond (list_any (λ k. folio_of_key k == folio) ks) (with_item item q) q
all_at [] folio item q = refl
all_at (k ∷ ks) folio item q =
    let any = list_any (λ j. folio_of_key j == folio) ks in
    elim (folio_of_key k == folio) as (λ b. with_item_at ks folio item (cond b (with_item item q) q) ≡ cond (b || any) (with_item item q) q) [
      | true ↦ all_at ks folio item (with_item item q) ∙ both_same any (with_item item (with_item item q)) (with_item item q) (stays item (with_item item q) (ends_with item q))
      | false ↦ all_at ks folio item q
    ]

-- ---- key by key

-- what a write at one folio leaves at each folio
pub moved : (old : ℕ → List ℕ) (g f item : ℕ) → cond (g == f) (with_item item (old g)) (old f) ≡ cond (g == f) (with_item item (old f)) (old f)
moved old g f item =
    elim (g == f) as (λ b. (g == f) ≡ b → cond b (with_item item (old g)) (old f) ≡ cond b (with_item item (old f)) (old f)) [
      | true ↦ λ e. ap (λ x. with_item item (old x)) (eqb-true g f e)
      | false ↦ λ e. refl
    ] refl

-- where a folio has the item last already, writing nothing is the same as writing it
pub unmoved : (old : ℕ → List ℕ) (g f item : ℕ) → is_last item (old g) ≡ true → old f ≡ cond (g == f) (with_item item (old f)) (old f)
unmoved old g f item ends =
    elim (g == f) as (λ b. (g == f) ≡ b → old f ≡ cond b (with_item item (old f)) (old f)) [
      | true ↦ λ e. sym (stays item (old f) (subst (λ x. is_last item (old x) ≡ true) (eqb-true g f e) ends))
      | false ↦ λ e. refl
    ] refl

pub next_key : (keys : List Key) (i f item : ℕ) (k : Key) (old new whole : List ℕ) → i < length keys → k ≡ get_or keys i k
    → new ≡ cond (folio_of_key k == f) (with_item item old) old → with_item_at (drop i keys) f item old ≡ whole → with_item_at (drop (i + 1) keys) f item new ≡ whole
next_key keys i f item k old new whole within is written so_far =
    ap (with_item_at (drop (i + 1) keys) f item) written ∙ sym (ap (λ ks. with_item_at ks f item old) (cut keys i k within is)) ∙ so_far

-- ---- item by item

apart : (a b : ℕ) → a < b → (a == b) ≡ false
apart a b less = grind (arith, nat_tests)

not_last : (p : ℕ → Bool) (item a n : ℕ) (o : Option ℕ) → option_map_or (λ m. m == item) o false ≡ false → a + n ≤ item
    → option_map_or (λ m. m == item) (last_or o (filter p (range_with_len a n))) false ≡ false
not_last p item a zero o before within = before
not_last p item a (suc n) o before within =
    let rest = filter p (range_with_len (a + 1) n) in
    elim (p a) as (λ b. option_map_or (λ m. m == item) (last_or o (cond b (a ∷ rest) rest)) false ≡ false) [
      | true ↦ not_last p item (a + 1) n (Some a) (apart a item (omega (arith, within))) (omega (arith, within))
      | false ↦ not_last p item (a + 1) n o before (omega (arith, within))
    ]

behind_others : (p : ℕ → Bool) (item n : ℕ) → 1 + n ≤ item → is_last item (filter p (range_with_len 1 n)) ≡ false
behind_others p item n within =
    ap (λ o. option_map_or (λ m. m == item) o false) (last_is (filter p (range_with_len 1 n))) ∙ not_last p item 1 n None refl within

any_there : (p : Key → Bool) (k : Key) (js : List Key) → has_key k js ≡ true → p k ≡ true → list_any p js ≡ true
any_there p k [] there is = absurd (false≢true there)
any_there p k (j ∷ js) there is =
    elim (same_key j k) as (λ b. same_key j k ≡ b → (b || has_key k js) ≡ true → (p j || list_any p js) ≡ true) [
      | true ↦ λ e _. ap (λ b. b || list_any p js) (subst (λ x. p x ≡ true) (sym (same_is j k e)) is)
      | false ↦ λ e h. or_right (p j) (list_any p js) (any_there p k js h is)
    ] refl there

either_way : (a b : Bool) → (a ≡ true → b ≡ true) → b ≡ (a || b)
either_way true b h = h refl
either_way false b h = refl

any_with : (p : Key → Bool) (k : Key) (js : List Key) → list_any p (with_key k js) ≡ (p k || list_any p js)
any_with p k js =
    elim (has_key k js) as (λ b. has_key k js ≡ b → list_any p (cond b js (insert_key k js)) ≡ (p k || list_any p js)) [
      | true ↦ λ e. either_way (p k) (list_any p js) (any_there p k js e)
      | false ↦ λ e. any_insert p k js
    ] refl

swap : (a b c : Bool) → (a || (b || c)) ≡ ((b || a) || c)
swap true true c = refl
swap true false c = refl
swap false true c = refl
swap false false c = refl

any_with_keys : (p : Key → Bool) (ks js : List Key) → list_any p (with_keys ks js) ≡ (list_any p ks || list_any p js)
any_with_keys p [] js = refl
any_with_keys p (k ∷ ks) js = any_with_keys p ks (with_key k js) ∙ ap (λ b. list_any p ks || b) (any_with p k js) ∙ swap (list_any p ks) (p k) (list_any p js)

pub or_none : (a : Bool) → (a || false) ≡ a
or_none true = refl
or_none false = refl

-- some key in order passes a test exactly where some key passes it
pub any_in_order : (p : Key → Bool) (ks : List Key) → list_any p (in_key_order ks) ≡ list_any p ks
any_in_order p ks = ap (list_any p) (sym (placed_in_order ks)) ∙ any_with_keys p ks [] ∙ or_none (list_any p ks)

split : (b : Bool) (q more : List ℕ) → cond b (q ++ more) q ≡ q ++ cond b more []
split true q more = refl
split false q more = sym (append-nil q)

pub next_item : (journal : List Receipt) (folio n item : ℕ) (keys : List Key) (old new : List ℕ) → item ≡ 1 + n → keys ≡ keys_touched journal item
    → old ≡ filter (touches_folio journal folio) (range_with_len 1 n) → new ≡ with_item_at keys folio item old → new ≡ filter (touches_folio journal folio) (range_with_len 1 (n + 1))
next_item journal folio n item keys old new number are was is =
    let p = touches_folio journal folio in
    let rows = filter p (range_with_len 1 n) in
    let test : Key → Bool = λ k. folio_of_key k == folio in
    let behind : with_item item rows ≡ rows ++ item ∷ [] = ap (λ b. cond b rows (rows ++ item ∷ [])) (behind_others p item n (omega (arith, number))) in
    is ∙ all_at keys folio item old
    ∙ (λ j. cond ((ap (list_any test) are ∙ any_in_order test (keys_of_item journal item)) j) (with_item item (was j)) (was j))
    ∙ ap (λ q. cond (p item) q rows) behind ∙ split (p item) rows (item ∷ [])
    ∙ ap (λ m. rows ++ cond (p m) (m ∷ []) []) number
    ∙ sym (ap (filter p) (range_more 1 n) ∙ filter-append p (range_with_len 1 n) ((1 + n) ∷ []))

-- the first item of a folio is put into the map
pub put_first : (old new : BTreeMap ℕ (Vec ℕ Global)) (folio item other : ℕ) (queue : Vec ℕ Global) → get nat_cmp old folio ≡ None → queue.items ≡ with_item item []
    → Updates nat_cmp old new folio (Some queue) → items_at new other ≡ cond (folio == other) (with_item item (items_at old folio)) (items_at old other)
put_first old new folio item other queue none is updates =
    let tied : is_eq (nat_cmp folio other) ≡ (folio == other) = grind (arith, nat_tests) in
    let first : queue.items ≡ with_item item (items_at old folio) = is ∙ ap (λ o. with_item item (items_in o)) (sym none) in
    ap items_in (updates.0 other ∙ ap (λ b. cond b (Some queue) (get nat_cmp old other)) tied)
    ∙ elim (folio == other) as (λ b. items_in (cond b (Some queue) (get nat_cmp old other)) ≡ cond b (with_item item (items_at old folio)) (items_at old other)) [
      | true ↦ first
      | false ↦ refl
    ]

-- ---- the list of all

number_is : (f g : ℕ) → is_eq (nat_cmp f g) ≡ true → g ≡ f
number_is f g e = grind (arith, nat_tests, e)

found : (queues : List FolioQueue) (f : ℕ) (v : Vec ℕ Global) → lookup (is_at (nat_cmp f)) (map as_entry queues) ≡ Some v → is_queued queues f ≡ true
found [] f v h = absurd (cc h)
found (q ∷ qs) f v h =
    elim (is_at (nat_cmp f) q.folio) as (λ b. is_at (nat_cmp f) q.folio ≡ b → cond b (Some q.items) (lookup (is_at (nat_cmp f)) (map as_entry qs)) ≡ Some v → is_queued (q ∷ qs) f ≡ true) [
      | true ↦ λ e _. ap (λ b. b || is_queued qs f) (ap (λ n. n == q.folio) (sym (number_is f q.folio e)) ∙ same_number q.folio)
      | false ↦ λ e there. or_right (f == q.folio) (is_queued qs f) (found qs f v there)
    ] refl h

folios_are : (queues : List FolioQueue) → keys_of (map as_entry queues) ≡ map (λ (q : FolioQueue). q.folio) queues
folios_are [] = refl
folios_are (q ∷ qs) = ap (λ fs. q.folio ∷ fs) (folios_are qs)

-- the queue of a folio is not empty where items touch a key of the folio
not_empty : (journal : List Receipt) (k : Key) (ns : List ℕ) → is_given (flat_map (keys_of_item journal) ns) k ≡ true → filter (touches_folio journal (folio_of_key k)) ns ≡ [] → ⊥
not_empty journal k [] given none = false≢true given
not_empty journal k (n ∷ ns) given none =
    let f = folio_of_key k in
    let both = sym (list_any-append (λ j. same_key j k) (keys_of_item journal n) (flat_map (keys_of_item journal) ns)) ∙ given in
    elim (touches_folio journal f n) as (λ b. touches_folio journal f n ≡ b → cond b (n ∷ filter (touches_folio journal f) ns) (filter (touches_folio journal f) ns) ≡ [] → ⊥) [
      | true ↦ λ e h. absurd (cc h)
      | false ↦ λ e h. ⊎_elim
          (λ own. false≢true (sym e ∙ any_there (λ j. folio_of_key j == f) k (keys_of_item journal n) own (same_number f)))
          (λ other. not_empty journal k ns (ap (λ b. b || is_given (flat_map (keys_of_item journal) ns) k) (sym other) ∙ both) h)
          (cases_Bool (has_key k (keys_of_item journal n)))
    ] refl none

module _ (journal : List Receipt) (items : BTreeMap ℕ (Vec ℕ Global)) (queues : List FolioQueue)
    (own : (folio : ℕ) → items_at items folio ≡ queue_of journal folio) (listed : map as_entry queues ≡ items.entries) (ordered : IsOrdered nat_cmp items) where
  entry_at : (i : ℕ) (d : FolioQueue) → i < length queues → slice_get items.entries i ≡ Some (as_entry (get_or queues i d))
  entry_at i d within =
      let count = length-map queues as_entry in
      ap (λ es. slice_get es i) (sym listed) ∙ slice_get-get_or (map as_entry queues) i (as_entry d) (omega (arith, count, within)) ∙ ap Some (get_or-map as_entry queues i d (as_entry d) within)

  each_own : (i : ℕ) (d : FolioQueue) → i < length queues → (get_or queues i d).items.items ≡ queue_of journal (get_or queues i d).folio
  each_own i d within =
      let q = get_or queues i d in
      let there = btree_map_get_place nat_cmp_total items i q.folio q.items ordered (entry_at i d within) in
      ap items_in (sym there) ∙ own q.folio

  rise : (i j : ℕ) (d : FolioQueue) → i < j → j < length queues → (get_or queues i d).folio < (get_or queues j d).folio
  rise i j d less within =
      let folio : FolioQueue → ℕ = λ q. q.folio in
      let count = length-map queues folio in
      let sorted : IsStrictlySortedBy nat_cmp (map folio queues) = subst (IsStrictlySortedBy nat_cmp) (ap keys_of (sym listed) ∙ folios_are queues) ordered in
      let below = below_from_sorted (map folio queues) i j d.folio sorted less (omega (arith, count, within)) in
      let first = get_or-map folio queues i d d.folio (omega (arith, less, within)) in
      let second = get_or-map folio queues j d d.folio within in
      omega (arith, below, first, second)

  among : (k : Key) → IsTrue (is_given (keys_of_first journal (length journal)) k) → IsTrue (is_queued queues (folio_of_key k))
  among k given =
      let f = folio_of_key k in
      let whole = own f in
      elim (get nat_cmp items f) as (λ o. get nat_cmp items f ≡ o → items_in o ≡ queue_of journal f → is_queued queues f ≡ true) [
        | Some v ↦ λ e _. found queues f v (ap (lookup (is_at (nat_cmp f))) listed ∙ e)
        | None ↦ λ _ h. absurd (not_empty journal k (range_with_len 1 (length journal)) given (sym h))
      ] refl whole

  pub all_queues : AreAllQueues journal queues
  all_queues = record { own = each_own; ascending = rise; all = among }
