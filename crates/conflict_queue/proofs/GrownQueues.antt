-- An item that comes after the others stands at the end of the queues at its keys.
use Rattle.std.proofs.Common.{◌≡◌, ℕ, zero, suc, ◌+◌, ◌-◌, ◌<◌, ◌≤◌, true, false, cond, ◌||◌, List, [], ◌∷◌, ◌++◌, filter, length, map, slice_get, refl, sym, ap, subst, ◌∙◌, arith}
use Rattle.std.specs.List.{range_with_len}
use Rattle.std.specs.List.Sorted.{IsStrictlySortedBy}
use Rattle.std.specs.Option.{option_map_or}
use Rattle.std.proofs.lemmas.List.Elements.{filter-append}
use Rattle.gb_base.specs.Keys.{key_cmp, same_key}
use Rattle.gb_base.specs.declared.keys.Key.{Key}
use Rattle.act_model.proofs.KeyOrder.{not_above_itself, same_is}
use Rattle.conflict_queue.specs.Dockets.{has_key, touches_in}
use Rattle.conflict_queue.specs.inner.Queues.{queue_of}
use Rattle.conflict_queue.proofs.Lists.{get_behind, get_front}
use Rattle.conflict_queue.proofs.Numbered.{filter_numbered}

-- ---- each key of an item stands once

none_same : (k : Key) (js : List Key) → has_key k js ≡ false → filter (λ j. same_key j k) js ≡ []
none_same k [] none = refl
none_same k (j ∷ js) none = elim (same_key j k) as (λ b. (b || has_key k js) ≡ false → cond b (j ∷ filter (λ i. same_key i k) js) (filter (λ i. same_key i k) js) ≡ []) [
  | true ↦ λ e. absurd (cc e)
  | false ↦ λ e. none_same k js e
] none

pub once_each : (item : ℕ) (k : Key) (ks : List Key) → IsStrictlySortedBy key_cmp ks → map (λ j. item) (filter (λ j. same_key j k) ks) ≡ cond (has_key k ks) (item ∷ []) []
unfolding IsStrictlySortedBy
once_each item k [] sorted = refl
once_each item k (j ∷ js) sorted = elim (same_key j k) as (λ b. same_key j k ≡ b → map (λ i. item) (cond b (j ∷ filter (λ i. same_key i k) js) (filter (λ i. same_key i k) js)) ≡ cond (b || has_key k js) (item ∷ []) []) [
  | true ↦ λ e. ap (λ rest. item ∷ map (λ i. item) rest) (none_same k js (subst (λ x. has_key x js ≡ false) (same_is j k e) (not_above_itself j js sorted.0)))
  | false ↦ λ e. once_each item k js sorted.1
] refl

-- ---- a docket with one list more

row_more : (a n : ℕ) → range_with_len a (suc n) ≡ range_with_len a n ++ (a + n) ∷ []
row_more a zero = ap (λ k. k ∷ []) (omega arith)
row_more a (suc n) =
    let next : (a + 1) + n ≡ a + suc n = omega arith in
    ap (λ rest. a ∷ rest) (row_more (a + 1) n) ∙ ap (λ k. a ∷ (range_with_len (a + 1) n ++ k ∷ [])) next

more_len : (docket : List (List Key)) (ks : List Key) → length (docket ++ ks ∷ []) ≡ suc (length docket)
more_len [] ks = refl
more_len (d ∷ ds) ks =
    let rest = more_len ds ks in
    omega arith

touches_before : (docket : List (List Key)) (ks : List Key) (k : Key) (i : ℕ) → 1 ≤ i → i < 1 + length docket → touches_in (docket ++ ks ∷ []) k i ≡ touches_in docket k i
touches_before docket ks k i low high = ap (λ o. option_map_or (has_key k) o false) (get_front docket (ks ∷ []) (i - 1) (omega arith))

touches_last : (docket : List (List Key)) (ks : List Key) (k : Key) → touches_in (docket ++ ks ∷ []) k (1 + length docket) ≡ has_key k ks
touches_last docket ks k =
    let behind : (1 + length docket) - 1 ≡ length docket = omega arith in
    ap (λ n. option_map_or (has_key k) (slice_get (docket ++ ks ∷ []) n) false) behind ∙ ap (λ o. option_map_or (has_key k) o false) (get_behind docket ks)

pub queue_grows : (docket : List (List Key)) (ks : List Key) (k : Key) → queue_of (docket ++ ks ∷ []) k ≡ queue_of docket k ++ cond (has_key k ks) ((1 + length docket) ∷ []) []
queue_grows docket ks k =
    let test = touches_in (docket ++ ks ∷ []) k in
    let numbers = range_with_len 1 (length docket) in
    ap (λ n. filter test (range_with_len 1 n)) (more_len docket ks) ∙ ap (filter test) (row_more 1 (length docket))
    ∙ filter-append test numbers ((1 + length docket) ∷ [])
    ∙ (λ i. filter_numbered test (touches_in docket k) 1 (length docket) (touches_before docket ks k) i ++ cond (touches_last docket ks k i) ((1 + length docket) ∷ []) [])

-- the queue at a key after the keys of one item more were pushed is that of the docket with these keys
pub pushed : (docket : List (List Key)) (ks got : List Key) (k : Key) (item : ℕ) (old new : List ℕ) → IsStrictlySortedBy key_cmp ks → got ≡ ks → item ≡ 1 + length docket → old ≡ queue_of docket k
    → new ≡ old ++ map (λ j. item) (filter (λ j. same_key j k) got) → new ≡ queue_of (docket ++ ks ∷ []) k
pushed docket ks got k item old new sorted same number was is =
    is ∙ (λ i. was i ++ map (λ j. item) (filter (λ j. same_key j k) (same i)))
    ∙ ap (λ rest. queue_of docket k ++ rest) (once_each item k ks sorted)
    ∙ ap (λ n. queue_of docket k ++ cond (has_key k ks) (n ∷ []) []) number
    ∙ sym (queue_grows docket ks k)
