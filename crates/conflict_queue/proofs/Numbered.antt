-- The lists of a docket by number.
use Rattle.std.proofs.Common.{◌≡◌, ℕ, ◌+◌, ◌-◌, ◌<◌, ◌≤◌, Bool, false, cond, List, [], ◌∷◌, ◌++◌, filter, length, map, slice_get, Some, None, zero, suc, refl, sym, ap, ◌∙◌, arith}
use Rattle.std.specs.List.{last_or, range_with_len}
use Rattle.std.specs.Option.{option_map_or}
use Rattle.std.proofs.lemmas.List.FromFn.{get_or-map-range_with_len, length-map-range_with_len}
use Rattle.std.proofs.lemmas.Option.{slice_get-get_or}
use Rattle.gb_base.specs.declared.keys.Key.{Key}
use Rattle.act_model.specs.declared.receipts.Receipt.{Receipt}
use Rattle.conflict_queue.specs.Dockets.{docket_of, has_key, keys_touched, previous, previous_in, touches_in}
use Rattle.conflict_queue.specs.ItemKeys.{keys_of_item}
use Rattle.conflict_queue.proofs.SaleKeys.{in_order_has}

pub some_is : {X : Type 0} (x y : X) → Some x ≡ Some y → x ≡ y
some_is x y e = ap (λ o. option_map_or (λ v. v) o x) e

-- a list over the numbers from 1 has at number i what i gives
pub numbered_at : {X : Type 0} (f : ℕ → X) (n i : ℕ) → 1 ≤ i → i ≤ n → slice_get (map f (range_with_len 1 n)) (i - 1) ≡ Some (f i)
numbered_at f n i low high =
    let count = length-map-range_with_len f 1 n in
    slice_get-get_or (map f (range_with_len 1 n)) (i - 1) (f i) (omega arith)
    ∙ ap Some (get_or-map-range_with_len f 1 n (i - 1) i (f i) (omega arith) (omega arith))

-- the docket of a journal has a list for each receipt
pub docket_len : (journal : List Receipt) → length (docket_of journal) ≡ length journal
docket_len journal = length-map-range_with_len (keys_touched journal) 1 (length journal)

pub docket_at : (journal : List Receipt) (docket : List (List Key)) (keys : List Key) (i : ℕ) → docket ≡ docket_of journal → 1 ≤ i → i ≤ length docket
    → slice_get docket (i - 1) ≡ Some keys → keys ≡ keys_touched journal i
docket_at journal docket keys i is low high there =
    let count = ap length is ∙ docket_len journal in
    some_is keys (keys_touched journal i) (sym there ∙ ap (λ d. slice_get d (i - 1)) is ∙ numbered_at (keys_touched journal) (length journal) i low (omega arith))

touched_at : (journal : List Receipt) (k : Key) (i : ℕ) → 1 ≤ i → i ≤ length journal → touches_in (docket_of journal) k i ≡ has_key k (keys_of_item journal i)
touched_at journal k i low high =
    ap (λ o. option_map_or (has_key k) o false) (numbered_at (keys_touched journal) (length journal) i low high) ∙ in_order_has k (keys_of_item journal i)

pub filter_numbered : (p q : ℕ → Bool) (a n : ℕ) → ((i : ℕ) → a ≤ i → i < a + n → p i ≡ q i) → filter p (range_with_len a n) ≡ filter q (range_with_len a n)
filter_numbered p q a zero same = refl
filter_numbered p q a (suc n) same = λ i. cond (same a (omega arith) (omega arith) i)
    (a ∷ filter_numbered p q (a + 1) n (λ j low high. same j (omega arith) (omega arith)) i)
    (filter_numbered p q (a + 1) n (λ j low high. same j (omega arith) (omega arith)) i)

-- what was at a key before, by the docket of a journal, was so by the journal
pub previous_is : (journal : List Receipt) (docket : List (List Key)) (k : Key) (i : ℕ) → docket ≡ docket_of journal → i ≤ length docket → previous_in docket i k ≡ previous journal i k
previous_is journal docket k i is high =
    let count = ap length is ∙ docket_len journal in
    ap (λ d. previous_in d i k) is
    ∙ ap (last_or None) (filter_numbered (touches_in (docket_of journal) k) (λ n. has_key k (keys_of_item journal n)) 1 (i - 1)
    (λ j low less. touched_at journal k j low (omega arith)))

-- ---- one list more

row_next : {X : Type 0} (f : ℕ → X) (a n : ℕ) → map f (range_with_len a (suc n)) ≡ map f (range_with_len a n) ++ f (a + n) ∷ []
row_next f a zero = ap (λ k. f k ∷ []) (omega arith)
row_next f a (suc n) =
    let next : (a + 1) + n ≡ a + suc n = omega arith in
    ap (λ rest. f a ∷ rest) (row_next f (a + 1) n) ∙ ap (λ k. f a ∷ (map f (range_with_len (a + 1) n) ++ f k ∷ [])) next

pub next_list : {X : Type 0} (f : ℕ → X) (n i : ℕ) (xs : List X) → i ≡ 1 + n → xs ≡ map f (range_with_len 1 n) ++ f i ∷ [] → xs ≡ map f (range_with_len 1 (n + 1))
next_list f n i xs next is =
    let more : suc n ≡ n + 1 = omega arith in
    is ∙ ap (λ k. map f (range_with_len 1 n) ++ f k ∷ []) next ∙ sym (row_next f 1 n) ∙ ap (λ k. map f (range_with_len 1 k)) more
