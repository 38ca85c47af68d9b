-- Which items come before another in a permitted order, of those that touch one of its keys.
use Rattle.std.proofs.Common.{◌≡◌, ⊎_elim, inl, ℕ, zero, suc, ◌+◌, ◌-◌, ◌<◌, ◌≤◌, Bool, true, false, cond, List, [], ◌∷◌, ◌++◌, length, filter, flat_map, AllPairs, refl, sym, ap, subst, ◌∙◌, arith}
use Rattle.std.specs.List.{AllByRecursion, range_with_len}
use Rattle.std.proofs.lemmas.List.Elements.{recursion_from_All}
use Rattle.gb_base.proofs.Members.{In, in_append_left, in_append_right, in_range, of_append, of_range}
use Rattle.gb_base.specs.declared.keys.Key.{Key}
use Rattle.act_model.proofs.KeyOrder.{has, has_decides}
use Rattle.act_model.specs.declared.receipts.Receipt.{Receipt}
use Rattle.conflict_queue.specs.ItemKeys.{keys_of_item}
use Rattle.conflict_queue.specs.Schedules.{Conflicts, IsPermitted}
use Rattle.folio_sections.proofs.FilteredLists.{all_in, in_all, in_filter, of_filter}
use Rattle.registrar.proofs.NoticedPlaces.{Rises}
use Rattle.registrar.proofs.RisingNumbers.{contains_of_in, in_of_contains, one_rising}

-- ---- pairs of a list

-- R holds of each number and each later one
abbrev pub Pairs : (ℕ → ℕ → Type 0) → List ℕ → Type 0
Pairs R [] = Unit {0}
Pairs R (n ∷ ns) = AllByRecursion (R n) ns × Pairs R ns

pairs_of : (R : ℕ → ℕ → Type 0) (ns : List ℕ) → AllPairs R ns → Pairs R ns
pairs_of R [] pairs = tt
pairs_of R (n ∷ ns) pairs = (
  recursion_from_All (R n) ns (λ j d within. pairs 0 (suc j) d (omega arith) (omega arith)),
  pairs_of R ns (λ i j d less within. pairs (suc i) (suc j) d (omega arith) (omega arith)),
)

-- so it is of the front of a list
pairs_ahead : (R : ℕ → ℕ → Type 0) (ns ks : List ℕ) → Pairs R (ns ++ ks) → Pairs R ns
pairs_ahead R [] ks pairs = tt
pairs_ahead R (n ∷ ns) ks pairs = (
  all_in (R n) ns (λ x there. in_all (R n) (ns ++ ks) x pairs.0 (in_append_left ns ks x there)),
  pairs_ahead R ns ks pairs.1,
)

pairs_behind : (R : ℕ → ℕ → Type 0) (ns ks : List ℕ) → Pairs R (ns ++ ks) → Pairs R ks
pairs_behind R [] ks pairs = pairs
pairs_behind R (n ∷ ns) ks pairs = pairs_behind R ns ks pairs.1

-- R holds of a number in the front and a number further on
pairs_across : (R : ℕ → ℕ → Type 0) (ns ks : List ℕ) (n k : ℕ) → Pairs R (ns ++ ks) → In n ns → In k ks → R n k
pairs_across R [] ks n k pairs there behind = absurd there
pairs_across R (m ∷ ns) ks n k pairs there behind =
    ⊎_elim
    (λ same. subst (λ x. R x k) same (in_all (R m) (ns ++ ks) k pairs.0 (in_append_right ns ks k behind)))
    (λ later. pairs_across R ns ks n k pairs.1 later behind)
    there

-- ---- numbers that pass a test

above_where : (p : ℕ → Bool) (n : ℕ) (ns : List ℕ) → AllByRecursion (λ k. p k ≡ true → n < k) ns → AllByRecursion (λ k. n < k) (filter p ns)
above_where p n ns all =
    all_in (λ k. n < k) (filter p ns) (λ k there. let passes = of_filter p ns k there in in_all (λ k. p k ≡ true → n < k) ns k all passes.0 passes.1)

-- numbers that pass ascend, where of two that pass the earlier is the smaller
rises_where : (p : ℕ → Bool) (ns : List ℕ) → Pairs (λ n later. p n ≡ true → p later ≡ true → n < later) ns → Rises (filter p ns)
rises_where p [] pairs = tt
rises_where p (n ∷ ns) pairs =
    elim (p n) as (λ b. p n ≡ b → Rises (cond b (n ∷ filter p ns) (filter p ns))) [
      | true ↦ λ is. (above_where p n ns (all_in (λ k. p k ≡ true → n < k) ns (λ k there. in_all (λ k. p n ≡ true → p k ≡ true → n < k) ns k pairs.0 there is)), rises_where p ns pairs.1)
      | false ↦ λ is. rises_where p ns pairs.1
    ] refl

rising_pairs : (p : ℕ → Bool) (a n : ℕ) → Pairs (λ n later. p n ≡ true → p later ≡ true → n < later) (range_with_len a n)
rising_pairs p a zero = tt
rising_pairs p a (suc n) = (
  all_in (λ k. p a ≡ true → p k ≡ true → a < k) (range_with_len (a + 1) n) (λ k there here later. omega (arith, (of_range (a + 1) n k there).0)),
  rising_pairs p (a + 1) n,
)

-- where numbers that fail give nothing, all numbers give what those that pass give
given_where : {Y : Type 0} (p : ℕ → Bool) (f : ℕ → List Y) → ((j : ℕ) → p j ≡ false → f j ≡ []) → (ns : List ℕ) → flat_map f ns ≡ flat_map f (filter p ns)
given_where p f nothing [] = refl
given_where p f nothing (n ∷ ns) =
    elim (p n) as (λ b. p n ≡ b → f n ++ flat_map f ns ≡ flat_map f (cond b (n ∷ filter p ns) (filter p ns))) [
      | true ↦ λ is. ap (λ ys. f n ++ ys) (given_where p f nothing ns)
      | false ↦ λ fails. ap (λ ys. ys ++ flat_map f ns) (nothing n fails) ∙ given_where p f nothing ns
    ] refl

-- the same numbers of both lists pass, and in both lists they ascend
pub record SameWhere (p : ℕ → Bool) (ns ks : List ℕ) : Type 0 where
  pub rises : Pairs (λ n later. p n ≡ true → p later ≡ true → n < later) ns
  pub rise : Pairs (λ n later. p n ≡ true → p later ≡ true → n < later) ks
  pub into : (j : ℕ) → p j ≡ true → In j ns → In j ks
  pub from : (j : ℕ) → p j ≡ true → In j ks → In j ns

pub given_same : {Y : Type 0} (p : ℕ → Bool) (f : ℕ → List Y) (ns ks : List ℕ) → ((j : ℕ) → p j ≡ false → f j ≡ []) → SameWhere p ns ks → flat_map f ns ≡ flat_map f ks
given_same p f ns ks nothing same =
    let passed : filter p ns ≡ filter p ks = one_rising (filter p ns) (filter p ks) (rises_where p ns same.rises) (rises_where p ks same.rise)
    (λ j there. let is = of_filter p ns j there in in_filter p ks j (same.into j is.1 is.0) is.1)
    (λ j there. let is = of_filter p ks j there in in_filter p ns j (same.from j is.1 is.0) is.1) in
    given_where p f nothing ns ∙ ap (flat_map f) passed ∙ sym (given_where p f nothing ks)

-- ---- a permitted order

-- the items that touch a key
abbrev pub touches : List Receipt → Key → ℕ → Bool
touches journal k j = has k (keys_of_item journal j)

conflict_of : (journal : List Receipt) (k : Key) (i j : ℕ) → touches journal k i ≡ true → touches journal k j ≡ true → Conflicts journal i j
conflict_of journal k i j here there =
    let first = (has_decides k (keys_of_item journal i)).0 here in
    (first.0, k, first.1, first.2, (has_decides k (keys_of_item journal j)).0 there)

-- of two items that touch a key, the one that comes first in the order has the smaller number
in_turn_at : (journal : List Receipt) (order : List ℕ) (k : Key) → IsPermitted journal order → Pairs (λ n later. touches journal k n ≡ true → touches journal k later ≡ true → n < later) order
in_turn_at journal order k permitted =
    pairs_of (λ n later. touches journal k n ≡ true → touches journal k later ≡ true → n < later) order
    (λ i j d less within here there. permitted.in_turn i j d less within (conflict_of journal k _ _ here there))

-- each item of the journal stands in the order
pub in_order : (journal : List Receipt) (order : List ℕ) (j : ℕ) → IsPermitted journal order → 1 ≤ j → j ≤ length journal → In j order
in_order journal order j permitted low high = in_of_contains order j ((permitted.all j).1 (low, high))

pub of_order : (journal : List Receipt) (order : List ℕ) (j : ℕ) → IsPermitted journal order → In j order → (1 ≤ j) × (j ≤ length journal)
of_order journal order j permitted there = (permitted.all j).0 (contains_of_in order j there)

-- of the items that touch a key, those before item i in the order are those with a smaller number
pub ahead_of : (journal : List Receipt) (before after : List ℕ) (i : ℕ) (k : Key) → IsPermitted journal (before ++ i ∷ after) → touches journal k i ≡ true
    → SameWhere (touches journal k) before (range_with_len 1 (i - 1))
ahead_of journal before after i k permitted touched =
    let order = before ++ i ∷ after in
    let R : ℕ → ℕ → Type 0 = λ n later. touches journal k n ≡ true → touches journal k later ≡ true → n < later in
    let pairs : Pairs R order = in_turn_at journal order k permitted in
    let own = of_order journal order i permitted (in_append_right before (i ∷ after) i (inl refl)) in
    record {
      rises = pairs_ahead R before (i ∷ after) pairs;
      rise = rising_pairs (touches journal k) 1 (i - 1);
      into = λ j passes there.
          let low = (of_order journal order j permitted (in_append_left before (i ∷ after) j there)).0 in
          let less = pairs_across R before (i ∷ after) j i pairs there (inl refl) passes touched in
          in_range 1 (i - 1) j low (omega (arith, less));
      from = λ j passes there.
          let within = of_range 1 (i - 1) j there in
          let low = within.0 in
          let less : j < i = omega (arith, within.1, own.0) in
          ⊎_elim
          (λ ahead. ahead)
          (λ rest. ⊎_elim
          (λ same. absurd (omega (arith, same, less)))
          (λ behind. let more : i < j = in_all (R i) after j (pairs_behind R before (i ∷ after) pairs).0 behind touched passes in absurd (omega (arith, more, less)))
          rest)
          (of_append before (i ∷ after) j (in_order journal order j permitted low (omega (arith, less, own.1))));
    }

-- of the whole order, the items that touch a key are those of the journal that do
pub all_ahead : (journal : List Receipt) (order : List ℕ) (k : Key) → IsPermitted journal order → SameWhere (touches journal k) order (range_with_len 1 (length journal))
all_ahead journal order k permitted = record {
  rises = in_turn_at journal order k permitted;
  rise = rising_pairs (touches journal k) 1 (length journal);
  into = λ j passes there. let within = of_order journal order j permitted there in in_range 1 (length journal) j within.0 (omega (arith, within.1));
  from = λ j passes there. let within = of_range 1 (length journal) j there in in_order journal order j permitted within.0 (omega (arith, within.1));
}
