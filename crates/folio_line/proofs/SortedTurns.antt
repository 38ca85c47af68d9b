-- A sort of numbered exchanges by item, act and number puts the exchanges in turn.
use Rattle.std.proofs.Common.{◌≡◌, ℕ, ◌+◌, ◌≤◌, Bool, true, false, cond, eqb, nat_lt, nat_le, ◌&&◌, ◌||◌, List, [], ◌∷◌, filter, length, map, refl, sym, ap, ◌∙◌, arith}
use Rattle.std.specs.List.{AllByRecursion, IsDistinct}
use Rattle.std.specs.List.Sorted.{IsPermutation, IsSortedBy}
use Rattle.std.specs.Ordering.{is_lt, nat_cmp, ordering_then}
use Rattle.std.specs.declared.cmp.Ordering.TheVariants.{Less, Equal, Greater}
use Rattle.std.proofs.lemmas.Bool.Decides.{nat_tests}
use Rattle.std.proofs.lemmas.List.{length-map}
use Rattle.std.proofs.lemmas.List.Sorted.{IsPermutation-sym}
use Rattle.std.proofs.lemmas.Map.Keys.{IsDistinct-IsPermutation}
use Rattle.folio_sections.proofs.DistinctLists.{distinct_filter, distinct_weaker, one_distinct}
use Rattle.folio_sections.proofs.FilteredLists.{in_filter, of_filter}
use Rattle.folio_sections.proofs.Unchanged.{all_weaker}
use Rattle.folio_line.specs.Exchanges.{in_turn}
use Rattle.folio_line.specs.declared.exchanges.Exchange.{Exchange}
use Rattle.folio_line.specs.declared.exchange_turns.Turn.{Turn}
use Rattle.folio_line.specs.inner.Turns.{has_turn, turns_of}
use Rattle.folio_line.proofs.SortedLists.{distinct_both, in_permutation, sorted_distinct}
use Rattle.folio_line.proofs.Turns.{HasTurn, Rises, earlier, in_turn_rises, in_turn_stays, is_earlier, of_one_turn, one_order, same_turn}

abbrev exchange_of : Turn → Exchange
exchange_of t = t.exchange

-- ---- numbers

mapped_back : (n : ℕ) (xs : List Exchange) → map exchange_of (turns_of n xs) ≡ xs
mapped_back n [] = refl
mapped_back n (x ∷ xs) = ap (λ ys. x ∷ ys) (mapped_back (n + 1) xs)

-- the number of the second is not above that of the first
abbrev is_not_above : Turn → Turn → Bool
is_not_above s t = nat_le t.number s.number

all_above : (m n : ℕ) (xs : List Exchange) → m + 1 ≤ n → AllByRecursion (λ t. nat_le t.number m ≡ false) (turns_of n xs)
all_above m n [] above = tt
all_above m n (x ∷ xs) above = (grind (arith, nat_tests, above), all_above m (n + 1) xs (omega (arith, above)))

numbers_ascend : (n : ℕ) (xs : List Exchange) → IsDistinct is_not_above (turns_of n xs)
unfolding IsDistinct
numbers_ascend n [] = tt
numbers_ascend n (x ∷ xs) = (all_above n (n + 1) xs (omega arith), numbers_ascend (n + 1) xs)

above_apart : (s t : Turn) → is_not_above s t ≡ false → is_not_above t s ≡ false → ⊥
above_apart s t first second = grind (arith, nat_tests, first, second)

abbrev has_same_number : Turn → Turn → Bool
has_same_number s t = eqb s.number t.number

other_number : (s t : Turn) → is_not_above s t ≡ false → has_same_number s t ≡ false
other_number s t above = grind (arith, nat_tests, above)

turned_number : (s t : Turn) → has_same_number s t ≡ has_same_number t s
turned_number s t = grind (arith, nat_tests)

-- ---- the order of a sort

-- turn s stands before turn t: by the exchange, and of one turn by number
abbrev pub comes_before : Turn → Turn → Bool
comes_before s t =
    nat_lt s.exchange.item t.exchange.item
    || (eqb s.exchange.item t.exchange.item && (nat_lt s.exchange.act t.exchange.act || (eqb s.exchange.act t.exchange.act && nat_lt s.number t.number)))

before_on : (s t u : Turn) → comes_before t s ≡ false → comes_before u t ≡ false → comes_before u s ≡ false
before_on s t u first second = grind (arith, nat_tests, first, second)

not_earlier : (s t : Turn) → comes_before t s ≡ false → is_earlier t.exchange s.exchange ≡ false
not_earlier s t before = grind (arith, nat_tests, before)

-- of two numbered exchanges of one turn and of different numbers, the later one has the greater number
later_number : (s t : Turn) → is_earlier s.exchange t.exchange ≡ false → is_earlier t.exchange s.exchange ≡ false → (comes_before t s || has_same_number s t) ≡ false → is_not_above s t ≡ false
later_number s t first second apart = grind (arith, nat_tests, first, second, apart)

exchanges_rise : (ts : List Turn) → IsDistinct (λ s t. comes_before t s) ts → Rises (map exchange_of ts)
unfolding IsDistinct
exchanges_rise [] up = tt
exchanges_rise (t ∷ ts) up = (by ts up.0, exchanges_rise ts up.1)
  where
    by : (us : List Turn) → AllByRecursion (λ u. comes_before u t ≡ false) us → AllByRecursion (λ y. is_earlier y t.exchange ≡ false) (map exchange_of us)
    by [] all = tt
    by (u ∷ us) all = (not_earlier t u all.0, by us all.1)

-- ---- those of one turn stay

filter_mapped : (p : Exchange → Bool) (ts : List Turn) → filter p (map exchange_of ts) ≡ map exchange_of (filter (λ t. p t.exchange) ts)
filter_mapped p [] = refl
filter_mapped p (t ∷ ts) =
    elim (p t.exchange) as (λ b. cond b (t.exchange ∷ filter p (map exchange_of ts)) (filter p (map exchange_of ts)) ≡ map exchange_of (cond b (t ∷ filter (λ u. p u.exchange) ts) (filter (λ u. p u.exchange) ts))) [
      | true ↦ ap (λ ys. t.exchange ∷ ys) (filter_mapped p ts)
      | false ↦ filter_mapped p ts
    ]

of_turn_stays : (z : Exchange) (xs : List Exchange) (ts : List Turn) → IsPermutation (turns_of 0 xs) ts → IsDistinct (λ s t. comes_before t s) ts
    → filter (λ t. same_turn z t.exchange) ts ≡ filter (λ t. same_turn z t.exchange) (turns_of 0 xs)
of_turn_stays z xs ts permutation up =
    let all = turns_of 0 xs in
    let own : Turn → Bool = λ t. same_turn z t.exchange in
    let numbers = IsDistinct-IsPermutation has_same_number turned_number all ts permutation (distinct_weaker is_not_above has_same_number all (numbers_ascend 0 xs) (λ s t _ _ above. other_number s t above)) in
    let apart = distinct_filter (λ s t. comes_before t s || has_same_number s t) own ts (distinct_both (λ s t. comes_before t s) has_same_number ts up numbers) in
    one_distinct is_not_above above_apart (filter own ts) (filter own all)
    (distinct_weaker (λ s t. comes_before t s || has_same_number s t) is_not_above (filter own ts) apart
    (λ s t here there both.
    let first = of_one_turn z s.exchange (of_filter own ts s here).1 in
    let second = of_one_turn z t.exchange (of_filter own ts t there).1 in
    later_number s t (not_between z s.exchange t.exchange first second) (not_between z t.exchange s.exchange second first) both))
    (distinct_filter is_not_above own all (numbers_ascend 0 xs))
    (λ t here. let from = of_filter own ts t here in in_filter own all t (in_permutation all ts t permutation from.0) from.1)
    (λ t here. let from = of_filter own all t here in in_filter own ts t (in_permutation ts all t (IsPermutation-sym all ts permutation) from.0) from.1)
  where
    not_between : (v x y : Exchange) → (is_earlier v x ≡ false) × (is_earlier x v ≡ false) → (is_earlier v y ≡ false) × (is_earlier y v ≡ false) → is_earlier x y ≡ false
    not_between v x y first second = grind (arith, nat_tests, first.0, first.1, second.0, second.1)

-- ---- together

turn_is : (x : Exchange) → has_turn x ≡ true → HasTurn x
turn_is x has = record {
  item_from = grind (arith, nat_tests, has);
  item_to = grind (arith, nat_tests, has);
  act_from = grind (arith, nat_tests, has);
  act_to = grind (arith, nat_tests, has);
}

pub turns_count : (n : ℕ) (xs : List Exchange) → length (turns_of n xs) ≡ length xs
turns_count n xs = sym (length-map (turns_of n xs) exchange_of) ∙ ap length (mapped_back n xs)

pub sorted_turns : (xs : List Exchange) (ts : List Turn) → AllByRecursion (λ x. has_turn x ≡ true) xs → IsPermutation (turns_of 0 xs) ts → IsSortedBy comes_before ts → map exchange_of ts ≡ in_turn xs
sorted_turns xs ts has permutation sorted =
    let up = sorted_distinct comes_before before_on ts sorted in
    let turns = all_weaker (λ x. has_turn x ≡ true) HasTurn xs turn_is has in
    one_order (map exchange_of ts) (in_turn xs) (exchanges_rise ts up) (in_turn_rises xs)
    (λ z.
    filter_mapped (same_turn z) ts ∙ ap (map exchange_of) (of_turn_stays z xs ts permutation up) ∙ sym (filter_mapped (same_turn z) (turns_of 0 xs)) ∙ ap (filter (same_turn z)) (mapped_back 0 xs)
    ∙ sym (in_turn_stays z xs turns))

-- the order of the sort's key
pub key_before : (s t : Turn)
    → is_lt (ordering_then (ordering_then (nat_cmp s.exchange.item t.exchange.item) (nat_cmp s.exchange.act t.exchange.act)) (nat_cmp s.number t.number)) ≡ comes_before s t
key_before s t = by s.exchange.item t.exchange.item s.exchange.act t.exchange.act s.number t.number
  where
    by : (i j a b m n : ℕ) → is_lt (ordering_then (ordering_then (nat_cmp i j) (nat_cmp a b)) (nat_cmp m n)) ≡ (nat_lt i j || (eqb i j && (nat_lt a b || (eqb a b && nat_lt m n))))
    by i j a b m n =
        elim (nat_lt i j) as (λ t. is_lt (ordering_then (ordering_then (cond t Less (cond (eqb i j) Equal Greater)) (nat_cmp a b)) (nat_cmp m n)) ≡ (t || (eqb i j && (nat_lt a b || (eqb a b && nat_lt m n))))) [
          | true ↦ refl
          | false ↦ elim (eqb i j) as (λ t. is_lt (ordering_then (ordering_then (cond t Equal Greater) (nat_cmp a b)) (nat_cmp m n)) ≡ (t && (nat_lt a b || (eqb a b && nat_lt m n)))) [ true ↦ earlier a b m n | false ↦ refl ]
        ]
