-- A walk over an order accepts exactly the permitted ones.
use Rattle.std.proofs.Common.{◌≡◌, ◌↔◌, ℕ, suc, zero, ◌+◌, ◌-◌, ◌<◌, ◌≤◌, Bool, true, false, not, nat_le, ◌&&◌, List, [], ◌∷◌, ◌++◌, All, AllPairs, Contains, IsTrue, Option, Some, None, drop, filter, get_or, length, set, slice_get, inl, inr, refl, sym, ap, subst, ◌∙◌, ⊎_elim, append_assoc, arith}
use Rattle.std.specs.List.{list_all, range_with_len}
use Rattle.std.specs.Option.{option_map_or}
use Rattle.std.proofs.lemmas.Bool.{and_parts, cases_Bool, cases_eq, false≢true}
use Rattle.std.proofs.lemmas.Bool.Decides.{nat_tests}
use Rattle.std.proofs.lemmas.List.{append-nil, get_or-set_other, get_or-set_same, length-set}
use Rattle.std.proofs.lemmas.List.Elements.{All-from_recursion}
use Rattle.std.proofs.lemmas.List.Kept.{AllPairs-cons}
use Rattle.std.proofs.lemmas.Option.{slice_get-get_or}
use Rattle.gb_base.proofs.Members.{In, in_append_left, in_append_right, of_append, of_range}
use Rattle.gb_base.specs.declared.keys.Key.{Key}
use Rattle.act_model.proofs.KeyOrder.{in_key_order_members}
use Rattle.act_model.specs.declared.receipts.Receipt.{Receipt}
use Rattle.conflict_queue.proofs.Numbered.{docket_len, numbered_at, previous_is}
use Rattle.conflict_queue.specs.Dockets.{docket_of, has_key, keys_touched, previous, previous_in}
use Rattle.conflict_queue.specs.ItemKeys.{keys_of_item}
use Rattle.conflict_queue.specs.Schedules.{IsPermitted}
use Rattle.folio_sections.proofs.FilteredLists.{all_in, of_filter}
use Rattle.registrar.proofs.RisingNumbers.{contains_of_in, in_of_contains}
use Rattle.desk_pool.proofs.CutLists.{last_in, stands_once}
use Rattle.desk_pool.proofs.WaitingInTurn.{permitted_waits, waiting_permits}
use Rattle.desk_pool.specs.Turns.{WaitsInTurn}
use Rattle.desk_pool.specs.inner.OrderWalks.{has_turn, is_free, is_item, is_settled, keys_in, walks}

-- ---- what is noted

-- of so many items, exactly these are noted as settled
record Notes (count : ℕ) (done : List ℕ) (settled : List Bool) : Type 0 where
  len : length settled ≡ count
  into : (n : ℕ) → 1 ≤ n → is_settled settled n ≡ true → In n done
  from : (n : ℕ) → In n done → is_settled settled n ≡ true
  within : (n : ℕ) → In n done → (1 ≤ n) × (n ≤ count)

written : (bs : List Bool) (n i : ℕ) → 1 ≤ i → i ≤ length bs → n ≡ i → is_settled (set bs (i - 1) true) n ≡ true
written bs n i low high same =
    let count = length-set bs (i - 1) true in
    let place : n - 1 ≡ i - 1 = omega (arith, same) in
    ap (λ m. option_map_or (λ (b : Bool). b) (slice_get (set bs (i - 1) true) m) false) place
    ∙ ap (λ o. option_map_or (λ (b : Bool). b) o false)
    (slice_get-get_or (set bs (i - 1) true) (i - 1) true (omega (arith, count, low, high)) ∙ ap (λ w. Some w) (get_or-set_same bs (i - 1) true true (omega (arith, low, high))))

-- the value at a place, or false
value_at : (bs : List Bool) (m : ℕ) → option_map_or (λ (b : Bool). b) (slice_get bs m) false ≡ get_or bs m false
value_at [] m = refl
value_at (b ∷ bs) zero = refl
value_at (b ∷ bs) (suc m) = value_at bs m

unwritten : (bs : List Bool) (n i : ℕ) → 1 ≤ n → 1 ≤ i → (n ≡ i → ⊥) → is_settled (set bs (i - 1) true) n ≡ is_settled bs n
unwritten bs n i low above unlike =
    value_at (set bs (i - 1) true) (n - 1)
    ∙ get_or-set_other bs (i - 1) (n - 1) true false (λ same. unlike (omega (arith, same, low, above)))
    ∙ sym (value_at bs (n - 1))

noted_next : (count : ℕ) (done : List ℕ) (settled : List Bool) (i : ℕ) → 1 ≤ i → i ≤ count → Notes count done settled → Notes count (done ++ i ∷ []) (set settled (i - 1) true)
noted_next count done settled i low high notes =
    let long = notes.len in
    record {
      len = length-set settled (i - 1) true ∙ notes.len;
      into = λ n above is. ⊎_elim
          (λ same. in_append_right done (i ∷ []) n (inl (sym same)))
          (λ unlike. in_append_left done (i ∷ []) n (notes.into n above (sym (unwritten settled n i above low unlike) ∙ is)))
          (cases_eq n i);
      from = λ n there. ⊎_elim
          (λ same. written settled n i low (omega (arith, high, long)) same)
          (λ unlike.
          let ahead : In n done = ⊎_elim (λ front. front) (λ rest. ⊎_elim (λ same. absurd (unlike (sym same))) (λ none. absurd none) rest) (of_append done (i ∷ []) n there) in
          unwritten settled n i (notes.within n ahead).0 low unlike ∙ notes.from n ahead)
          (cases_eq n i);
      within = λ n there. ⊎_elim
          (λ front. notes.within n front)
          (λ rest. ⊎_elim (λ same. (omega (arith, low, same), omega (arith, high, same))) (λ none. absurd none) rest)
          (of_append done (i ∷ []) n there);
    }

none_noted : (bs : List Bool) → All (λ b. b ≡ false) bs → Notes (length bs) [] bs
none_noted bs none = record {
  len = refl;
  into = λ n low is. absurd (false≢true (sym (unset bs none (n - 1)) ∙ is));
  from = λ n there. absurd there;
  within = λ n there. absurd there;
}
  where
    unset : (cs : List Bool) → All (λ b. b ≡ false) cs → (m : ℕ) → option_map_or (λ (b : Bool). b) (slice_get cs m) false ≡ false
    unset [] none m = refl
    unset (b ∷ bs) none zero = none 0 false (omega arith)
    unset (b ∷ bs) none (suc m) = unset bs (λ j d within. none (suc j) d (omega (arith, within))) m

-- ---- whose turn it is

free_passes : (settled : List Bool) (before : Option ℕ) → ((p : ℕ) → before ≡ Some p → is_settled settled p ≡ true) → is_free settled before ≡ true
free_passes settled None each = refl
free_passes settled (Some p) each = each p refl

all_pass : {X : Type 0} (t : X → Bool) (xs : List X) → ((x : X) → In x xs → t x ≡ true) → list_all t xs ≡ true
all_pass t [] each = refl
all_pass t (x ∷ xs) each = ap (λ b. b && list_all t xs) (each x (inl refl)) ∙ all_pass t xs (λ y there. each y (inr there))

one_passes : {X : Type 0} (t : X → Bool) (xs : List X) (x : X) → list_all t xs ≡ true → In x xs → t x ≡ true
one_passes t [] x all there = absurd there
one_passes t (y ∷ ys) x all there =
    let both = and_parts (t y) (list_all t ys) all in
    ⊎_elim (λ same. ap t (sym same) ∙ both.0) (λ later. one_passes t ys x both.1 later) there

keys_are : (journal : List Receipt) (i : ℕ) → 1 ≤ i → i ≤ length journal → keys_in (docket_of journal) i ≡ keys_touched journal i
keys_are journal i low high = ap (λ o. option_map_or (λ (ks : List Key). ks) o []) (numbered_at (keys_touched journal) (length journal) i low high)

-- all that follows where an item has its turn
record Turn (journal : List Receipt) (settled : List Bool) (i : ℕ) : Type 0 where
  low : 1 ≤ i
  high : i ≤ length journal
  fresh : is_settled settled i ≡ false
  free : (p : ℕ) (k : Key) → Contains (keys_of_item journal i) k → previous journal i k ≡ Some p → is_settled settled p ≡ true

unset_of : (b : Bool) → not b ≡ true → b ≡ false
unset_of true is = absurd (false≢true is)
unset_of false is = refl

turn_says : (journal : List Receipt) (settled : List Bool) (i : ℕ) → has_turn (docket_of journal) settled i ≡ true → Turn journal settled i
turn_says journal settled i is =
    let docket = docket_of journal in
    let waits : Key → Bool = λ k. is_free settled (previous_in docket i k) in
    let first = and_parts (is_item docket i) (not (is_settled settled i) && list_all waits (keys_in docket i)) is in
    let bounds = and_parts (nat_le 1 i) (nat_le i (length docket)) first.0 in
    let rest = and_parts (not (is_settled settled i)) (list_all waits (keys_in docket i)) first.1 in
    let count = docket_len journal in
    let low : 1 ≤ i = grind (arith, nat_tests, bounds.0) in
    let within : i ≤ length docket = grind (arith, nat_tests, bounds.1) in
    let high : i ≤ length journal = omega (arith, within, count) in
    record {
      low = low;
      high = high;
      fresh = unset_of (is_settled settled i) rest.0;
      free = λ p k own before.
          let key : In k (keys_touched journal i) = in_of_contains (keys_touched journal i) k ((in_key_order_members (keys_of_item journal i) k).1 own) in
          let passes = one_passes waits (keys_touched journal i) k (subst (λ ks. list_all waits ks ≡ true) (keys_are journal i low high) rest.1) key in
          sym (ap (is_free settled) (previous_is journal docket k i refl within ∙ before)) ∙ passes;
    }

says_turn : (journal : List Receipt) (settled : List Bool) (i : ℕ) → Turn journal settled i → has_turn (docket_of journal) settled i ≡ true
says_turn journal settled i turn =
    let docket = docket_of journal in
    let waits : Key → Bool = λ k. is_free settled (previous_in docket i k) in
    let count = docket_len journal in
    let low = turn.low in
    let high = turn.high in
    let within : i ≤ length docket = omega (arith, high, count) in
    let first : nat_le 1 i ≡ true = grind (arith, nat_tests, low) in
    let second : nat_le i (length docket) ≡ true = grind (arith, nat_tests, within) in
    let fresh : not (is_settled settled i) ≡ true = ap not turn.fresh in
    let all : list_all waits (keys_in docket i) ≡ true =
    subst (λ ks. list_all waits ks ≡ true) (sym (keys_are journal i low high))
    (all_pass waits (keys_touched journal i)
    (λ k there. free_passes settled (previous_in docket i k)
    (λ p is. turn.free p k ((in_key_order_members (keys_of_item journal i) k).0 (contains_of_in (keys_touched journal i) k there)) (sym (previous_is journal docket k i refl within) ∙ is)))) in
    λ j. (first j && second j) && (fresh j && all j)

-- ---- an order that is walked to its end

-- lists that are equal and not empty have equal first elements and equal rests
first_same : (x y : ℕ) (xs ys : List ℕ) → x ∷ xs ≡ y ∷ ys → x ≡ y
first_same x y xs ys is = ap (λ ns. get_or ns 0 x) is

rest_same : (x y : ℕ) (xs ys : List ℕ) → x ∷ xs ≡ y ∷ ys → xs ≡ ys
rest_same x y xs ys is = ap (drop 1) is

previous_from : (journal : List Receipt) (i p : ℕ) (k : Key) → previous journal i k ≡ Some p → 1 ≤ p
previous_from journal i p k is =
    let those = filter (λ n. has_key k (keys_of_item journal n)) (range_with_len 1 (i - 1)) in
    (of_range 1 (i - 1) p (of_filter (λ n. has_key k (keys_of_item journal n)) (range_with_len 1 (i - 1)) p (last_in p those is)).0).0

all_noted : (bs : List Bool) (m : ℕ) → list_all (λ b. b) bs ≡ true → m < length bs → option_map_or (λ (b : Bool). b) (slice_get bs m) false ≡ true
all_noted [] m all within = absurd (omega arith)
all_noted (b ∷ bs) zero all within = (and_parts b (list_all (λ x. x) bs) all).0
all_noted (b ∷ bs) (suc m) all within = all_noted bs m (and_parts b (list_all (λ x. x) bs) all).1 (omega (arith, within))

noted_all : (bs : List Bool) → ((m : ℕ) → m < length bs → option_map_or (λ (b : Bool). b) (slice_get bs m) false ≡ true) → list_all (λ b. b) bs ≡ true
noted_all [] each = refl
noted_all (b ∷ bs) each =
    let here : b ≡ true = each 0 (omega arith) in
    let rest = noted_all bs (λ m within. each (suc m) (omega (arith, within))) in
    λ j. here j && rest j

-- an item has its turn, it is noted as settled, and the walk goes on
record Goes (journal : List Receipt) (done : List ℕ) (settled : List Bool) (i : ℕ) (rest : List ℕ) : Type 0 where
  turn : Turn journal settled i
  notes : Notes (length journal) (done ++ i ∷ []) (set settled (i - 1) true)
  walk : walks (docket_of journal) (set settled (i - 1) true) rest ≡ true

module _ (journal : List Receipt) where
  goes : (done : List ℕ) (settled : List Bool) (i : ℕ) (rest : List ℕ) → Notes (length journal) done settled → walks (docket_of journal) settled (i ∷ rest) ≡ true → Goes journal done settled i rest
  goes done settled i rest notes is =
      let both = and_parts (has_turn (docket_of journal) settled i) (walks (docket_of journal) (set settled (i - 1) true) rest) is in
      let turn = turn_says journal settled i both.0 in
      record { turn = turn; notes = noted_next (length journal) done settled i turn.low turn.high notes; walk = both.1 }

  -- each item that is walked is of the journal
  walked_within : (done rest : List ℕ) (settled : List Bool) (n : ℕ) → Notes (length journal) done settled → walks (docket_of journal) settled rest ≡ true → In n rest → (1 ≤ n) × (n ≤ length journal)
  walked_within done [] settled n notes is there = absurd there
  walked_within done (i ∷ rest) settled n notes is there =
      let on = goes done settled i rest notes is in
      let low = on.turn.low in
      let high = on.turn.high in
      ⊎_elim
      (λ same. (omega (arith, low, same), omega (arith, high, same)))
      (λ later. walked_within (done ++ i ∷ []) rest (set settled (i - 1) true) n on.notes on.walk later)
      there

  -- no item that is walked was settled before
  walked_apart : (done rest : List ℕ) (settled : List Bool) (n : ℕ) → Notes (length journal) done settled → walks (docket_of journal) settled rest ≡ true → In n done → In n rest → ⊥
  walked_apart done [] settled n notes is ahead there = there
  walked_apart done (i ∷ rest) settled n notes is ahead there =
      let on = goes done settled i rest notes is in
      ⊎_elim
      (λ same. false≢true (sym on.turn.fresh ∙ ap (is_settled settled) same ∙ notes.from n ahead))
      (λ later. walked_apart (done ++ i ∷ []) rest (set settled (i - 1) true) n on.notes on.walk (in_append_left done (i ∷ []) n ahead) later)
      there

  walked_once : (done rest : List ℕ) (settled : List Bool) → Notes (length journal) done settled → walks (docket_of journal) settled rest ≡ true → AllPairs (λ i later. i ≡ later → ⊥) rest
  walked_once done [] settled notes is = λ i j d less within. absurd (omega (arith, within))
  walked_once done (i ∷ rest) settled notes is =
      let on = goes done settled i rest notes is in
      AllPairs-cons (λ x y. x ≡ y → ⊥) i rest
      (All-from_recursion (λ y. i ≡ y → ⊥) rest (all_in (λ y. i ≡ y → ⊥) rest
      (λ y there same. walked_apart (done ++ i ∷ []) rest (set settled (i - 1) true) y on.notes on.walk (in_append_right done (i ∷ []) y (inl same)) there)))
      (walked_once (done ++ i ∷ []) rest (set settled (i - 1) true) on.notes on.walk)

  -- all items of the journal are there
  walked_all : (done rest : List ℕ) (settled : List Bool) (n : ℕ) → Notes (length journal) done settled → walks (docket_of journal) settled rest ≡ true → 1 ≤ n → n ≤ length journal → In n (done ++ rest)
  walked_all done [] settled n notes is low high =
      let long = notes.len in
      in_append_left done [] n (notes.into n low (all_noted settled (n - 1) is (omega (arith, low, high, long))))
  walked_all done (i ∷ rest) settled n notes is low high =
      let on = goes done settled i rest notes is in
      subst (In n) (append_assoc done (i ∷ []) rest) (walked_all (done ++ i ∷ []) rest (set settled (i - 1) true) n on.notes on.walk low high)

  -- for each key of an item, the item before it there was walked earlier
  walked_waits : (done rest : List ℕ) (settled : List Bool) (before after : List ℕ) (i p : ℕ) (k : Key) → Notes (length journal) done settled → walks (docket_of journal) settled rest ≡ true
      → rest ≡ before ++ i ∷ after → Contains (keys_of_item journal i) k → previous journal i k ≡ Some p → In p (done ++ before)
  walked_waits done [] settled [] after i p k notes is cut own last = absurd (cc cut)
  walked_waits done [] settled (b ∷ before) after i p k notes is cut own last = absurd (cc cut)
  walked_waits done (r ∷ rest) settled [] after i p k notes is cut own last =
      let on = goes done settled r rest notes is in
      let same : r ≡ i = first_same r i rest after cut in
      in_append_left done [] p
      (notes.into p (previous_from journal i p k last)
      (on.turn.free p k (subst (λ n. Contains (keys_of_item journal n) k) (sym same) own) (ap (λ n. previous journal n k) same ∙ last)))
  walked_waits done (r ∷ rest) settled (b ∷ before) after i p k notes is cut own last =
      let on = goes done settled r rest notes is in
      let same : r ≡ b = first_same r b rest (before ++ i ∷ after) cut in
      subst (λ n. In p (done ++ n ∷ before)) same
      (subst (In p) (append_assoc done (r ∷ []) before)
      (walked_waits (done ++ r ∷ []) rest (set settled (r - 1) true) before after i p k on.notes on.walk (rest_same r b rest (before ++ i ∷ after) cut) own last))

  -- ---- an order in which items wait is walked to its end

  waiting_walks : (order done rest : List ℕ) (settled : List Bool) → WaitsInTurn journal order → order ≡ done ++ rest → Notes (length journal) done settled → walks (docket_of journal) settled rest ≡ true
  waiting_walks order done [] settled waits is notes =
      noted_all settled (λ m within.
      let long = notes.len in
      let back : m ≡ (m + 1) - 1 = omega arith in
      let there : In (m + 1) order = in_of_contains order (m + 1) ((waits.all (m + 1)).1 (omega arith, omega (arith, within, long))) in
      ap (λ n. option_map_or (λ (b : Bool). b) (slice_get settled n) false) back
      ∙ notes.from (m + 1) (subst (In (m + 1)) (is ∙ append-nil done) there))
  waiting_walks order done (i ∷ rest) settled waits is notes =
      let there : In i order = subst (In i) (sym is) (in_append_right done (i ∷ rest) i (inl refl)) in
      let range = (waits.all i).0 (contains_of_in order i there) in
      let once = subst (AllPairs (λ x y. x ≡ y → ⊥)) is waits.once in
      let turn : Turn journal settled i = record {
        low = range.0;
        high = range.1;
        fresh = ⊎_elim (λ yes. absurd (stands_once done (i ∷ rest) i once (notes.into i range.0 yes) (inl refl))) (λ no. no) (cases_Bool (is_settled settled i));
        free = λ p k own last. notes.from p (in_of_contains done p (waits.waits done rest i p k is own last));
      } in
      let here = says_turn journal settled i turn in
      let further = waiting_walks order (done ++ i ∷ []) rest (set settled (i - 1) true) waits (is ∙ sym (append_assoc done (i ∷ []) rest)) (noted_next (length journal) done settled i range.0 range.1 notes) in
      λ j. here j && further j

  pub walks_permitted : (order : List ℕ) (settled : List Bool) → length settled ≡ length journal → All (λ b. b ≡ false) settled → IsTrue (walks (docket_of journal) settled order) ↔ IsPermitted journal order
  walks_permitted order settled long none =
      let notes : Notes (length journal) [] settled = subst (λ n. Notes n [] settled) long (none_noted settled none) in (
        λ is. waiting_permits journal order (record {
          all = λ n. (
            λ there. walked_within [] order settled n notes is (in_of_contains order n there),
            λ range. contains_of_in order n (walked_all [] order settled n notes is range.0 range.1),
          );
          once = walked_once [] order settled notes is;
          waits = λ before after i p k cut own last. contains_of_in before p (walked_waits [] order settled before after i p k notes is cut own last);
        }),
        λ permitted. waiting_walks order [] order settled (permitted_waits journal order permitted) refl notes,
      )
