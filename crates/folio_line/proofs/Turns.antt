-- Exchanges in turn: they rise, those of one turn keep their order, and of one list there is one such order.
use Rattle.std.proofs.Common.{◌≡◌, ◌⊎◌, ℕ, zero, suc, ◌+◌, ◌<◌, ◌≤◌, Bool, true, false, cond, eqb, nat_lt, not, ◌&&◌, ◌||◌, List, [], ◌∷◌, ◌++◌, filter, flat_map, refl, sym, ap, ◌∙◌, subst, inl, inr, ⊎_elim, arith, suc-le-suc, zero-le}
use Rattle.std.specs.List.{AllByRecursion, IsDistinct, range_with_len}
use Rattle.std.specs.List.Sorted.{ties}
use Rattle.std.specs.Ordering.{is_lt, nat_cmp, ordering_then}
use Rattle.std.specs.declared.cmp.Ordering.TheVariants.{Less, Equal, Greater}
use Rattle.std.proofs.lemmas.Bool.{cases_Bool, cond-false, cond-true, false≢true}
use Rattle.std.proofs.lemmas.Bool.Decides.{nat_tests}
use Rattle.std.proofs.lemmas.List.{append-nil}
use Rattle.std.proofs.lemmas.List.Elements.{filter-append}
use Rattle.gb_base.specs.Limits.{most_acts}
use Rattle.gb_base.proofs.Members.{In, of_flat_map}
use Rattle.folio_sections.specs.HeldRights.{last_number, receipt_numbers}
use Rattle.folio_sections.proofs.DistinctLists.{distinct_by, distinct_flat}
use Rattle.folio_sections.proofs.FilteredLists.{all_in, filter_none, in_filter, of_filter}
use Rattle.folio_sections.proofs.ReceiptNumbers.{distinct_over_numbers, numbers_are}
use Rattle.folio_sections.proofs.Unchanged.{all_weaker}
use Rattle.folio_line.specs.Exchanges.{in_turn, is_by}
use Rattle.folio_line.specs.declared.exchanges.Exchange.{Exchange}

-- ---- the order of turns

-- exchange x is of an earlier receipt than y, or of an earlier act of the same one
abbrev pub is_earlier : Exchange → Exchange → Bool
is_earlier x y = nat_lt x.item y.item || (eqb x.item y.item && nat_lt x.act y.act)

-- two exchanges are of one item and act
abbrev pub same_turn : Exchange → Exchange → Bool
same_turn = ties is_earlier

not_itself : (x : Exchange) → is_earlier x x ≡ false
not_itself x = grind (arith, nat_tests)

-- where y is not earlier than x, and z not earlier than y, z is not earlier than x
not_earlier_on : (x y z : Exchange) → is_earlier y x ≡ false → is_earlier z y ≡ false → is_earlier z x ≡ false
not_earlier_on x y z first second = grind (arith, nat_tests, first, second)

neither : (s t : Bool) → (not s && not t) ≡ true → (s ≡ false) × (t ≡ false)
neither true t never = absurd (false≢true never)
neither false true never = absurd (false≢true never)
neither false false both = (refl, refl)

with_both : (s t : Bool) → s ≡ false → t ≡ false → (not s && not t) ≡ true
with_both s t first second = (λ i. not (first i) && not (second i))

pub of_one_turn : (x y : Exchange) → same_turn x y ≡ true → (is_earlier x y ≡ false) × (is_earlier y x ≡ false)
of_one_turn x y same = neither (is_earlier x y) (is_earlier y x) same

ties_itself : (x : Exchange) → same_turn x x ≡ true
ties_itself x = with_both (is_earlier x x) (is_earlier x x) (not_itself x) (not_itself x)

-- ---- those of one turn

kept : (p : Exchange → Bool) (y : Exchange) (ys : List Exchange) → p y ≡ true → filter p (y ∷ ys) ≡ y ∷ filter p ys
kept p y ys h = cond-true _ _ _ h

left_out : (p : Exchange → Bool) (y : Exchange) (ys : List Exchange) → p y ≡ false → filter p (y ∷ ys) ≡ filter p ys
left_out p y ys h = cond-false _ _ _ h

-- ---- none is earlier than one ahead of it

abbrev NoneEarlier : Exchange → List Exchange → Type 0
NoneEarlier x ys = AllByRecursion (λ y. is_earlier y x ≡ false) ys

abbrev pub Rises : List Exchange → Type 0
Rises [] = Unit {0}
Rises (x ∷ xs) = NoneEarlier x xs × Rises xs

none_earlier_on : (x y : Exchange) (zs : List Exchange) → is_earlier y x ≡ false → NoneEarlier y zs → NoneEarlier x zs
none_earlier_on x y zs first all = all_weaker (λ z. is_earlier z y ≡ false) (λ z. is_earlier z x ≡ false) zs (λ z second. not_earlier_on x y z first second) all

-- ---- one order alone

-- an exchange of one turn with one that stands there is not earlier than the first
found_later : (first z : Exchange) (ys : List Exchange) (w : Exchange) (ws : List Exchange) → NoneEarlier first ys → filter (same_turn z) ys ≡ w ∷ ws → is_earlier z first ≡ false
found_later first z [] w ws all is = absurd (grind arith)
found_later first z (y ∷ ys) w ws all is =
    elim (cases_Bool (same_turn z y)) [
      | inl own ↦ not_earlier_on first y z all.0 (of_one_turn z y own).0
      | inr apart ↦ found_later first z ys w ws all.1 (sym (left_out (same_turn z) y ys apart) ∙ is)
    ]

pub one_order : (ys zs : List Exchange) → Rises ys → Rises zs → ((x : Exchange) → filter (same_turn x) ys ≡ filter (same_turn x) zs) → ys ≡ zs
one_order [] [] left right same = refl
one_order [] (z ∷ zs) left right same =
    let clash = same z ∙ kept (same_turn z) z zs (ties_itself z) in absurd (grind arith)
one_order (y ∷ ys) [] left right same =
    let clash = sym (same y) ∙ kept (same_turn y) y ys (ties_itself y) in absurd (grind arith)
one_order (y ∷ ys) (z ∷ zs) left right same =
    let at_y = kept (same_turn y) y ys (ties_itself y) in
    let at_z = kept (same_turn z) z zs (ties_itself z) in
    let up : is_earlier y z ≡ false = found_later z y (z ∷ zs) y (filter (same_turn y) ys) (not_itself z, right.0) (sym (same y) ∙ at_y) in
    let down : is_earlier z y ≡ false = found_later y z (y ∷ ys) z (filter (same_turn z) zs) (not_itself y, left.0) (same z ∙ at_z) in
    let heads = sym at_y ∙ same y ∙ kept (same_turn y) z zs (with_both (is_earlier y z) (is_earlier z y) up down) in
    let head : y ≡ z = grind (arith, heads) in
    let tails : (x : Exchange) → filter (same_turn x) ys ≡ filter (same_turn x) zs =
    λ x. elim (cases_Bool (same_turn x y)) [
      | inl own ↦
          let rest = sym (kept (same_turn x) y ys own) ∙ same x ∙ kept (same_turn x) z zs (ap (same_turn x) (sym head) ∙ own) in grind (arith, rest)
      | inr apart ↦
          sym (left_out (same_turn x) y ys apart) ∙ same x ∙ left_out (same_turn x) z zs (ap (same_turn x) (sym head) ∙ apart)
    ] in
    ap (λ w. w ∷ ys) head ∙ ap (λ l. z ∷ l) (one_order ys zs left.1 right.1 tails)

-- ---- by receipt and act

-- An exchange is by a receipt that there may be, as one of the acts that a filing has.
pub record HasTurn (x : Exchange) : Type 0 where
  pub item_from : 1 ≤ x.item
  pub item_to : x.item ≤ last_number
  pub act_from : 1 ≤ x.act
  pub act_to : x.act ≤ most_acts

-- the exchanges of one receipt, by act
abbrev of_receipt : List Exchange → ℕ → List Exchange
of_receipt xs n = flat_map (λ a. filter (is_by n a) xs) (range_with_len 1 most_acts)

-- exchanges of one act are not earlier than one another, nor is one of a later act of the receipt earlier
by_acts : (n a b : ℕ) (x y : Exchange) → is_by n a x ≡ true → is_by n b y ≡ true → a ≤ b → is_earlier y x ≡ false
by_acts n a b x y first second on = grind (arith, nat_tests, first, second, on)

by_receipts : (m n : ℕ) (x y : Exchange) → x.item ≡ m → y.item ≡ n → m < n → is_earlier y x ≡ false
by_receipts m n x y first second less = grind (arith, nat_tests)

is_of : (n a : ℕ) (x : Exchange) → is_by n a x ≡ true → x.item ≡ n
is_of n a x is = grind (arith, nat_tests, is)

acts_rise : (xs : List Exchange) (n : ℕ) → IsDistinct (λ x y. is_earlier y x) (of_receipt xs n)
acts_rise xs n =
    let f : ℕ → List Exchange = λ a. filter (is_by n a) xs in
    let on : (a b : ℕ) (x y : Exchange) → a ≤ b → In x (f a) → In y (f b) → is_earlier y x ≡ false =
    λ a b x y le here there. by_acts n a b x y (of_filter (is_by n a) xs x here).1 (of_filter (is_by n b) xs y there).1 le in
    distinct_flat (λ x y. is_earlier y x) f (λ a. distinct_by (λ x y. is_earlier y x) (f a) (λ x y here there. on a a x y (omega arith) here there))
    (λ a b x y less here there. on a b x y (omega (arith, less)) here there) 1 most_acts

item_of : (xs : List Exchange) (n : ℕ) (x : Exchange) → In x (of_receipt xs n) → x.item ≡ n
item_of xs n x there =
    let from = of_flat_map (λ a. filter (is_by n a) xs) (range_with_len 1 most_acts) x there in
    is_of n from.0 x (of_filter (is_by n from.0) xs x from.2).1

rises_of : (xs : List Exchange) → IsDistinct (λ x y. is_earlier y x) xs → Rises xs
unfolding IsDistinct
rises_of [] up = tt
rises_of (x ∷ xs) up = (up.0, rises_of xs up.1)

pub in_turn_rises : (xs : List Exchange) → Rises (in_turn xs)
in_turn_rises xs =
    rises_of (in_turn xs) (distinct_over_numbers (λ x y. is_earlier y x) (of_receipt xs) (acts_rise xs)
    (λ m n x y less here there. by_receipts m n x y (item_of xs m x here) (item_of xs n y there) less))

-- ---- those of one turn stay

-- where no list of a row gives anything to a test, all of them give nothing
none_give : (p : Exchange → Bool) (f : ℕ → List Exchange) (from many : ℕ) → ((m : ℕ) → from ≤ m → filter p (f m) ≡ []) → filter p (flat_map f (range_with_len from many)) ≡ []
none_give p f from zero none = refl
none_give p f from (suc many) none =
    let first : filter p (f from) ≡ [] = none from (omega arith) in
    let rest = none_give p f (from + 1) many (λ m above. none m (omega (arith, above))) in
    filter-append p (f from) (flat_map f (range_with_len (from + 1) many)) ∙ (λ i. first i ++ rest i)

-- where one list of a row alone has some that pass a test, all of them give what that one gives
one_gives : (p : Exchange → Bool) (f : ℕ → List Exchange) (k from many : ℕ) (zs : List Exchange) → from ≤ k → k < from + many → ((m : ℕ) → eqb m k ≡ false → filter p (f m) ≡ []) → filter p (f k) ≡ zs
    → filter p (flat_map f (range_with_len from many)) ≡ zs
one_gives p f k from zero zs low high others own = absurd (omega (arith, low, high))
one_gives p f k from (suc many) zs low high others own =
    let behind = flat_map f (range_with_len (from + 1) many) in
    filter-append p (f from) behind
    ∙ (elim (eqb from k) as (λ b. eqb from k ≡ b → filter p (f from) ++ filter p behind ≡ zs) [
      | true ↦ λ is.
          let here : from ≡ k = grind (arith, nat_tests, is) in
          let first : filter p (f from) ≡ zs = ap (λ n. filter p (f n)) here ∙ own in
          let rest = none_give p f (from + 1) many (λ m above. others m (later m above (omega (arith, here)))) in
          (λ i. first i ++ rest i) ∙ append-nil zs
      | false ↦ λ apart.
          let first : filter p (f from) ≡ [] = others from apart in
          let next : from + 1 ≤ k = grind (arith, nat_tests, apart, low) in
          let rest = one_gives p f k (from + 1) many zs next (omega (arith, high)) others own in
          λ i. first i ++ rest i
    ] refl)
  where
    later : (m : ℕ) → from + 1 ≤ m → k ≤ from → eqb m k ≡ false
    later m above le = grind (arith, nat_tests, above, le)

row_gives : (p : Exchange → Bool) (f : ℕ → List Exchange) (k n : ℕ) (ms : List ℕ) (zs : List Exchange) → ms ≡ range_with_len 1 n → 1 ≤ k → k ≤ n → ((m : ℕ) → eqb m k ≡ false → filter p (f m) ≡ []) → filter p (f k) ≡ zs
    → filter p (flat_map f ms) ≡ zs
row_gives p f k n ms zs is low high others own =
    subst (λ ks. filter p (flat_map f ks) ≡ zs) (sym is) (one_gives p f k 1 n zs low (omega (arith, high)) others own)

-- an exchange of the turn of exchange z is by the receipt and act of z
own_turn : (z x : Exchange) → same_turn z x ≡ true → is_by z.item z.act x ≡ true
own_turn z x same =
    let apart = of_one_turn z x same in
    grind (arith, nat_tests, apart.0, apart.1)

other_turn : (n a : ℕ) (z x : Exchange) → (eqb n z.item && eqb a z.act) ≡ false → same_turn z x ≡ true → is_by n a x ≡ false
other_turn n a z x apart same =
    let turn = of_one_turn z x same in
    grind (arith, nat_tests, apart, turn.0, turn.1)

-- where all that pass test p pass test q, a filter by q changes nothing of what passes p
pub both_tests : (p q : Exchange → Bool) (xs : List Exchange) → ((x : Exchange) → p x ≡ true → q x ≡ true) → filter p (filter q xs) ≡ filter p xs
both_tests p q [] on = refl
both_tests p q (x ∷ xs) on =
    ⊎_elim
    (λ is. ap (filter p) (kept q x xs is) ∙ ap (λ l. cond (p x) (x ∷ l) l) (both_tests p q xs on))
    (λ fails.
    let apart : p x ≡ false = ⊎_elim (λ passes. absurd (false≢true (sym fails ∙ on x passes))) (λ f. f) (cases_Bool (p x)) in
    ap (filter p) (left_out q x xs fails) ∙ both_tests p q xs on ∙ sym (left_out p x xs apart))
    (cases_Bool (q x))

no_test : (p q : Exchange → Bool) (xs : List Exchange) → ((x : Exchange) → p x ≡ true → q x ≡ false) → filter p (filter q xs) ≡ []
no_test p q [] off = refl
no_test p q (x ∷ xs) off =
    ⊎_elim
    (λ is.
    let apart : p x ≡ false = ⊎_elim (λ passes. absurd (false≢true (sym (off x passes) ∙ is))) (λ f. f) (cases_Bool (p x)) in
    ap (filter p) (kept q x xs is) ∙ left_out p x (filter q xs) apart ∙ no_test p q xs off)
    (λ fails. ap (filter p) (left_out q x xs fails) ∙ no_test p q xs off)
    (cases_Bool (q x))

-- the exchanges of a turn that there may be stay in turn as they were
turn_stays : (z : Exchange) (xs : List Exchange) → HasTurn z → filter (same_turn z) (in_turn xs) ≡ filter (same_turn z) xs
turn_stays z xs turn =
    let p = same_turn z in
    let other : (n : ℕ) → eqb n z.item ≡ false → (a : ℕ) → filter p (filter (is_by n a) xs) ≡ [] =
    λ n apart a. no_test p (is_by n a) xs (λ x same. other_turn n a z x (λ i. apart i && eqb a z.act) same) in
    let others : (n : ℕ) → eqb n z.item ≡ false → filter p (of_receipt xs n) ≡ [] =
    λ n apart. none_give p (λ a. filter (is_by n a) xs) 1 most_acts (λ a _. other n apart a) in
    let own : filter p (of_receipt xs z.item) ≡ filter p xs =
    one_gives p (λ a. filter (is_by z.item a) xs) z.act 1 most_acts (filter p xs) turn.act_from (act_within turn.act_to)
    (λ a apart. no_test p (is_by z.item a) xs (λ x same. other_turn z.item a z x (and_none (eqb z.item z.item) (eqb a z.act) apart) same))
    (both_tests p (is_by z.item z.act) xs (λ x same. own_turn z x same)) in
    row_gives p (of_receipt xs) z.item last_number receipt_numbers (filter p xs) numbers_are turn.item_from turn.item_to others own
  where
    act_within : z.act ≤ most_acts → z.act < 1 + most_acts
    act_within le = omega (arith, le)

    and_none : (s t : Bool) → t ≡ false → (s && t) ≡ false
    and_none true t is = is
    and_none false t is = refl

-- none of these is of the turn of z, or that is a turn that there may be
none_of_turn : (z : Exchange) (xs : List Exchange) → AllByRecursion HasTurn xs → (filter (same_turn z) xs ≡ []) ⊎ HasTurn z
none_of_turn z [] all = inl refl
none_of_turn z (x ∷ xs) all =
    ⊎_elim
    (λ same. inr (turn_of z x same all.0))
    (λ apart. ⊎_elim (λ none. inl (left_out (same_turn z) x xs apart ∙ none)) (λ has. inr has) (none_of_turn z xs all.1))
    (cases_Bool (same_turn z x))
  where
    turn_of : (v w : Exchange) → same_turn v w ≡ true → HasTurn w → HasTurn v
    turn_of v w same turn =
        let apart = of_one_turn v w same in
        let item : w.item ≡ v.item = grind (arith, nat_tests, apart.0, apart.1) in
        let act : w.act ≡ v.act = grind (arith, nat_tests, apart.0, apart.1) in
        record {
          item_from = subst (λ n. 1 ≤ n) item turn.item_from;
          item_to = subst (λ n. n ≤ last_number) item turn.item_to;
          act_from = subst (λ n. 1 ≤ n) act turn.act_from;
          act_to = subst (λ n. n ≤ most_acts) act turn.act_to;
        }

-- what stands in turn is what was put there
pub of_turn : (xs : List Exchange) (y : Exchange) → In y (in_turn xs) → In y xs
of_turn xs y there =
    let from = of_flat_map (of_receipt xs) receipt_numbers y there in
    let act = of_flat_map (λ a. filter (is_by from.0 a) xs) (range_with_len 1 most_acts) y from.2 in
    (of_filter (is_by from.0 act.0) xs y act.2).0

-- where there is no exchange of a turn, there is none in turn either
none_in_turn : (z : Exchange) (xs : List Exchange) → filter (same_turn z) xs ≡ [] → filter (same_turn z) (in_turn xs) ≡ []
none_in_turn z xs none =
    filter_none (same_turn z) (in_turn xs) (all_in (λ x. same_turn z x ≡ false) (in_turn xs) (λ x there. apart x (of_turn xs x there)))
  where
    apart : (x : Exchange) → In x xs → same_turn z x ≡ false
    apart x there =
        ⊎_elim (λ same. absurd (subst (In x) none (in_filter (same_turn z) xs x there same))) (λ f. f) (cases_Bool (same_turn z x))

pub in_turn_stays : (z : Exchange) (xs : List Exchange) → AllByRecursion HasTurn xs → filter (same_turn z) (in_turn xs) ≡ filter (same_turn z) xs
in_turn_stays z xs all =
    ⊎_elim (λ none. none_in_turn z xs none ∙ sym none) (λ turn. turn_stays z xs turn) (none_of_turn z xs all)

-- ---- the order of a sort

lesser : (a b : ℕ) → is_lt (nat_cmp a b) ≡ nat_lt a b
lesser a b =
    elim (nat_lt a b) as (λ t. is_lt (cond t Less (cond (eqb a b) Equal Greater)) ≡ t) [
      | true ↦ refl
      | false ↦ elim (eqb a b) as (λ t. is_lt (cond t Equal Greater) ≡ false) [ true ↦ refl | false ↦ refl ]
    ]

pub earlier : (i j a b : ℕ) → is_lt (ordering_then (nat_cmp i j) (nat_cmp a b)) ≡ (nat_lt i j || (eqb i j && nat_lt a b))
earlier i j a b =
    elim (nat_lt i j) as (λ t. is_lt (ordering_then (cond t Less (cond (eqb i j) Equal Greater)) (nat_cmp a b)) ≡ (t || (eqb i j && nat_lt a b))) [
      | true ↦ refl
      | false ↦ elim (eqb i j) as (λ t. is_lt (ordering_then (cond t Equal Greater) (nat_cmp a b)) ≡ (t && nat_lt a b)) [ true ↦ lesser a b | false ↦ refl ]
    ]
