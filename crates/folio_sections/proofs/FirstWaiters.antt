-- The waiters that pass a test, such as that they wait or lack a notice, are the filings that pass it by the entries. So the first and the last are the same too.
use Rattle.std.proofs.Common.{◌≡◌, ℕ, suc, zero, ◌+◌, ◌-◌, ◌<◌, ◌≤◌, Bool, true, false, cond, ◌==◌, ◌&&◌, ◌⊎◌, inl, inr, ⊎_elim, nat_lt, List, [], ◌∷◌, Option, Some, None, drop, filter, find, get_or, is_none, is_some, length, map, option_and_then, option_map, position, reverse, take, take_while, refl, sym, ap, subst, ◌∙◌, arith}
use Rattle.std.specs.List.{AllByRecursion, last_or, range_with_len}
use Rattle.std.specs.Option.{option_or}
use Rattle.std.proofs.lemmas.List.{reverse-append}
use Rattle.std.proofs.lemmas.List.Folds.{find-append}
use Rattle.std.proofs.lemmas.Bool.{eqb-true, false≢true}
use Rattle.std.proofs.lemmas.Bool.Decides.{nat_tests}
use Rattle.std.proofs.lemmas.List.Sums.{take_while-cons}
use Rattle.folio_sections.specs.Waiting.{waiting_before, waiting_unnoticed, receipts_before, is_above, is_notice_of, is_pending}
use Rattle.folio_sections.specs.declared.entries.Entry.{Entry}
use Rattle.folio_sections.specs.declared.filing_list.OfFiling.{OfFiling}
use Rattle.folio_sections.specs.inner.FilingLists.{Ascends, of_filing, value_in}
use Rattle.folio_sections.specs.inner.Unnoticed.{first_that, floor, is_before, is_unnoticed, is_wanted, last_that}
use Rattle.folio_sections.specs.inner.Waiters.{SayAs, Until, lacks_notice, until_in, waits}
use Rattle.folio_sections.proofs.Indexes.{find_passes, is_some-find, is_some-position}
use Rattle.folio_sections.proofs.Unnoticed.{unnoticed_is}
use Rattle.folio_sections.proofs.FilingsInOrder.{AreBelow, IsNotBelow, none_below}

-- ---- among the waiters

-- what fails before an index is passed over
pub passed_over : {X : Type 0} (p : X → Bool) (i : ℕ) (xs : List X) → ((k : ℕ) (d : X) → k < i → k < length xs → p (get_or xs k d) ≡ false) → find p xs ≡ find p (drop i xs)
passed_over p zero xs fail = refl
passed_over p (suc i) [] fail = refl
passed_over p (suc i) (x ∷ xs) fail =
    rw (fail zero x (omega arith) (omega arith)) (passed_over p i xs (λ k d less within. fail (suc k) d (omega arith) (omega arith)))

wanted_is : (b c d : Bool) → c ≡ false ⊎ d ≡ false → (b && (c && d)) ≡ false
wanted_is false c d either = refl
wanted_is true false d either = refl
wanted_is true true false either = refl
wanted_is true true true either = ⊎_elim (λ not_c. absurd (false≢true (sym not_c))) (λ not_d. absurd (false≢true (sym not_d))) either

-- a waiter that is not above the number, or fails the test, is not wanted
pub not_above : (t : Until → Bool) (low : ℕ) (m : ℕ) (w : Until) → nat_lt low w.filing ≡ false → is_wanted t low m w ≡ false
not_above t low m w not_it = wanted_is (nat_lt w.filing m) (nat_lt low w.filing) (t w) (inl not_it)

pub failing : (t : Until → Bool) (low : ℕ) (m : ℕ) (w : Until) → t w ≡ false → is_wanted t low m w ≡ false
failing t low m w not_it = wanted_is (nat_lt w.filing m) (nat_lt low w.filing) (t w) (inr not_it)

rises_behind : (a n : ℕ) (ws : List Until) → Ascends a ws → Ascends 0 (drop n ws)
rises_behind a zero [] up = tt
rises_behind a zero (w ∷ ws) up = (omega arith, up.1)
rises_behind a (suc n) [] up = tt
rises_behind a (suc n) (w ∷ ws) up = rises_behind (w.filing + 1) n ws up.1

-- after a filing that is not below m none is wanted
none_behind : (t : Until → Bool) (low : ℕ) (m a : ℕ) (ws : List Until) → Ascends a ws → m ≤ a → find (is_wanted t low m) ws ≡ None
none_behind t low m a [] up high = refl
none_behind t low m a (w ∷ ws) up high =
    let first = up.0 in
    let not_below : nat_lt w.filing m ≡ false = grind (arith, nat_tests, first, high) in
    rw not_below (none_behind t low m (w.filing + 1) ws up.1 (omega arith))

-- so the search may end there
pub ends_there : (t : Until → Bool) (low : ℕ) (m a : ℕ) (ws : List Until) → Ascends a ws
    → find (λ w. nat_lt low w.filing && t w) (take_while (λ w. nat_lt w.filing m) ws) ≡ find (is_wanted t low m) ws
ends_there t low m a [] up = refl
ends_there t low m a (w ∷ ws) up =
    ap (find (λ v. nat_lt low v.filing && t v)) (take_while-cons (λ v. nat_lt v.filing m) w ws)
    ∙ elim (nat_lt w.filing m) as (λ b. nat_lt w.filing m ≡ b
    → find (λ v. nat_lt low v.filing && t v) (cond b (w ∷ take_while (λ v. nat_lt v.filing m) ws) []) ≡ cond (b && (nat_lt low w.filing && t w)) (Some w) (find (is_wanted t low m) ws)) [
      | true ↦ λ below. ap (cond (nat_lt low w.filing && t w) (Some w)) (ends_there t low m (w.filing + 1) ws up.1)
      | false ↦ λ not_below. sym (none_behind t low m (w.filing + 1) ws up.1 (grind (arith, nat_tests, not_below)))
    ] refl

-- the search begins after those that are passed over
pub searched_from : (t : Until → Bool) (low : ℕ) (m i : ℕ) (ws : List Until) → Ascends 1 ws → ((k : ℕ) (d : Until) → k < i → is_wanted t low m (get_or ws k d) ≡ false)
    → find (λ w. nat_lt low w.filing && t w) (take_while (λ w. nat_lt w.filing m) (drop i ws)) ≡ find (is_wanted t low m) ws
searched_from t low m i ws up passed =
    ends_there t low m 0 (drop i ws) (rises_behind 1 i ws up) ∙ sym (passed_over (is_wanted t low m) i ws (λ k d less within. passed k d less))

-- ---- the last one

-- none of these is below m
none_low : (t : Until → Bool) (m a : ℕ) (ws : List Until) → Ascends a ws → m ≤ a → filter (is_before t m) ws ≡ []
none_low t m a [] up high = refl
none_low t m a (w ∷ ws) up high =
    let first = up.0 in
    let not_below : nat_lt w.filing m ≡ false = grind (arith, nat_tests, first, high) in
    rw not_below (none_low t m (w.filing + 1) ws up.1 (omega arith))

-- those below m that pass are those that pass of the first i, where the i-th is not below m
pub front_waits : (t : Until → Bool) (m a i : ℕ) (ws : List Until) → Ascends a ws → AreBelow m ws i → IsNotBelow m ws i → filter t (take i ws) ≡ filter (is_before t m) ws
front_waits t m a zero [] up below behind = refl
front_waits t m a (suc i) [] up below behind = refl
front_waits t m a zero (w ∷ ws) up below behind =
    let not_below = behind w (omega arith) in
    let rest = none_low t m (w.filing + 1) ws up.1 (grind (arith, nat_tests, not_below)) in
    sym (rw not_below rest)
front_waits t m a (suc i) (w ∷ ws) up below behind =
    let first : nat_lt w.filing m ≡ true = below zero w (omega arith) in
    let rest = front_waits t m (w.filing + 1) i ws up.1 (λ k d less. below (suc k) d (omega arith)) (λ d within. behind d (omega arith)) in
    ap (λ xs. cond (t w) (w ∷ xs) xs) rest ∙ ap (λ b. cond (b && t w) (w ∷ filter (is_before t m) ws) (filter (is_before t m) ws)) (sym first)

-- where none of the first k passes, those that pass stand after them
pub behind_mark : (t : Until → Bool) (k i : ℕ) (ws : List Until) → AllByRecursion (λ x. t x ≡ false) (take k ws) → filter t (drop k (take i ws)) ≡ filter t (take i ws)
behind_mark t zero i ws none = refl
behind_mark t (suc k) zero ws none = refl
behind_mark t (suc k) (suc i) [] none = refl
behind_mark t (suc k) (suc i) (w ∷ ws) none = behind_mark t k i ws none.1 ∙ ap (λ b. cond b (w ∷ filter t (take i ws)) (filter t (take i ws))) (sym none.0)

-- found from the end back
pub found_last : (t : Until → Bool) (ws : List Until) → find t (reverse ws) ≡ last_or None (filter t ws)
found_last t [] = refl
found_last t (w ∷ ws) =
    ap (find t) (reverse-append (w ∷ []) ws) ∙ find-append t (reverse ws) (w ∷ [])
    ∙ ap (λ o. option_or o (find t (w ∷ []))) (found_last t ws) ∙ by_test (t w)
  where
    or_last : (o : Option Until) (vs : List Until) → option_or (last_or None vs) o ≡ last_or o vs
    or_last o [] = refl
    or_last o (v ∷ vs) = sym (behind_first o v vs)
      where
        behind_first : (o : Option Until) (v : Until) (vs : List Until) → last_or o (v ∷ vs) ≡ option_or (last_or None (v ∷ vs)) o
        behind_first o v [] = refl
        behind_first o v (u ∷ us) = behind_first o u us

    by_test : (b : Bool) → option_or (last_or None (filter t ws)) (cond b (Some w) None) ≡ last_or None (cond b (w ∷ filter t ws) (filter t ws))
    by_test true = or_last (Some w) (filter t ws)
    by_test false = or_last None (filter t ws)

-- ---- and among the entries

-- the waiter is there and passes
abbrev passes : (Until → Bool) → Option Until → Bool
passes t (Some w) = t w
passes t None = false

none_mapped : (o : Option Entry) → is_none (option_map (λ e. e.day) o) ≡ is_none o
none_mapped (Some e) = refl
none_mapped None = refl

none_alike : (o : Option Entry) (p : Option ℕ) → is_some o ≡ is_some p → is_none o ≡ is_none p
none_alike None None same = refl
none_alike None (Some n) same = absurd (false≢true same)
none_alike (Some e) None same = absurd (false≢true (sym same))
none_alike (Some e) (Some n) same = refl

none_noticed : (n : ℕ) (entries : List Entry) → is_none (option_map (λ e. e.day) (find (λ e. is_notice_of n e.what) entries)) ≡ is_none (position (λ e. is_notice_of n e.what) entries)
none_noticed n entries =
    let found = find (λ e. is_notice_of n e.what) entries in
    none_mapped found
    ∙ none_alike found (position (λ e. is_notice_of n e.what) entries) (is_some-find (λ e. is_notice_of n e.what) entries ∙ sym (is_some-position (λ e. is_notice_of n e.what) entries))

by_position : (n : ℕ) (entries : List Entry) → is_unnoticed n entries ≡ (is_pending n entries && is_none (position (λ e. is_notice_of n e.what) entries))
by_position n entries =
    let day = option_map (λ e. e.day) (find (λ e. is_notice_of n e.what) entries) in
    elim (is_pending n entries) as (λ b. (b && is_none (cond b day None)) ≡ (b && is_none (position (λ e. is_notice_of n e.what) entries))) [
      | true ↦ none_noticed n entries
      | false ↦ refl
    ]

-- of what stands of filing n, by the day until which it waits and by its notice
by_values : (n : ℕ) (notices : List (OfFiling ℕ)) (o : Option Until) → ((v : Until) → o ≡ Some v → v.filing ≡ n)
    → (is_some (option_and_then (λ day. day) (option_map (λ x. x.value) o)) && is_none (value_in n notices)) ≡ passes (lacks_notice notices) o
by_values n notices None same = refl
by_values n notices (Some x) same = ap (λ k. is_some x.value && is_none (value_in k notices)) (sym (same x refl))

filing_is : (n : ℕ) (xs : List Until) (v : Until) → of_filing n xs ≡ Some v → v.filing ≡ n
filing_is n xs v is = eqb-true v.filing n (find_passes (λ x. x.filing == n) xs v is)

unnoticed_of : (xs : List Until) (notices : List (OfFiling ℕ)) (entries : List Entry) → SayAs xs notices entries → (n : ℕ) → is_unnoticed n entries ≡ passes (lacks_notice notices) (of_filing n xs)
unnoticed_of xs notices entries say n =
    by_position n entries
    ∙ ap (λ o. is_some o && is_none (position (λ e. is_notice_of n e.what) entries)) (sym (say.waits n))
    ∙ ap (λ o. is_some (until_in n xs) && is_none o) (sym (say.noticed n))
    ∙ by_values n notices (of_filing n xs) (filing_is n xs)

waits_of : (xs : List Until) (notices : List (OfFiling ℕ)) (entries : List Entry) → SayAs xs notices entries → (n : ℕ) → is_pending n entries ≡ passes waits (of_filing n xs)
waits_of xs notices entries say n =
    ap is_some (sym (say.waits n))
    ∙ elim (of_filing n xs) as (λ o. is_some (option_and_then (λ day. day) (option_map (λ x. x.value) o)) ≡ passes waits o) [
      | Some x ↦ refl
      | None ↦ refl
    ]

-- ---- all of them are those of the entries

-- below m, the filings of those that pass are the numbers that do
listed_from : (t : Until → Bool) (q : ℕ → Bool) (m a n : ℕ) (ws : List Until) → m ≡ a + n → Ascends a ws → ((k : ℕ) → a ≤ k → q k ≡ passes t (of_filing k ws))
    → map (λ x. x.filing) (filter (is_before t m) ws) ≡ filter q (range_with_len a n)
listed_from t q m a zero ws is up same = ap (map (λ x. x.filing)) (none_low t m a ws up (omega arith))
listed_from t q m a (suc n) [] is up same =
    let rest = filter q (range_with_len (a + 1) n) in
    listed_from t q m (a + 1) n [] (omega arith) tt (λ k low. same k (omega arith)) ∙ ap (λ b. cond b (a ∷ rest) rest) (sym (same a (omega arith)))
listed_from t q m a (suc n) (w ∷ ws) is up same =
    let rest = filter q (range_with_len (a + 1) n) in
    let low = up.0 in
    elim (w.filing == a) as (λ b. (w.filing == a) ≡ b → map (λ x. x.filing) (filter (is_before t m) (w ∷ ws)) ≡ cond (q a) (a ∷ rest) rest) [
      | true ↦ λ here.
          let one : w.filing ≡ a = eqb-true w.filing a here in
          let below : nat_lt w.filing m ≡ true = grind (arith, nat_tests, one, is) in
          let behind = listed_from t q m (a + 1) n ws (omega arith) (subst (λ k. Ascends (k + 1) ws) one up.1)
          (λ k high. let apart : (w.filing == k) ≡ false = grind (arith, nat_tests, one, high) in
          same k (omega arith) ∙ ap (λ b. passes t (cond b (Some w) (of_filing k ws))) apart) in
          ap (λ b. map (λ x. x.filing) (cond (b && t w) (w ∷ filter (is_before t m) ws) (filter (is_before t m) ws))) below
          ∙ mapped (t w) w (filter (is_before t m) ws)
          ∙ ap (λ k. cond (t w) (k ∷ map (λ x. x.filing) (filter (is_before t m) ws)) (map (λ x. x.filing) (filter (is_before t m) ws))) one
          ∙ ap (λ ks. cond (t w) (a ∷ ks) ks) behind
          ∙ ap (λ b. cond b (a ∷ rest) rest) (sym (same a (omega arith) ∙ ap (λ b. passes t (cond b (Some w) (of_filing a ws))) here))
      | false ↦ λ apart.
          let high : a + 1 ≤ w.filing = grind (arith, nat_tests, apart, low) in
          listed_from t q m (a + 1) n (w ∷ ws) (omega arith) (high, up.1) (λ k more. same k (omega arith))
          ∙ ap (λ b. cond b (a ∷ rest) rest) (sym (same a (omega arith) ∙ ap (passes t) (none_below a (a + 1) (w ∷ ws) (high, up.1) (omega arith))))
    ] refl
  where
    mapped : (b : Bool) (v : Until) (vs : List Until) → map (λ x. x.filing) (cond b (v ∷ vs) vs) ≡ cond b (v.filing ∷ map (λ x. x.filing) vs) (map (λ x. x.filing) vs)
    mapped true v vs = refl
    mapped false v vs = refl

listed : (t : Until → Bool) (q : ℕ → Bool) (m : ℕ) (ws : List Until) → Ascends 1 ws → ((n : ℕ) → q n ≡ passes t (of_filing n ws))
    → map (λ x. x.filing) (filter (is_before t m) ws) ≡ filter q (receipts_before m)
listed t q zero ws up same = ap (map (λ x. x.filing)) (none_low t zero 1 ws up (omega arith))
listed t q (suc n) ws up same = let behind : suc n ≡ 1 + (suc n - 1) = omega arith in listed_from t q (suc n) 1 (suc n - 1) ws behind up (λ k low. same k)

-- ---- so the first and the last are

mapped_first : (p : ℕ → Bool) (ws : List Until) → option_map (λ x. x.filing) (find (λ x. p x.filing) ws) ≡ find p (map (λ x. x.filing) ws)
mapped_first p [] = refl
mapped_first p (w ∷ ws) =
    elim (p w.filing) as (λ b. option_map (λ x. x.filing) (cond b (Some w) (find (λ x. p x.filing) ws)) ≡ cond b (Some w.filing) (find p (map (λ x. x.filing) ws))) [
      | true ↦ refl
      | false ↦ mapped_first p ws
    ]

mapped_last : (o : Option Until) (ws : List Until) → option_map (λ x. x.filing) (last_or o ws) ≡ last_or (option_map (λ x. x.filing) o) (map (λ x. x.filing) ws)
mapped_last o [] = refl
mapped_last o (w ∷ ws) = mapped_last (Some w) ws

-- a number from 1 on is above the floor where it is above the number
above_floor : (after : Option ℕ) (n : ℕ) → 0 < n → nat_lt (floor after) n ≡ is_above after n
above_floor None n above = grind (arith, nat_tests)
above_floor (Some k) n above = refl

-- the first that is wanted is the first above the number of those below m that pass
first_wanted : (t : Until → Bool) (after : Option ℕ) (m a : ℕ) (ws : List Until) → 0 < a → Ascends a ws
    → find (is_wanted t (floor after) m) ws ≡ find (λ x. is_above after x.filing) (filter (is_before t m) ws)
first_wanted t after m a [] positive up = refl
first_wanted t after m a (w ∷ ws) positive up =
    let low = up.0 in
    let rest = first_wanted t after m (w.filing + 1) ws (omega arith) up.1 in
    ap (λ b. cond (nat_lt w.filing m && (b && t w)) (Some w) (find (is_wanted t (floor after) m) ws)) (above_floor after w.filing (omega arith))
    ∙ ap (cond (nat_lt w.filing m && (is_above after w.filing && t w)) (Some w)) rest
    ∙ by_tests (nat_lt w.filing m) (is_above after w.filing) (t w) refl
  where
    by_tests : (b c d : Bool) → is_above after w.filing ≡ c
        → cond (b && (c && d)) (Some w) (find (λ x. is_above after x.filing) (filter (is_before t m) ws)) ≡ find (λ x. is_above after x.filing) (cond (b && d) (w ∷ filter (is_before t m) ws) (filter (is_before t m) ws))
    by_tests false c d is = refl
    by_tests true true false is = refl
    by_tests true false false is = refl
    by_tests true c true is = both c ∙ ap (λ e. cond e (Some w) (find (λ x. is_above after x.filing) (filter (is_before t m) ws))) (sym is)
      where
        both : (c : Bool) → cond (c && true) (Some w) (find (λ x. is_above after x.filing) (filter (is_before t m) ws)) ≡ cond c (Some w) (find (λ x. is_above after x.filing) (filter (is_before t m) ws))
        both true = refl
        both false = refl

first_of : (t : Until → Bool) (q : ℕ → Bool) (after : Option ℕ) (m : ℕ) (ws : List Until) → Ascends 1 ws → ((n : ℕ) → q n ≡ passes t (of_filing n ws))
    → first_that t (floor after) m ws ≡ find (is_above after) (filter q (receipts_before m))
first_of t q after m ws up same =
    ap (option_map (λ x. x.filing)) (first_wanted t after m 1 ws (omega arith) up)
    ∙ mapped_first (is_above after) (filter (is_before t m) ws) ∙ ap (find (is_above after)) (listed t q m ws up same)

pub first_unnoticed : (after : Option ℕ) (m : ℕ) (xs : List Until) (notices : List (OfFiling ℕ)) (entries : List Entry) → Ascends 1 xs → SayAs xs notices entries
    → first_that (lacks_notice notices) (floor after) m xs ≡ find (is_above after) (waiting_unnoticed m entries)
first_unnoticed after m xs notices entries up say =
    first_of (lacks_notice notices) (λ n. is_unnoticed n entries) after m xs up (unnoticed_of xs notices entries say) ∙ ap (find (is_above after)) (sym (unnoticed_is m entries))

pub first_waiting : (after : Option ℕ) (m : ℕ) (xs : List Until) (notices : List (OfFiling ℕ)) (entries : List Entry) → Ascends 1 xs → SayAs xs notices entries
    → first_that waits (floor after) m xs ≡ find (is_above after) (waiting_before m entries)
first_waiting after m xs notices entries up say = first_of waits (λ n. is_pending n entries) after m xs up (waits_of xs notices entries say)

pub last_waiting : (m : ℕ) (xs : List Until) (notices : List (OfFiling ℕ)) (entries : List Entry) → Ascends 1 xs → SayAs xs notices entries
    → last_that waits m xs ≡ last_or None (waiting_before m entries)
last_waiting m xs notices entries up say =
    mapped_last None (filter (is_before waits m) xs) ∙ ap (last_or None) (listed waits (λ n. is_pending n entries) m xs up (waits_of xs notices entries say))
