-- The next filing of an applicant and the next that waits, each at or above the other: what lies between them is passed over.
use Rattle.std.proofs.Common.{◌≡◌, ℕ, suc, zero, ◌+◌, ◌-◌, ◌<◌, ◌≤◌, Bool, true, false, not, cond, eqb, ◌||◌, nat_le, nat_lt, List, [], ◌∷◌, length, filter, filter_map, find, get_or, slice_get, Option, Some, None, IsNone, IfSome, refl, sym, ap, subst, ◌∙◌, arith}
use Rattle.std.specs.List.{list_any}
use Rattle.std.specs.Option.{is_some, option_map_or}
use Rattle.std.specs.Prelude.{◌↔◌}
use Rattle.std.proofs.lemmas.Bool.{false≢true}
use Rattle.std.proofs.lemmas.Bool.Decides.{nat_tests}
use Rattle.gb_base.specs.Ascending.{AscendsBy}
use Rattle.act_model.specs.declared.receipts.Receipt.{Receipt}
use Rattle.act_model.specs.Filings.{filings_of}
use Rattle.act_model.specs.Touches.{applicant_of}
use Rattle.act_model.proofs.ApplicantFilings.{filings_ascend, listed_where_applied}
use Rattle.folio_sections.specs.Waiting.{is_above, waiting_before}
use Rattle.folio_sections.specs.declared.entries.Entry.{Entry}
use Rattle.consent_rules.specs.Persons.{waiting_applicants}
use Rattle.consent_rules.specs.inner.WaitersAbove.{applicants_above, left_above}
use Rattle.consent_rules.proofs.ListLemmas.{any_given}
use Rattle.consent_rules.proofs.WaitersLeft.{all_left, asked_first, fewer_left}

-- ---- the first of ascending numbers that is not below another

-- what is looked up after those that fail is the first that passes
pub found_behind : {X : Type 0} (p : X → Bool) (xs : List X) (i : ℕ) → i ≤ length xs
    → ((k : ℕ) (d : X) → 0 ≤ k → k < i → p (get_or xs k d) ≡ false)
    → ((k : ℕ) (d : X) → i ≤ k → k < length xs → p (get_or xs k d) ≡ true)
    → slice_get xs i ≡ find p xs
found_behind p [] i within fail pass = refl
found_behind p (x ∷ xs) zero within fail pass =
    let first : p x ≡ true = pass zero x (omega arith) (omega arith) in
    ap (λ b. cond b (Some x) (find p xs)) (sym first)
found_behind p (x ∷ xs) (suc i) within fail pass =
    let first : p x ≡ false = fail zero x (omega arith) (omega arith) in
    found_behind p xs i (omega arith) (λ k d low less. fail (suc k) d (omega arith) (omega arith)) (λ k d low less. pass (suc k) d (omega arith) (omega arith))
    ∙ ap (λ b. cond b (Some x) (find p xs)) (sym first)

-- a number is at another or above it just where it is not below
pub at_or_above : (b : Bool) (k n : ℕ) → nat_lt k n ≡ b → nat_le n k ≡ not b
at_or_above true k n e = grind (arith, nat_tests, e)
at_or_above false k n e = grind (arith, nat_tests, e)

-- one that is found is listed
pub found_listed : (p : ℕ → Bool) (xs : List ℕ) (n : ℕ) → find p xs ≡ Some n → list_any (λ k. eqb k n) xs ≡ true
found_listed p [] n h = absurd (false≢true (ap is_some h))
found_listed p (x ∷ xs) n h =
    elim (p x) as (λ b. cond b (Some x) (find p xs) ≡ Some n → (eqb x n || list_any (λ k. eqb k n) xs) ≡ true) [
      | true ↦ λ here.
          let same : x ≡ n = cc in
          let itself : eqb x n ≡ true = grind (arith, nat_tests, same) in
          ap (λ b. b || list_any (λ k. eqb k n) xs) itself
      | false ↦ λ later. or_true (eqb x n) (list_any (λ k. eqb k n) xs) (found_listed p xs n later)
    ] h
  where
    or_true : (a b : Bool) → b ≡ true → (a || b) ≡ true
    or_true true b e = refl
    or_true false b e = e

-- one that is found passes
pub found_passes : (p : ℕ → Bool) (xs : List ℕ) (n : ℕ) → find p xs ≡ Some n → p n ≡ true
found_passes p [] n h = absurd (false≢true (ap is_some h))
found_passes p (x ∷ xs) n h =
    elim (p x) as (λ b. p x ≡ b → cond b (Some x) (find p xs) ≡ Some n → p n ≡ true) [
      | true ↦ λ passes here. let same : x ≡ n = cc in subst (λ k. p k ≡ true) same passes
      | false ↦ λ fails later. found_passes p xs n later
    ] refl h

neither : (a b : Bool) → a ≡ false → b ≡ false → (a || b) ≡ false
neither a b e f = ap (λ c. c || b) e ∙ f

-- where none is found, none at or above is listed
none_listed : (w n : ℕ) (xs : List ℕ) → find (nat_le w) xs ≡ None → w ≤ n → list_any (λ k. eqb k n) xs ≡ false
none_listed w n [] h above = refl
none_listed w n (x ∷ xs) h above =
    elim (nat_le w x) as (λ b. nat_le w x ≡ b → cond b (Some x) (find (nat_le w) xs) ≡ None → (eqb x n || list_any (λ k. eqb k n) xs) ≡ false) [
      | true ↦ λ passes here. absurd (false≢true (sym (ap is_some here)))
      | false ↦ λ fails later. neither _ _ (grind (arith, nat_tests, fails, above)) (none_listed w n xs later above)
    ] refl h

-- no number is listed below where the list begins
below_start : (a n : ℕ) (xs : List ℕ) → AscendsBy (λ k. k) a xs → n < a → list_any (λ k. eqb k n) xs ≡ false
below_start a n [] up less = refl
below_start a n (x ∷ xs) up less =
    let first = up.0 in
    neither _ _ (grind (arith, nat_tests, first, less)) (below_start (x + 1) n xs up.1 (omega arith))

-- no number is listed between a number and the first at or above it
none_between : (a w n f : ℕ) (xs : List ℕ) → AscendsBy (λ k. k) a xs → find (nat_le w) xs ≡ Some f → w ≤ n → n < f → list_any (λ k. eqb k n) xs ≡ false
none_between a w n f [] up h above less = refl
none_between a w n f (x ∷ xs) up h above less =
    elim (nat_le w x) as (λ b. nat_le w x ≡ b → cond b (Some x) (find (nat_le w) xs) ≡ Some f → (eqb x n || list_any (λ k. eqb k n) xs) ≡ false) [
      | true ↦ λ passes here.
          let same : x ≡ f = cc in
          neither _ _ (grind (arith, nat_tests, same, less)) (below_start (x + 1) n xs up.1 (omega arith))
      | false ↦ λ fails later. neither _ _ (grind (arith, nat_tests, fails, above)) (none_between (x + 1) w n f xs up.1 later above less)
    ] refl h

-- ---- those who wait, from one number to another

-- where none up to a number passes, asking all is asking those above it
skip_to : (p : ℕ → Bool) (f : ℕ → Option ℕ) (after : Option ℕ) (g : ℕ) (ns : List ℕ) → ((n : ℕ) → nat_lt g n ≡ true → is_above after n ≡ true)
    → ((n : ℕ) → is_above after n ≡ true → n ≤ g → option_map_or p (f n) false ≡ false)
    → list_any p (filter_map f (filter (is_above after) ns)) ≡ list_any p (filter_map f (filter (is_above (Some g)) ns))
skip_to p f after g [] over fail = refl
skip_to p f after g (n ∷ ns) over fail = by_tests (is_above after n) (nat_lt g n) (skip_to p f after g ns over fail) refl refl
  where
    by_tests : (a b : Bool) → list_any p (filter_map f (filter (is_above after) ns)) ≡ list_any p (filter_map f (filter (is_above (Some g)) ns))
        → is_above after n ≡ a → nat_lt g n ≡ b
        → list_any p (filter_map f (cond a (n ∷ filter (is_above after) ns) (filter (is_above after) ns))) ≡ list_any p (filter_map f (cond b (n ∷ filter (is_above (Some g)) ns) (filter (is_above (Some g)) ns)))
    by_tests true true rest low high =
        any_given p (f n) (filter_map f (filter (is_above after) ns)) ∙ ap (λ c. option_map_or p (f n) false || c) rest
        ∙ sym (any_given p (f n) (filter_map f (filter (is_above (Some g)) ns)))
    by_tests true false rest low high =
        any_given p (f n) (filter_map f (filter (is_above after) ns))
        ∙ ap (λ c. c || list_any p (filter_map f (filter (is_above after) ns))) (fail n low (grind (arith, nat_tests, high)))
        ∙ rest
    by_tests false true rest low high = absurd (false≢true (sym low ∙ over n high))
    by_tests false false rest low high = rest

-- where none above a number passes, none that is left passes
none_from : (p : ℕ → Bool) (f : ℕ → Option ℕ) (after : Option ℕ) (ns : List ℕ) → ((n : ℕ) → is_above after n ≡ true → option_map_or p (f n) false ≡ false)
    → list_any p (filter_map f (filter (is_above after) ns)) ≡ false
none_from p f after [] fail = refl
none_from p f after (n ∷ ns) fail = by_test (is_above after n) (none_from p f after ns fail) refl
  where
    by_test : (a : Bool) → list_any p (filter_map f (filter (is_above after) ns)) ≡ false → is_above after n ≡ a → list_any p (filter_map f (cond a (n ∷ filter (is_above after) ns) (filter (is_above after) ns))) ≡ false
    by_test true rest low =
        any_given p (f n) (filter_map f (filter (is_above after) ns)) ∙ neither _ _ (fail n low) rest
    by_test false rest low = rest

fewer_above : (w g : ℕ) (ns : List ℕ) → w ≤ g → length (filter (is_above (Some g)) ns) ≤ length (filter (is_above (Some w)) ns)
fewer_above w g [] le = omega arith
fewer_above w g (n ∷ ns) le = by_tests (nat_lt w n) (nat_lt g n) (fewer_above w g ns le) refl refl
  where
    by_tests : (a b : Bool) → length (filter (is_above (Some g)) ns) ≤ length (filter (is_above (Some w)) ns) → nat_lt w n ≡ a → nat_lt g n ≡ b → length (cond b (n ∷ filter (is_above (Some g)) ns) (filter (is_above (Some g)) ns)) ≤ length (cond a (n ∷ filter (is_above (Some w)) ns) (filter (is_above (Some w)) ns))
    by_tests true true rest low high = omega arith
    by_tests true false rest low high = omega arith
    by_tests false true rest low high = absurd (grind (arith, nat_tests, low, high, le))
    by_tests false false rest low high = rest

-- ---- where the walk begins

-- whoever has no filing does not wait
pub none_filed : (journal : List Receipt) (person m : ℕ) (entries : List Entry) → slice_get (filings_of journal person) 0 ≡ None
    → false ≡ list_any (λ q. eqb q person) (waiting_applicants journal m entries)
none_filed journal person m entries none =
    sym (none_from (λ q. eqb q person) (applicant_of journal) None (waiting_before m entries)
    (λ n any. sym (listed_where_applied journal person n) ∙ ap (list_any (λ k. eqb k n)) (no_first (filings_of journal person) none)))
    ∙ all_left (λ q. eqb q person) journal m entries
  where
    no_first : (xs : List ℕ) → slice_get xs 0 ≡ None → xs ≡ []
    no_first [] e = refl
    no_first (x ∷ xs) e = absurd (false≢true (sym (ap is_some e)))

-- no number is listed below the first
below_first : (n first : ℕ) (xs : List ℕ) → AscendsBy (λ k. k) 1 xs → slice_get xs 0 ≡ Some first → n ≤ first - 1 → list_any (λ k. eqb k n) xs ≡ false
below_first n first [] up is low = refl
below_first n first (x ∷ xs) up is low =
    let same : x ≡ first = cc in
    let some = up.0 in
    below_start x n (x ∷ xs) (omega arith, up.1) (grind (arith, same, some, low))

-- whoever's first filing is above a number waits, if at all, with a filing above that number
pub from_first : (journal : List Receipt) (person m first : ℕ) (after : Option ℕ) (entries : List Entry) → slice_get (filings_of journal person) 0 ≡ Some first
    → IfSome after (λ k. k ≡ first - 1)
    → list_any (λ q. eqb q person) (applicants_above journal after m entries) ≡ list_any (λ q. eqb q person) (waiting_applicants journal m entries)
from_first journal person m first None entries is value = all_left (λ q. eqb q person) journal m entries
from_first journal person m first (Some g) entries is value =
    sym (skip_to (λ q. eqb q person) (applicant_of journal) None g (waiting_before m entries) (λ n above. refl)
    (λ n any low. sym (listed_where_applied journal person n) ∙ below_first n first (filings_of journal person) (filings_ascend journal person) is (subst (λ k. n ≤ k) value low)))
    ∙ all_left (λ q. eqb q person) journal m entries

-- ---- one step

module _ (journal : List Receipt) (person : ℕ) (after : Option ℕ) (m w : ℕ) (entries : List Entry) where
  abbrev is_person : ℕ → Bool
  is_person q = eqb q person

  -- the filing that waits is one of the person's
  pub same_one : (f : ℕ) → Some w ≡ find (is_above after) (waiting_before m entries) → find (nat_le w) (filings_of journal person) ≡ Some f → f ≡ w
      → list_any is_person (applicants_above journal after m entries) ≡ list_any is_person (waiting_applicants journal m entries)
      → true ≡ list_any is_person (waiting_applicants journal m entries)
  same_one f is next same so_far =
      asked_first is_person journal after m w true entries is so_far
      (sym (listed_where_applied journal person w) ∙ found_listed (nat_le w) (filings_of journal person) w (next ∙ ap (λ n. Some n) same))

  -- the person has no filing at or above the one that waits
  pub no_other : Some w ≡ find (is_above after) (waiting_before m entries) → find (nat_le w) (filings_of journal person) ≡ None
      → list_any is_person (applicants_above journal after m entries) ≡ list_any is_person (waiting_applicants journal m entries)
      → false ≡ list_any is_person (waiting_applicants journal m entries)
  no_other is next so_far =
      let fails : (n : ℕ) → w ≤ n → option_map_or is_person (applicant_of journal n) false ≡ false = λ n above. sym (listed_where_applied journal person n) ∙ none_listed w n (filings_of journal person) next above in
      sym (none_from is_person (applicant_of journal) (Some w) (waiting_before m entries) (λ n above. fails n (grind (arith, nat_tests, above))))
      ∙ asked_first is_person journal after m w false entries is so_far (fails w (omega arith))

  -- the person's next filing is above the one that waits
  pub leaps : (f g : ℕ) → Some w ≡ find (is_above after) (waiting_before m entries) → find (nat_le w) (filings_of journal person) ≡ Some f → w ≤ g → g < f
      → list_any is_person (applicants_above journal after m entries) ≡ list_any is_person (waiting_applicants journal m entries)
      → list_any is_person (applicants_above journal (Some g) m entries) ≡ list_any is_person (waiting_applicants journal m entries)
  leaps f g is next low high so_far =
      let fails : (n : ℕ) → w ≤ n → n < f → option_map_or is_person (applicant_of journal n) false ≡ false = λ n above less. sym (listed_where_applied journal person n) ∙ none_between 1 w n f (filings_of journal person) (filings_ascend journal person) next above less in
      sym (skip_to is_person (applicant_of journal) (Some w) g (waiting_before m entries) (λ n above. grind (arith, nat_tests, above, low)) (λ n above less. fails n (grind (arith, nat_tests, above)) (omega arith)))
      ∙ asked_first is_person journal after m w false entries is so_far (fails w (omega arith) (omega arith))

  pub fewer_behind : (g : ℕ) → Some w ≡ find (is_above after) (waiting_before m entries) → w ≤ g → length (left_above (Some g) m entries) < length (left_above after m entries)
  fewer_behind g is low =
      let fewer = fewer_left after m w entries is in
      let less = fewer_above w g (waiting_before m entries) low in
      omega arith

-- where a number is above another, the number below it is not below the other
pub not_below : (w f : ℕ) → nat_le w f ≡ true → eqb f w ≡ false → w ≤ f - 1
not_below w f above other = grind (arith, nat_tests, above, other)

pub number_below : (o : Option ℕ) (w f : ℕ) → 0 < w → nat_le w f ≡ true → eqb f w ≡ false → (IsNone o ↔ (f - 1 ≡ 0)) → IfSome o (λ n. n ≡ f - 1) → o ≡ Some (f - 1)
number_below (Some n) w f some above other none value = ap (λ k. Some k) value
number_below None w f some above other none value =
    let zero_below : f - 1 ≡ 0 = none.0 refl in
    let le : w ≤ f - 1 = not_below w f above other in
    absurd (omega arith)
