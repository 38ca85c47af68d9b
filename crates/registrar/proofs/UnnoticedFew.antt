-- As many filings wait without a notice at a key as it has entries, at most: each has a Pending of its own.
use Rattle.std.proofs.Common.{◌≡◌, ℕ, suc, zero, ◌+◌, ◌-◌, ◌<◌, ◌≤◌, Bool, true, false, cond, eqb, ◌||◌, List, [], ◌∷◌, length, Option, Some, None, filter, fold, is_none, is_some, refl, sym, ap, subst, ◌∙◌, ⊎_elim, arith}
use Rattle.std.specs.List.{list_any, range_with_len}
use Rattle.std.proofs.lemmas.Bool.{cases_Bool, eqb-true, false≢true}
use Rattle.std.proofs.lemmas.List.Sums.{count_by-le-length, length-filter}
use Rattle.folio_sections.specs.Waiting.{waiting_unnoticed, receipts_before, is_pending, notice, pending, until_by, waiting_before}
use Rattle.folio_sections.specs.declared.entries.Entry.{Entry}
use Rattle.folio_sections.specs.declared.entries.What.{What}
use Rattle.folio_sections.specs.declared.entries.What.TheVariants as what

-- ---- how many pass a test

fewer : (p : ℕ → Bool) (ns : List ℕ) → length (filter p ns) ≤ length ns
fewer p ns =
    let count = length-filter p ns in
    let most = count_by-le-length p ns in
    omega arith

-- those that pass are no more than those that pass a wider test
wider : (p q : ℕ → Bool) → ((n : ℕ) → p n ≡ true → q n ≡ true) → (ns : List ℕ) → length (filter p ns) ≤ length (filter q ns)
wider p q h [] = omega arith
wider p q h (n ∷ ns) =
    let rest = wider p q h ns in
    elim (p n) as (λ b. p n ≡ b → length (cond b (n ∷ filter p ns) (filter p ns)) ≤ length (cond (q n) (n ∷ filter q ns) (filter q ns))) [
      | true ↦ λ is. subst (λ b. suc (length (filter p ns)) ≤ length (cond b (n ∷ filter q ns) (filter q ns))) (sym (h n is)) (omega arith)
      | false ↦ λ is. elim (q n) as (λ b. length (filter p ns) ≤ length (cond b (n ∷ filter q ns) (filter q ns))) [
        | true ↦ omega arith
        | false ↦ rest
      ]
    ] refl

-- those that pass one of two tests are no more than those that pass the first and those that pass the second
either : (p q : ℕ → Bool) (ns : List ℕ) → length (filter (λ n. p n || q n) ns) ≤ length (filter p ns) + length (filter q ns)
either p q [] = omega arith
either p q (n ∷ ns) =
    let rest = either p q ns in
    elim (p n) as (λ b. length (cond (b || q n) (n ∷ filter (λ k. p k || q k) ns) (filter (λ k. p k || q k) ns)) ≤ length (cond b (n ∷ filter p ns) (filter p ns)) + length (cond (q n) (n ∷ filter q ns) (filter q ns))) [
      | true ↦ elim (q n) as (λ b. suc (length (filter (λ k. p k || q k) ns)) ≤ suc (length (filter p ns)) + length (cond b (n ∷ filter q ns) (filter q ns))) [
        | true ↦ omega arith
        | false ↦ omega arith
      ]
      | false ↦ elim (q n) as (λ b. length (cond b (n ∷ filter (λ k. p k || q k) ns) (filter (λ k. p k || q k) ns)) ≤ length (filter p ns) + length (cond b (n ∷ filter q ns) (filter q ns))) [
        | true ↦ omega arith
        | false ↦ rest
      ]
    ]

-- ---- the entries that set a filing to wait

-- the content sets this filing to wait
abbrev sets : What → ℕ → Bool
sets (what.Pending f until) n = eqb f n
sets other n = false

-- some entry sets this filing to wait
abbrev is_set : List Entry → ℕ → Bool
is_set entries n = list_any (λ e. sets e.what n) entries

until_unset : (n : ℕ) (w : What) → sets w n ≡ false → until_by n None w ≡ None
until_unset n (what.Pending f until) unset = ap (λ b. cond b (Some until) None) unset
until_unset n (what.Settled f) unset =
    elim (eqb f n) as (λ b. cond {A = Option ℕ} b None None ≡ None) [
      | true ↦ refl
      | false ↦ refl
    ]
until_unset n other unset = refl

neither : (a b : Bool) → (a || b) ≡ false → (a ≡ false) × (b ≡ false)
neither true b h = absurd (false≢true (sym h))
neither false b h = (refl, h)

never_waits : (n : ℕ) (entries : List Entry) → is_set entries n ≡ false → pending n entries ≡ None
never_waits n [] unset = refl
never_waits n (e ∷ es) unset =
    let both = neither (sets e.what n) (is_set es n) unset in
    ap (λ o. fold (λ before e. until_by n before e.what) o es) (until_unset n e.what both.0) ∙ never_waits n es both.1

set_where_pending : (entries : List Entry) (n : ℕ) → is_pending n entries ≡ true → is_set entries n ≡ true
set_where_pending entries n waits =
    ⊎_elim
    (λ is. is)
    (λ unset. absurd (false≢true (sym (ap is_some (never_waits n entries unset)) ∙ waits)))
    (cases_Bool (is_set entries n))

-- ---- each entry sets one filing to wait, at most

-- a number below a range is not in it
none_in_range : (f a n : ℕ) → f < a → length (filter (eqb f) (range_with_len a n)) ≡ 0
none_in_range f a zero less = refl
none_in_range f a (suc n) less =
    let rest = none_in_range f (a + 1) n (omega arith) in
    elim (eqb f a) as (λ b. eqb f a ≡ b → length (cond b (a ∷ filter (eqb f) (range_with_len (a + 1) n)) (filter (eqb f) (range_with_len (a + 1) n))) ≡ 0) [
      | true ↦ λ is. let same = eqb-true f a is in absurd (omega arith)
      | false ↦ λ is. rest
    ] refl

one_in_range : (f a n : ℕ) → length (filter (eqb f) (range_with_len a n)) ≤ 1
one_in_range f a zero = omega arith
one_in_range f a (suc n) =
    let rest = one_in_range f (a + 1) n in
    elim (eqb f a) as (λ b. eqb f a ≡ b → length (cond b (a ∷ filter (eqb f) (range_with_len (a + 1) n)) (filter (eqb f) (range_with_len (a + 1) n))) ≤ 1) [
      | true ↦ λ is. let same = eqb-true f a is in let none = none_in_range f (a + 1) n (omega arith) in omega arith
      | false ↦ λ is. rest
    ] refl

none_pass : (ns : List ℕ) → length (filter (λ _. false) ns) ≡ 0
none_pass [] = refl
none_pass (n ∷ ns) = none_pass ns

one_by_content : (w : What) (m : ℕ) → length (filter (sets w) (receipts_before m)) ≤ 1
one_by_content (what.Pending f until) m = one_in_range f 1 (m - 1)
one_by_content other m = let none = none_pass (receipts_before m) in omega arith

one_by_entry : (entries : List Entry) (m : ℕ) → length (filter (is_set entries) (receipts_before m)) ≤ length entries
one_by_entry [] m = let none = none_pass (receipts_before m) in omega arith
one_by_entry (e ∷ es) m =
    let here = one_by_content e.what m in
    let rest = one_by_entry es m in
    let both = either (sets e.what) (is_set es) (receipts_before m) in
    omega arith

pub unnoticed_at_most : (m : ℕ) (entries : List Entry) → length (waiting_unnoticed m entries) ≤ length entries
unnoticed_at_most m entries =
    let unnoticed = fewer (λ n. is_none (notice n entries)) (waiting_before m entries) in
    let waiting = wider (λ n. is_pending n entries) (is_set entries) (set_where_pending entries) (receipts_before m) in
    let all = one_by_entry entries m in
    omega arith
