-- Which filings wait at a key without a notice, after more entries.
use Rattle.std.proofs.Common.{◌≡◌, ⊎_elim, ◌⊎◌, ℕ, ◌+◌, ◌-◌, ◌<◌, ◌≤◌, Bool, true, false, cond, eqb, ◌&&◌, nat_lt, List, [], ◌∷◌, ◌++◌, filter, fold, length, Option, Some, None, is_none, is_some, inl, inr, refl, sym, ap, subst, ◌∙◌, arith}
use Rattle.std.specs.List.{AllByRecursion, range_with_len}
use Rattle.std.proofs.lemmas.Bool.{and_parts, cases_Bool, eqb-true, false≢true, not-true, not_from_false, or_parts}
use Rattle.std.proofs.lemmas.Bool.Decides.{nat_tests}
use Rattle.std.proofs.lemmas.List.Folds.{list_any-append}
use Rattle.std.proofs.lemmas.List.Sums.{fold-append}
use Rattle.gb_base.proofs.Members.{In, in_range, of_range}
use Rattle.conflict_queue.proofs.Fronts.{below_is}
use Rattle.folio_sections.proofs.FilteredLists.{in_filter}
use Rattle.folio_sections.proofs.Unnoticed.{unnoticed_is}
use Rattle.folio_sections.specs.Waiting.{is_notice_of, is_pending, notice, pending, receipts_before, until_by, waiting_unnoticed}
use Rattle.folio_sections.specs.declared.entries.Entry.{Entry}
use Rattle.folio_sections.specs.declared.entries.What.{What}
use Rattle.folio_sections.specs.declared.entries.What.TheVariants as what
use Rattle.folio_sections.specs.inner.Unnoticed.{is_unnoticed}
use Rattle.registrar.proofs.Dealing.{KeepsWaiting}
use Rattle.registrar.proofs.NoticedPlaces.{LacksNotice}
use Rattle.registrar.proofs.PlaceReads.{is_noticed, lacks_is}
use Rattle.desk_pool.proofs.CountedNumbers.{no_more, none_pass, one_of_two, others}

-- ---- contents

-- a filing that waits after the content is one of these, or waited before
abbrev pub Starts : (ℕ → Bool) → What → Type 0
Starts some w = (n : ℕ) (before : Option ℕ) → is_some (until_by n before w) ≡ true → (some n ≡ true) ⊎ (is_some before ≡ true)

-- none of the filings
abbrev pub nobody : ℕ → Bool
nobody n = false

pub keeping : (w : What) → KeepsWaiting w → Starts nobody w
keeping (what.Pending filing until) keeps = absurd keeps
keeping (what.Settled filing) keeps = absurd keeps
keeping other keeps = λ n before waits. inr waits

pub ending : (m : ℕ) → Starts nobody (what.Settled m)
ending m n before waits =
    inr (elim (eqb m n) as (λ b. is_some (cond b None before) ≡ true → is_some before ≡ true) [
      | true ↦ λ none. absurd (false≢true none)
      | false ↦ λ still. still
    ] waits)

pub setting : (m until : ℕ) → Starts (eqb m) (what.Pending m until)
setting m until n before waits =
    elim (eqb m n) as (λ b. is_some (cond b (Some until) before) ≡ true → (b ≡ true) ⊎ (is_some before ≡ true)) [
      | true ↦ λ set. inl refl
      | false ↦ λ still. inr still
    ] waits

-- ---- one filing

folded : (some : ℕ → Bool) (n : ℕ) (before : Option ℕ) (es : List Entry) → AllByRecursion (λ e. Starts some e.what) es → is_some (fold (λ b e. until_by n b e.what) before es) ≡ true
    → (some n ≡ true) ⊎ (is_some before ≡ true)
folded some n before [] all waits = inr waits
folded some n before (e ∷ es) all waits =
    ⊎_elim (λ set. inl set) (λ behind. all.0 n before behind) (folded some n (until_by n before e.what) es all.1 waits)

still_waits : (some : ℕ → Bool) (n : ℕ) (xs es : List Entry) → AllByRecursion (λ e. Starts some e.what) es → is_pending n (xs ++ es) ≡ true → (some n ≡ true) ⊎ (is_pending n xs ≡ true)
still_waits some n xs es all waits =
    folded some n (pending n xs) es all (sym (ap is_some (fold-append (λ b e. until_by n b e.what) None xs es)) ∙ waits)

lacks_of : (n : ℕ) (es : List Entry) → is_unnoticed n es ≡ true → LacksNotice es n
lacks_of n es is =
    let parts = and_parts (is_pending n es) (is_none (notice n es)) is in
    (parts.0, not-true (is_noticed n es) (sym (lacks_is n es parts.0) ∙ parts.1))

of_lacks : (n : ℕ) (es : List Entry) → LacksNotice es n → is_unnoticed n es ≡ true
of_lacks n es lacks =
    ap (λ b. b && is_none (notice n es)) lacks.0 ∙ lacks_is n es lacks.0 ∙ not_from_false (is_noticed n es) lacks.1

neither_noticed : (n : ℕ) (xs es : List Entry) → is_unnoticed n (xs ++ es) ≡ true → (is_noticed n xs ≡ false) × (is_noticed n es ≡ false)
neither_noticed n xs es is =
    or_parts (is_noticed n xs) (is_noticed n es) (sym (list_any-append (λ (e : Entry). is_notice_of n e.what) xs es) ∙ (lacks_of n (xs ++ es) is).1)

still_unnoticed : (some : ℕ → Bool) (n : ℕ) (xs es : List Entry) → AllByRecursion (λ e. Starts some e.what) es → is_unnoticed n (xs ++ es) ≡ true → (some n ≡ true) ⊎ (is_unnoticed n xs ≡ true)
still_unnoticed some n xs es all is =
    ⊎_elim
    (λ set. inl set)
    (λ waits. inr (of_lacks n xs (waits, (neither_noticed n xs es is).0)))
    (still_waits some n xs es all (lacks_of n (xs ++ es) is).0)

-- ---- how many

-- those that wait without a notice are no more than before, and those that the entries set to wait
pub more_by : (some : ℕ → Bool) (m : ℕ) (xs es : List Entry) → AllByRecursion (λ e. Starts some e.what) es
    → length (waiting_unnoticed m (xs ++ es)) ≤ length (filter some (receipts_before m)) + length (waiting_unnoticed m xs)
more_by some m xs es all =
    let before = ap length (unnoticed_is m xs) in
    let behind = ap length (unnoticed_is m (xs ++ es)) in
    let most = one_of_two (λ n. is_unnoticed n xs) (λ n. is_unnoticed n (xs ++ es)) some (λ n is. still_unnoticed some n xs es all is) (receipts_before m) in
    omega arith

-- where the one filing that the entries set to wait waited before, no more wait without a notice than before
pub none_more : (f m : ℕ) (xs es : List Entry) → AllByRecursion (λ e. Starts (eqb f) e.what) es → is_pending f xs ≡ true → length (waiting_unnoticed m (xs ++ es)) ≤ length (waiting_unnoticed m xs)
none_more f m xs es all waited =
    let before = ap length (unnoticed_is m xs) in
    let behind = ap length (unnoticed_is m (xs ++ es)) in
    let most = one_of_two (λ n. is_unnoticed n xs) (λ n. is_unnoticed n (xs ++ es)) nobody (λ n is. inr (lacked n is)) (receipts_before m) in
    let none = none_pass (receipts_before m) in
    omega arith
  where
    lacked : (n : ℕ) → is_unnoticed n (xs ++ es) ≡ true → is_unnoticed n xs ≡ true
    lacked n is =
        ⊎_elim
        (λ own. of_lacks n xs (subst (λ x. is_pending x xs ≡ true) (eqb-true f n own) waited, (neither_noticed n xs es is).0))
        (λ other. other)
        (still_unnoticed (eqb f) n xs es all is)

is_nobody : (n : ℕ) (b : Bool) → (nobody n ≡ true) ⊎ (b ≡ true) → b ≡ true
is_nobody n b either = ⊎_elim (λ none. absurd (false≢true none)) (λ is. is) either

-- where each filing before i that waits gets its notice, so many fewer wait without one
pub less_by : (i m : ℕ) (xs es : List Entry) → AllByRecursion (λ e. Starts nobody e.what) es → ((n : ℕ) → In n (waiting_unnoticed i xs) → is_noticed n es ≡ true)
    → length (waiting_unnoticed m (xs ++ es)) + length (waiting_unnoticed i xs) ≤ length (waiting_unnoticed (m + i + 1) xs)
less_by i m xs es all noticed =
    let p : ℕ → Bool = λ n. is_unnoticed n xs in
    let q : ℕ → Bool = λ n. is_unnoticed n (xs ++ es) in
    let earlier : ℕ → Bool = λ n. nat_lt n i in
    let row = range_with_len 1 (m + i) in
    let number : (m + i + 1) - 1 ≡ m + i = omega arith in
    let whole : length (waiting_unnoticed (m + i + 1) xs) ≡ length (filter p row) = ap length (unnoticed_is (m + i + 1) xs) ∙ ap (λ n. length (filter p (range_with_len 1 n))) number in
    let first : length (filter earlier (filter p row)) ≡ length (waiting_unnoticed i xs) = ap length (below_is p (m + i) i (omega arith)) ∙ sym (ap length (unnoticed_is i xs)) in
    let behind : length (filter (λ n. nat_lt n m) (filter q row)) ≡ length (waiting_unnoticed m (xs ++ es)) = ap length (below_is q (m + i) m (omega arith)) ∙ sym (ap length (unnoticed_is m (xs ++ es))) in
    let few = no_more (λ n. nat_lt n m) (filter q row) in
    let apart = others p q earlier row (λ n there is.
    let waited = is_nobody n (p n) (still_unnoticed nobody n xs es all is) in (
      waited,
      ⊎_elim
          (λ less.
          let among : In n (waiting_unnoticed i xs) = subst (In n) (sym (unnoticed_is i xs)) (in_filter p (receipts_before i) n (in_range 1 (i - 1) n (of_range 1 (m + i) n there).0 (below n i less)) waited) in
          absurd (false≢true (sym (neither_noticed n xs es is).1 ∙ noticed n among)))
          (λ no. no)
          (cases_Bool (earlier n)),
    )) in
    omega arith
  where
    below : (n i : ℕ) → nat_lt n i ≡ true → n < 1 + (i - 1)
    below n i less = let is : n < i = grind (arith, nat_tests, less) in omega arith
