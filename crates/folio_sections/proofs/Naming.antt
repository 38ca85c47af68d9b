-- The entries that name who is concerned: what one entry more makes of their places.
use Rattle.std.proofs.Common.{◌≡◌, ℕ, zero, suc, ◌+◌, ◌<◌, ◌≤◌, true, false, cond, nat_lt, List, [], ◌∷◌, ◌++◌, Option, Some, None, filter, length, slice_get, take, option_and_then, refl, sym, ap, subst, ◌∙◌, ⊎_elim, arith}
use Rattle.std.specs.List.{AllByRecursion, last_or}
use Rattle.std.proofs.lemmas.Bool.{cases_Bool}
use Rattle.std.proofs.lemmas.Bool.Decides.{nat_tests}
use Rattle.std.proofs.lemmas.List.{take-append-le, append-nil}
use Rattle.std.proofs.lemmas.List.Elements.{filter-append}
use Rattle.folio_sections.specs.declared.entries.Entry.{Entry}
use Rattle.folio_sections.specs.declared.entries.What.{What}
use Rattle.folio_sections.specs.inner.Naming.{AreNamedAt, Rises, last_at, last_below}

-- ---- numbers that rise

-- a number that is not below b is put after those that are
pub rises_push : (a b : ℕ) (ns : List ℕ) → Rises a ns → AllByRecursion (λ n. n < b) ns → a ≤ b → Rises a (ns ++ b ∷ [])
rises_push a b [] up below low = (low, tt)
rises_push a b (n ∷ ns) up below low =
    let first : n < b = below.0 in
    (up.0, rises_push (n + 1) b ns up.1 below.1 (omega arith))

pub below_push : (b : ℕ) (ns : List ℕ) → AllByRecursion (λ n. n < b) ns → AllByRecursion (λ n. n < b + 1) (ns ++ b ∷ [])
below_push b [] below = (omega arith, tt)
below_push b (n ∷ ns) below =
    let first : n < b = below.0 in
    (omega arith, below_push b ns below.1)

pub below_more : (b : ℕ) (ns : List ℕ) → AllByRecursion (λ n. n < b) ns → AllByRecursion (λ n. n < b + 1) ns
below_more b [] below = tt
below_more b (n ∷ ns) below =
    let first : n < b = below.0 in
    (omega arith, below_more b ns below.1)

-- ---- one entry more

-- all are below k: the filter keeps them
all_kept : (b k : ℕ) (ns : List ℕ) → AllByRecursion (λ n. n < b) ns → b ≤ k → filter (λ n. nat_lt n k) ns ≡ ns
all_kept b k [] below high = refl
all_kept b k (n ∷ ns) below high =
    let first : n < b = below.0 in
    let is : nat_lt n k ≡ true = grind (arith, nat_tests, first, high) in
    rw is (ap (λ rest. n ∷ rest) (all_kept b k ns below.1 high))

-- the last one below k is among them
last_among : (b : ℕ) (o : Option ℕ) (ns : List ℕ) → ((i : ℕ) → o ≡ Some i → i < b) → AllByRecursion (λ n. n < b) ns → (i : ℕ) → last_or o ns ≡ Some i → i < b
last_among b o [] first below i is = first i is
last_among b o (n ∷ ns) first below i is =
    last_among b (Some n) ns (λ j same. let one : n ≡ j = cc in subst (λ m. m < b) one below.0) below.1 i is

filtered_below : (b k : ℕ) (ns : List ℕ) → AllByRecursion (λ n. n < b) ns → AllByRecursion (λ n. n < b) (filter (λ n. nat_lt n k) ns)
filtered_below b k [] below = tt
filtered_below b k (n ∷ ns) below =
    elim (nat_lt n k) as (λ t. AllByRecursion (λ m. m < b) (cond t (n ∷ filter (λ m. nat_lt m k) ns) (filter (λ m. nat_lt m k) ns))) [
      | true ↦ (below.0, filtered_below b k ns below.1)
      | false ↦ filtered_below b k ns below.1
    ]

slice_get-ahead : (xs : List Entry) (e : Entry) (i : ℕ) → i < length xs → slice_get (xs ++ e ∷ []) i ≡ slice_get xs i
slice_get-ahead [] e i less = absurd (omega arith)
slice_get-ahead (x ∷ xs) e zero less = refl
slice_get-ahead (x ∷ xs) e (suc i) less = slice_get-ahead xs e i (omega arith)

slice_get-behind : (xs : List Entry) (e : Entry) → slice_get (xs ++ e ∷ []) (length xs) ≡ Some e
slice_get-behind [] e = refl
slice_get-behind (x ∷ xs) e = slice_get-behind xs e

-- an entry at the end is not seen
at_ahead : (k : ℕ) (ns : List ℕ) (xs : List Entry) (e : Entry) → AllByRecursion (λ n. n < length xs) ns → last_at k ns (xs ++ e ∷ []) ≡ last_at k ns xs
at_ahead k ns xs e below =
    let kept = filtered_below (length xs) k ns below in
    elim (last_below k ns) as (λ o. last_below k ns ≡ o → option_and_then (slice_get (xs ++ e ∷ [])) o ≡ option_and_then (slice_get xs) o) [
      | Some i ↦ λ is. slice_get-ahead xs e i (last_among (length xs) None (filter (λ n. nat_lt n k) ns) (λ j none. cc) kept i is)
      | None ↦ λ none. refl
    ] refl

pub last_or-push : {X : Type 0} (o : Option X) (xs : List X) (x : X) → last_or o (xs ++ x ∷ []) ≡ Some x
last_or-push o [] x = refl
last_or-push o (y ∷ xs) x = last_or-push (Some y) xs x

-- the place at the end is below a greater number of entries
last_pushed : (b : ℕ) (ns : List ℕ) → last_below (b + 1) (ns ++ b ∷ []) ≡ Some b
last_pushed b ns =
    let is : nat_lt b (b + 1) ≡ true = grind (arith, nat_tests) in
    ap (last_or None) (filter-append (λ n. nat_lt n (b + 1)) ns (b ∷ []) ∙ ap (λ t. filter (λ n. nat_lt n (b + 1)) ns ++ cond t (b ∷ []) []) is)
    ∙ last_or-push None (filter (λ n. nat_lt n (b + 1)) ns) b

-- the place at the end is not below a number that is not greater
not_pushed : (k b : ℕ) (ns : List ℕ) → k ≤ b → last_below k (ns ++ b ∷ []) ≡ last_below k ns
not_pushed k b ns few =
    let no : nat_lt b k ≡ false = grind (arith, nat_tests, few) in
    ap (last_or None) (filter-append (λ n. nat_lt n k) ns (b ∷ []) ∙ ap (λ t. filter (λ n. nat_lt n k) ns ++ cond t (b ∷ []) []) no ∙ append-nil (filter (λ n. nat_lt n k) ns))

pub length_push : {X : Type 0} (xs : List X) (e : X) → length (xs ++ e ∷ []) ≡ length xs + 1
length_push [] e = refl
length_push (x ∷ xs) e = let rest = length_push xs e in omega arith

whole : (xs : List Entry) → take (length xs) xs ≡ xs
whole [] = refl
whole (x ∷ xs) = ap (λ rest. x ∷ rest) (whole xs)

take_all : (xs : List Entry) (k : ℕ) → k ≡ length xs → take k xs ≡ xs
take_all xs k is = ap (λ n. take n xs) is ∙ whole xs

-- an entry that names someone
pub named_push : {X : Type 0} (read : List Entry → Option X) (named : What → Option X) (ns : List ℕ) (xs : List Entry) (e : Entry)
    → AreNamedAt read named ns xs → read (xs ++ e ∷ []) ≡ named e.what → AreNamedAt read named (ns ++ length xs ∷ []) (xs ++ e ∷ [])
named_push read named ns xs e are is =
    let below = are.among in
    record {
      among = subst (λ b. AllByRecursion (λ n. n < b) (ns ++ length xs ∷ [])) (sym (length_push xs e)) (below_push (length xs) ns below);
      reads = λ k few.
          ⊎_elim
          (λ ahead.
          let among : k ≤ length xs = grind (arith, nat_tests, ahead) in
          ap read (take-append-le k xs (e ∷ []) among)
          ∙ are.reads k among
          ∙ ap (λ o. option_and_then (λ f. named f.what) o) (sym (at_ahead k ns xs e below) ∙ ap (option_and_then (slice_get (xs ++ e ∷ []))) (sym (not_pushed k (length xs) ns among))))
          (λ behind.
          let count = length_push xs e in
          let all : k ≡ length xs + 1 = grind (arith, nat_tests, behind, few, count) in
          ap read (take_all (xs ++ e ∷ []) k (all ∙ sym count))
          ∙ is
          ∙ sym (ap (λ j. option_and_then (λ f. named f.what) (last_at j (ns ++ length xs ∷ []) (xs ++ e ∷ []))) all
          ∙ ap (λ o. option_and_then (λ f. named f.what) (option_and_then (slice_get (xs ++ e ∷ [])) o)) (last_pushed (length xs) ns)
          ∙ ap (option_and_then (λ f. named f.what)) (slice_get-behind xs e)))
          (cases_Bool (nat_lt k (length xs + 1)));
    }

-- an entry that leaves the reader as it was
pub unnamed_push : {X : Type 0} (read : List Entry → Option X) (named : What → Option X) (ns : List ℕ) (xs : List Entry) (e : Entry)
    → AreNamedAt read named ns xs → read (xs ++ e ∷ []) ≡ read xs → AreNamedAt read named ns (xs ++ e ∷ [])
unnamed_push read named ns xs e are is =
    let below = are.among in
    record {
      among = subst (λ b. AllByRecursion (λ n. n < b) ns) (sym (length_push xs e)) (below_more (length xs) ns below);
      reads = λ k few.
          ⊎_elim
          (λ ahead.
          let among : k ≤ length xs = grind (arith, nat_tests, ahead) in
          ap read (take-append-le k xs (e ∷ []) among) ∙ are.reads k among ∙ ap (option_and_then (λ f. named f.what)) (sym (at_ahead k ns xs e below)))
          (λ behind.
          let count = length_push xs e in
          let all : k ≡ length xs + 1 = grind (arith, nat_tests, behind, few, count) in
          let high : length xs ≤ k = omega arith in
          let same : last_below k ns ≡ last_below (length xs) ns = ap (last_or None) (all_kept (length xs) k ns below high ∙ sym (all_kept (length xs) (length xs) ns below (omega arith))) in
          ap read (take_all (xs ++ e ∷ []) k (all ∙ sym count))
          ∙ is ∙ sym (ap read (take_all xs (length xs) refl))
          ∙ are.reads (length xs) (omega arith)
          ∙ ap (option_and_then (λ f. named f.what)) (sym (at_ahead (length xs) ns xs e below) ∙ sym (ap (option_and_then (slice_get (xs ++ e ∷ []))) same)))
          (cases_Bool (nat_lt k (length xs + 1)));
    }
