-- Chains of spans: what a write leaves of them, and two of them that become one.
use Rattle.std.proofs.Common.{◌≡◌, ◌≢◌, ℕ, ◌+◌, ◌<◌, ◌≤◌, Bool, true, false, cond, eqb, ◌||◌, List, [], ◌∷◌, ◌++◌, filter, length, set, Option, Some, None, refl, subst, sym, ap, arith, inl, inr, ⊎_elim, ◌∙◌}
use Rattle.std.specs.List.{AllByRecursion}
use Rattle.std.proofs.lemmas.Bool.{false≢true}
use Rattle.std.proofs.lemmas.List.{get_or-set_other, get_or_append_left, length-append, length-set}
use Rattle.rank_slots.specs.declared.spans.Span.{Span}
use Rattle.rank_slots.specs.inner.SpanJoins.{Ascend, Before, Merge, turned}
use Rattle.rank_slots.specs.inner.Spans.{Linked, StandInRow, last_first, link_at, no_span, span_at}

-- ---- what a write leaves

-- the numbers of spans that a test does not pass are as before
abbrev pub LeavesOthers : (Span → Bool) → List Span → List (Option ℕ) → List Span → List (Option ℕ) → Type 0
LeavesOthers test spans links new_spans new_links =
    (n : ℕ) → n < length spans → test (span_at spans n) ≡ false → (n < length new_spans) × ((span_at new_spans n ≡ span_at spans n) × (link_at new_links n ≡ link_at links n))

pub carried : (test : Span → Bool) (spans : List Span) (links : List (Option ℕ)) (new_spans : List Span) (new_links : List (Option ℕ)) → LeavesOthers test spans links new_spans new_links
    → (head : Option ℕ) (xs : List Span) → AllByRecursion (λ x. test x ≡ false) xs → Linked spans links head xs → Linked new_spans new_links head xs
carried test spans links new_spans new_links leaves None [] none chain = tt
carried test spans links new_spans new_links leaves None (x ∷ xs) none chain = chain
carried test spans links new_spans new_links leaves (Some n) [] none chain = chain
carried test spans links new_spans new_links leaves (Some n) (x ∷ xs) none chain =
    let kept = leaves n chain.0 (subst (λ y. test y ≡ false) (sym chain.1.0) none.0) in (
      kept.0,
      (kept.1.0 ∙ chain.1.0, subst (λ head. Linked new_spans new_links head xs) (sym kept.1.1) (carried test spans links new_spans new_links leaves (link_at links n) xs none.1 chain.1.1)),
    )

-- a write at the number of a span that passes leaves the others
pub write_leaves : (test : Span → Bool) (spans : List Span) (links : List (Option ℕ)) (n : ℕ) (x : Span) (link : Option ℕ) → test (span_at spans n) ≡ true
    → LeavesOthers test spans links (set spans n x) (set links n link)
write_leaves test spans links n x link passes =
    λ m within fails.
    let other : m ≢ n = λ same. false≢true (sym fails ∙ ap (λ k. test (span_at spans k)) same ∙ passes) in
    (omega (arith, length-set spans n x), (get_or-set_other spans n m x no_span other, get_or-set_other links n m link None other))

pub link_leaves : (test : Span → Bool) (spans : List Span) (links : List (Option ℕ)) (n : ℕ) (link : Option ℕ) → test (span_at spans n) ≡ true → LeavesOthers test spans links spans (set links n link)
link_leaves test spans links n link passes =
    λ m within fails.
    let other : m ≢ n = λ same. false≢true (sym fails ∙ ap (λ k. test (span_at spans k)) same ∙ passes) in
    (within, (refl, get_or-set_other links n m link None other))

-- a push leaves the others
pub push_leaves : (test : Span → Bool) (spans : List Span) (links : List (Option ℕ)) (x : Span) (link : Option ℕ) → length links ≡ length spans
    → LeavesOthers test spans links (spans ++ x ∷ []) (links ++ link ∷ [])
push_leaves test spans links x link as_many =
    λ m within fails.
    let here : m < length links = omega arith in
    let longer = length-append spans (x ∷ []) in
    (omega arith, (get_or_append_left spans (x ∷ []) no_span m within, get_or_append_left links (link ∷ []) None m here))

-- a span begins at the cent of this one
abbrev pub same_from : Span → Span → Bool
same_from x y = eqb y.from x.from

-- ---- the order of spans

row_behind : (x : Span) (n : ℕ) (xs : List Span) → x.from < n → x.from + x.cents ≤ n → StandInRow n xs → AllByRecursion (λ y. Before x y) xs
row_behind x n [] less least row = tt
row_behind x n (y ∷ ys) less least row =
    let at = row.0 in ((omega arith, omega arith), row_behind x (n + y.cents) ys (omega arith) (omega arith) row.1.1)

pub row_ascends : (n : ℕ) (xs : List Span) → StandInRow n xs → Ascend xs
row_ascends n [] row = tt
row_ascends n (x ∷ xs) row =
    let at = row.0 in
    let some = row.1.0 in
    (row_behind x (n + x.cents) xs (omega arith) (omega arith) row.1.1, row_ascends (n + x.cents) xs row.1.1)

pub all_kept : (P : Span → Type 0) (test : Span → Bool) (xs : List Span) → AllByRecursion P xs → AllByRecursion P (filter test xs)
all_kept P test [] all = tt
all_kept P test (x ∷ xs) all = elim (test x) as (λ b. AllByRecursion P (cond b (x ∷ filter test xs) (filter test xs))) [ true ↦ (all.0, all_kept P test xs all.1) | false ↦ all_kept P test xs all.1 ]

pub kept_ascend : (test : Span → Bool) (xs : List Span) → Ascend xs → Ascend (filter test xs)
kept_ascend test [] up = tt
kept_ascend test (x ∷ xs) up =
    elim (test x) as (λ b. Ascend (cond b (x ∷ filter test xs) (filter test xs))) [
      | true ↦ (all_kept (λ y. Before x y) test xs up.0, kept_ascend test xs up.1)
      | false ↦ kept_ascend test xs up.1
    ]

pub all_pass : (test : Span → Bool) (xs : List Span) → AllByRecursion (λ x. test x ≡ true) (filter test xs)
all_pass test [] = tt
all_pass test (x ∷ xs) =
    elim (test x) as (λ b. test x ≡ b → AllByRecursion (λ y. test y ≡ true) (cond b (x ∷ filter test xs) (filter test xs))) [
      | true ↦ λ is. (is, all_pass test xs)
      | false ↦ λ is. all_pass test xs
    ] refl

pub each_weaker : (P Q : Span → Type 0) → ((x : Span) → P x → Q x) → (xs : List Span) → AllByRecursion P xs → AllByRecursion Q xs
each_weaker P Q weaker [] all = tt
each_weaker P Q weaker (x ∷ xs) all = (weaker x all.0, each_weaker P Q weaker xs all.1)

-- ---- turned round

turned_from : (test : Span → Bool) (made others xs : List Span) → turned made (last_first test others xs) ≡ turned (filter test xs ++ made) others
turned_from test made others [] = refl
turned_from test made others (x ∷ xs) =
    elim (test x) as (λ b. turned made (last_first test (cond b (x ∷ others) others) xs) ≡ turned (cond b (x ∷ filter test xs) (filter test xs) ++ made) others) [
      | true ↦ turned_from test made (x ∷ others) xs
      | false ↦ turned_from test made others xs
    ]

pub turned_back : (test : Span → Bool) (xs : List Span) → turned [] (last_first test [] xs) ≡ filter test xs ++ []
turned_back test xs = turned_from test [] [] xs

-- those that are made ascend, behind all that are left
pub parted : (made rest : List Span) → Ascend (turned made rest) → Ascend made × AllByRecursion (λ r. AllByRecursion (λ m. Before r m) made) rest
parted made [] up = (up, tt)
parted made (x ∷ rest) up =
    let later = parted (x ∷ made) rest up in
    (later.0.1, (later.0.0, each_weaker (λ r. AllByRecursion (λ m. Before r m) (x ∷ made)) (λ r. AllByRecursion (λ m. Before r m) made) (λ r all. all.1) rest later.1))

-- all that are left stand ahead of the first that is made
pub left_ahead : (made : List Span) (x : Span) (rest : List Span) → Ascend (turned made (x ∷ rest)) → AllByRecursion (λ r. Before r x) rest
left_ahead made x rest up = each_weaker (λ r. AllByRecursion (λ m. Before r m) (x ∷ made)) (λ r. Before r x) (λ r all. all.0) rest (parted (x ∷ made) rest up).1

pub all_turned : (P : Span → Type 0) (made rest : List Span) → AllByRecursion P (turned made rest) → AllByRecursion P made × AllByRecursion P rest
all_turned P made [] all = (all, tt)
all_turned P made (x ∷ rest) all = let later = all_turned P (x ∷ made) rest all in (later.0.1, (later.0.0, later.1))

-- ---- two chains in one

pub merge_turned : (firsts seconds xs : List Span) → Merge firsts seconds xs → Merge seconds firsts xs
merge_turned firsts seconds [] both = (both.1, both.0)
merge_turned firsts seconds (x ∷ xs) both = ⊎_elim (λ one. inr (one.0, (one.1.0, merge_turned one.0 seconds xs one.1.1))) (λ other. inl (other.0, (other.1.0, merge_turned firsts other.0 xs other.1.1))) both

pub merge_all : (P : Span → Type 0) (firsts seconds xs : List Span) → Merge firsts seconds xs → AllByRecursion P xs → AllByRecursion P firsts × AllByRecursion P seconds
merge_all P firsts seconds [] both all = (subst (λ ys. AllByRecursion P ys) (sym both.0) tt, subst (λ ys. AllByRecursion P ys) (sym both.1) tt)
merge_all P firsts seconds (x ∷ xs) both all =
    ⊎_elim
    (λ one. let rest = merge_all P one.0 seconds xs one.1.1 all.1 in (subst (λ ys. AllByRecursion P ys) (sym one.1.0) (all.0, rest.0), rest.1))
    (λ other. let rest = merge_all P firsts other.0 xs other.1.1 all.1 in (rest.0, subst (λ ys. AllByRecursion P ys) (sym other.1.0) (all.0, rest.1)))
    both

-- the spans that pass one of two tests, where none passes both, are those of the one merged with those of the other
pub merge_from : (p q : Span → Bool) → ((x : Span) → p x ≡ true → q x ≡ false) → (firsts seconds both xs : List Span) → Merge firsts seconds both
    → Merge (last_first p firsts xs) (last_first q seconds xs) (last_first (λ x. p x || q x) both xs)
merge_from p q apart firsts seconds both [] merge = merge
merge_from p q apart firsts seconds both (x ∷ xs) merge =
    elim (p x)
    as (λ b. p x ≡ b → Merge (last_first p (cond b (x ∷ firsts) firsts) xs) (last_first q (cond (q x) (x ∷ seconds) seconds) xs) (last_first (λ y. p y || q y) (cond (b || q x) (x ∷ both) both) xs)) [
      | true ↦ λ is.
          subst (λ c. Merge (last_first p (x ∷ firsts) xs) (last_first q (cond c (x ∷ seconds) seconds) xs) (last_first (λ y. p y || q y) (cond (true || c) (x ∷ both) both) xs)) (sym (apart x is))
          (merge_from p q apart (x ∷ firsts) seconds (x ∷ both) xs (inl (firsts, (refl, merge))))
      | false ↦ λ is.
          elim (q x) as (λ c. Merge (last_first p firsts xs) (last_first q (cond c (x ∷ seconds) seconds) xs) (last_first (λ y. p y || q y) (cond (false || c) (x ∷ both) both) xs)) [
            | true ↦ merge_from p q apart firsts (x ∷ seconds) (x ∷ both) xs (inr (seconds, (refl, merge)))
            | false ↦ merge_from p q apart firsts seconds both xs merge
          ]
    ] refl
