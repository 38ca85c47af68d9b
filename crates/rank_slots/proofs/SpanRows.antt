-- What an exchange makes of the spans of a line, in their order.
use Rattle.std.proofs.Common.{◌≡◌, ℕ, ◌+◌, ◌-◌, ◌<◌, ◌≤◌, Bool, true, false, cond, eqb, nat_le, List, [], ◌∷◌, ◌++◌, filter, length, min, refl, replicate, subst, sym, ap, arith, ◌∙◌}
use Rattle.std.specs.List.{AllByRecursion}
use Rattle.std.proofs.lemmas.Bool.Decides.{nat_tests}
use Rattle.std.proofs.lemmas.List.{length-append}
use Rattle.gb_base.specs.RightNo.{RightNo, same_right}
use Rattle.rank_slots.specs.CentLine.{exchanged}
use Rattle.rank_slots.specs.declared.places.Swap.{Swap}
use Rattle.rank_slots.specs.declared.spans.Span.{Span}
use Rattle.rank_slots.specs.inner.Spans.{StandInRow, back_of, front_of, is_span_of_either, last_first, line_of_spans, parts_of, spans_dealt, spans_exchanged}
use Rattle.rank_slots.proofs.Exchanges.{party_splits, third_keeps}

-- what holds of the parts of a span holds by cases
pub by_parts : (P : List Span → Type 0) (s : Swap) (left : ℕ) (x : Span)
    → (left ≡ 0 → P (front_of x x.cents s.recede ∷ []))
    → (1 ≤ left → x.cents ≤ left → P (front_of x x.cents s.rise ∷ []))
    → (1 ≤ left → left < x.cents → P (front_of x left s.rise ∷ back_of x left s.recede ∷ []))
    → P (parts_of s left x)
by_parts P s left x none whole split =
    elim (eqb left 0)
    as (λ b. eqb left 0 ≡ b → P (cond b (front_of x x.cents s.recede ∷ []) (cond (nat_le x.cents left) (front_of x x.cents s.rise ∷ []) (front_of x left s.rise ∷ back_of x left s.recede ∷ [])))) [
      | true ↦ λ is. none (grind (arith, nat_tests, is))
      | false ↦ λ is.
          elim (nat_le x.cents left)
          as (λ b. nat_le x.cents left ≡ b → P (cond b (front_of x x.cents s.rise ∷ []) (front_of x left s.rise ∷ back_of x left s.recede ∷ []))) [
            | true ↦ λ fits. whole (grind (arith, nat_tests, is)) (grind (arith, nat_tests, fits))
            | false ↦ λ over. split (grind (arith, nat_tests, is)) (grind (arith, nat_tests, over))
          ] refl
    ] refl

-- ---- where they stand

row_parts : (s : Swap) (left n : ℕ) (x : Span) (rest : List Span) → x.from ≡ n → 1 ≤ x.cents → StandInRow (n + x.cents) rest → StandInRow n (parts_of s left x ++ rest)
row_parts s left n x rest at some row =
    by_parts (λ ps. StandInRow n (ps ++ rest)) s left x
    (λ none. (at, (some, row)))
    (λ more fits. (at, (some, row)))
    (λ more less.
    let behind : n + left + (x.cents - left) ≡ n + x.cents = omega arith in
    (at, (more, (ap (λ k. k + left) at, (omega arith, subst (λ k. StandInRow k rest) (sym behind) row)))))

pub exchanged_row : (s : Swap) (left n : ℕ) (xs : List Span) → StandInRow n xs → StandInRow n (spans_exchanged s left xs)
exchanged_row s left n [] row = row
exchanged_row s left n (x ∷ xs) row =
    elim (is_span_of_either s x) as (λ b. StandInRow n (cond b (parts_of s left x ++ spans_exchanged s (left - x.cents) xs) (x ∷ spans_exchanged s left xs))) [
      | true ↦ row_parts s left n x (spans_exchanged s (left - x.cents) xs) row.0 row.1.0 (exchanged_row s (left - x.cents) (n + x.cents) xs row.1.1)
      | false ↦ (row.0, (row.1.0, exchanged_row s left (n + x.cents) xs row.1.1))
    ]

-- ---- the line that they stand for

parts_line : (s : Swap) (left : ℕ) (x : Span) (rest : List Span)
    → line_of_spans (parts_of s left x ++ rest) ≡ replicate (min left x.cents) s.rise ++ (replicate (x.cents - min left x.cents) s.recede ++ line_of_spans rest)
parts_line s left x rest =
    by_parts (λ ps. line_of_spans (ps ++ rest) ≡ replicate (min left x.cents) s.rise ++ (replicate (x.cents - min left x.cents) s.recede ++ line_of_spans rest)) s left x
    (λ none. as_many 0 x.cents (omega arith) (omega arith))
    (λ more fits. as_many x.cents 0 (omega arith) (omega arith))
    (λ more less. as_many left (x.cents - left) (omega arith) (omega arith))
  where
    as_many : (m k : ℕ) → m ≡ min left x.cents → k ≡ x.cents - min left x.cents
        → replicate m s.rise ++ (replicate k s.recede ++ line_of_spans rest) ≡ replicate (min left x.cents) s.rise ++ (replicate (x.cents - min left x.cents) s.recede ++ line_of_spans rest)
    as_many m k up down = λ i. replicate (up i) s.rise ++ (replicate (down i) s.recede ++ line_of_spans rest)

pub exchanged_line : (s : Swap) (left : ℕ) (xs : List Span) → line_of_spans (spans_exchanged s left xs) ≡ exchanged s left (line_of_spans xs)
exchanged_line s left [] = refl
exchanged_line s left (x ∷ xs) =
    elim (is_span_of_either s x)
    as (λ b. is_span_of_either s x ≡ b → line_of_spans (cond b (parts_of s left x ++ spans_exchanged s (left - x.cents) xs) (x ∷ spans_exchanged s left xs)) ≡ exchanged s left (replicate x.cents x.right ++ line_of_spans xs)) [
      | true ↦ λ own.
          let more : left - min left x.cents ≡ left - x.cents = omega arith in
          let up = replicate (min left x.cents) s.rise in
          let down = replicate (x.cents - min left x.cents) s.recede in
          parts_line s left x (spans_exchanged s (left - x.cents) xs)
          ∙ ap (λ cs. up ++ (down ++ cs)) (exchanged_line s (left - x.cents) xs ∙ ap (λ k. exchanged s k (line_of_spans xs)) (sym more))
          ∙ sym (party_splits s left x.cents x.right (line_of_spans xs) own)
      | false ↦ λ third. ap (λ cs. replicate x.cents x.right ++ cs) (exchanged_line s left xs) ∙ sym (third_keeps s left x.cents x.right (line_of_spans xs) third)
    ] refl

-- ---- whose they are

-- the spans of a right that is neither of the two are as before
parts_skipped : (s : Swap) (left : ℕ) (x : Span) (right : RightNo) (others rest : List Span) → same_right right s.recede ≡ false → same_right right s.rise ≡ false
    → last_first (λ y. same_right right y.right) others (parts_of s left x ++ rest) ≡ last_first (λ y. same_right right y.right) others rest
parts_skipped s left x right others rest recede rise =
    let own : Span → Bool = λ y. same_right right y.right in
    by_parts (λ ps. last_first own others (ps ++ rest) ≡ last_first own others rest) s left x
    (λ none. λ i. last_first own (cond (recede i) (front_of x x.cents s.recede ∷ others) others) rest)
    (λ more fits. λ i. last_first own (cond (rise i) (front_of x x.cents s.rise ∷ others) others) rest)
    (λ more less.
    (λ i. last_first own (cond (recede i) (back_of x left s.recede ∷ cond (same_right right s.rise) (front_of x left s.rise ∷ others) others) (cond (same_right right s.rise) (front_of x left s.rise ∷ others) others)) rest)
    ∙ (λ i. last_first own (cond (rise i) (front_of x left s.rise ∷ others) others) rest))

pub third_spans : (s : Swap) (right : RightNo) → same_right right s.recede ≡ false → same_right right s.rise ≡ false → ((x : Span) → is_span_of_either s x ≡ true → same_right right x.right ≡ false)
    → (left : ℕ) (others xs : List Span) → last_first (λ y. same_right right y.right) others (spans_exchanged s left xs) ≡ last_first (λ y. same_right right y.right) others xs
third_spans s right recede rise apart left others [] = refl
third_spans s right recede rise apart left others (x ∷ xs) =
    let own : Span → Bool = λ y. same_right right y.right in
    elim (is_span_of_either s x)
    as (λ b. is_span_of_either s x ≡ b → last_first own others (cond b (parts_of s left x ++ spans_exchanged s (left - x.cents) xs) (x ∷ spans_exchanged s left xs)) ≡ last_first own (cond (same_right right x.right) (x ∷ others) others) xs) [
      | true ↦ λ party.
          parts_skipped s left x right others (spans_exchanged s (left - x.cents) xs) recede rise
          ∙ third_spans s right recede rise apart (left - x.cents) others xs
          ∙ (λ i. last_first own (cond (sym (apart x party) i) (x ∷ others) others) xs)
      | false ↦ λ third. third_spans s right recede rise apart left (cond (same_right right x.right) (x ∷ others) others) xs
    ] refl

pub last_first_append : (test : Span → Bool) (others xs ys : List Span) → last_first test others (xs ++ ys) ≡ last_first test (last_first test others xs) ys
last_first_append test others [] ys = refl
last_first_append test others (x ∷ xs) ys = last_first_append test (cond (test x) (x ∷ others) others) xs ys

-- a test that passes spans of the two rights alone finds the same among what becomes of these as among all
pub own_spans : (s : Swap) (test : Span → Bool) → ((x : Span) → is_span_of_either s x ≡ false → test x ≡ false) → (left : ℕ) (others xs : List Span)
    → last_first test others (spans_dealt s left (filter (is_span_of_either s) xs)) ≡ last_first test others (spans_exchanged s left xs)
own_spans s test inside left others [] = refl
own_spans s test inside left others (x ∷ xs) =
    let kept = filter (is_span_of_either s) xs in
    elim (is_span_of_either s x)
    as (λ b. is_span_of_either s x ≡ b → last_first test others (spans_dealt s left (cond b (x ∷ kept) kept)) ≡ last_first test others (cond b (parts_of s left x ++ spans_exchanged s (left - x.cents) xs) (x ∷ spans_exchanged s left xs))) [
      | true ↦ λ party.
          last_first_append test others (parts_of s left x) (spans_dealt s (left - x.cents) kept)
          ∙ own_spans s test inside (left - x.cents) (last_first test others (parts_of s left x)) xs
          ∙ sym (last_first_append test others (parts_of s left x) (spans_exchanged s (left - x.cents) xs))
      | false ↦ λ third. own_spans s test inside left others xs ∙ (λ i. last_first test (cond (sym (inside x third) i) (x ∷ others) others) (spans_exchanged s left xs))
    ] refl

-- ---- how many they are

pub exchanged_count : (s : Swap) (left : ℕ) (xs : List Span)
    → length (spans_dealt s left (filter (is_span_of_either s) xs)) + length xs ≡ length (spans_exchanged s left xs) + length (filter (is_span_of_either s) xs)
exchanged_count s left [] = refl
exchanged_count s left (x ∷ xs) =
    let kept = filter (is_span_of_either s) xs in
    elim (is_span_of_either s x)
    as (λ b. length (spans_dealt s left (cond b (x ∷ kept) kept)) + length (x ∷ xs) ≡ length (cond b (parts_of s left x ++ spans_exchanged s (left - x.cents) xs) (x ∷ spans_exchanged s left xs)) + length (cond b (x ∷ kept) kept)) [
      | true ↦
          let dealt = length-append (parts_of s left x) (spans_dealt s (left - x.cents) kept) in
          let all = length-append (parts_of s left x) (spans_exchanged s (left - x.cents) xs) in
          let rest = exchanged_count s (left - x.cents) xs in
          omega arith
      | false ↦ let rest = exchanged_count s left xs in omega arith
    ]

-- ---- what holds of all of them

-- what holds of the two rights, and of the right of each span, holds of that of each span after an exchange
pub exchanged_all : (P : RightNo → Type 0) (s : Swap) → P s.recede → P s.rise → (left : ℕ) (xs : List Span) → AllByRecursion (λ x. P x.right) xs → AllByRecursion (λ x. P x.right) (spans_exchanged s left xs)
exchanged_all P s recede rise left [] all = tt
exchanged_all P s recede rise left (x ∷ xs) all =
    elim (is_span_of_either s x) as (λ b. AllByRecursion (λ y. P y.right) (cond b (parts_of s left x ++ spans_exchanged s (left - x.cents) xs) (x ∷ spans_exchanged s left xs))) [
      | true ↦
          let rest = exchanged_all P s recede rise (left - x.cents) xs all.1 in
          by_parts (λ ps. AllByRecursion (λ y. P y.right) (ps ++ spans_exchanged s (left - x.cents) xs)) s left x (λ none. (recede, rest)) (λ more fits. (rise, rest)) (λ more less. (rise, (recede, rest)))
      | false ↦ (all.0, exchanged_all P s recede rise left xs all.1)
    ]
