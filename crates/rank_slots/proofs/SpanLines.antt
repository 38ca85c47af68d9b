-- The line that spans stand for, span by span.
use Rattle.std.proofs.Common.{◌≡◌, ℕ, ◌+◌, ◌<◌, List, [], ◌∷◌, ◌++◌, get_or, length, refl, replicate, sum_by, sym, take, true, false, cond, eqb, ap, arith, ◌-◌, ◌∙◌, ⊎_elim}
use Rattle.std.proofs.lemmas.Bool.{or_cases}
use Rattle.std.proofs.lemmas.List.{append-nil, take_more}
use Rattle.std.proofs.lemmas.List.Concat.{flat_map-append}
use Rattle.std.proofs.lemmas.List.Sums.{sum_by-cons, sum_by_more}
use Rattle.gb_base.specs.Limits.{most_sum}
use Rattle.gb_base.specs.RightNo.{RightNo, same_right}
use Rattle.gb_base.proofs.SameRights.{right_is}
use Rattle.rank_slots.specs.CentLine.{cents_of, exchange, exchanged, is_of_either}
use Rattle.rank_slots.specs.declared.places.Swap.{Swap}
use Rattle.rank_slots.specs.declared.spans.Span.{Span}
use Rattle.rank_slots.specs.inner.Spans.{StandInRow, exchange_spans, line_of_spans, spans_exchanged}
use Rattle.rank_slots.proofs.SpanRows.{exchanged_line}

line_push : (xs : List Span) (x : Span) → line_of_spans (xs ++ x ∷ []) ≡ line_of_spans xs ++ replicate x.cents x.right
line_push xs x = flat_map-append (λ y. replicate y.cents y.right) xs (x ∷ []) ∙ ap (λ t. line_of_spans xs ++ t) (append-nil (replicate x.cents x.right))

pub line_so_far : (xs : List Span) (i : ℕ) (x : Span) → i < length xs → x ≡ get_or xs i x → line_of_spans (take (i + 1) xs) ≡ line_of_spans (take i xs) ++ replicate x.cents x.right
line_so_far xs i x within is =
    ap line_of_spans (take_more xs i x within) ∙ line_push (take i xs) (get_or xs i x) ∙ ap (λ (y : Span). line_of_spans (take i xs) ++ replicate y.cents y.right) (sym is)

pub sum_so_far : (xs : List Span) (i : ℕ) (x : Span) → i < length xs → x ≡ get_or xs i x → sum_by (λ y. y.cents) (take (i + 1) xs) ≡ sum_by (λ y. y.cents) (take i xs) + x.cents
sum_so_far xs i x within is = sum_by_more (λ (y : Span). y.cents) xs i x within ∙ ap (λ (y : Span). sum_by (λ z. z.cents) (take i xs) + y.cents) (sym is)

-- spans in a row have fewer cents than a line may have
pub row_sum : (n : ℕ) (xs : List Span) → StandInRow n xs → n + sum_by (λ x. x.cents) xs < most_sum
row_sum n [] row = omega (arith, row)
row_sum n (x ∷ xs) row = omega (arith, row_sum (n + x.cents) xs row.1.1, sum_by-cons (λ (y : Span). y.cents) x xs)

-- ---- exchanges

-- an exchange of a right with itself leaves the line as it is
itself : (s : Swap) → same_right s.recede s.rise ≡ true → (left : ℕ) (cs : List RightNo) → exchanged s left cs ≡ cs
itself s one left [] = refl
itself s one left (c ∷ cs) =
    elim (is_of_either s c) as (λ b. is_of_either s c ≡ b → cond b (cond (eqb left 0) (s.recede ∷ exchanged s 0 cs) (s.rise ∷ exchanged s (left - 1) cs)) (c ∷ exchanged s left cs) ≡ c ∷ cs) [
      | true ↦ λ party.
          let same : s.recede ≡ s.rise = right_is s.recede s.rise one in
          let own : s.recede ≡ c = ⊎_elim (λ e. right_is s.recede c e) (λ e. same ∙ right_is s.rise c e) (or_cases (same_right s.recede c) (same_right s.rise c) party) in
          elim (eqb left 0) as (λ b. cond b (s.recede ∷ exchanged s 0 cs) (s.rise ∷ exchanged s (left - 1) cs) ≡ c ∷ cs) [
            | true ↦ λ i. own i ∷ itself s one 0 cs i
            | false ↦ λ i. (sym same ∙ own) i ∷ itself s one (left - 1) cs i
          ]
      | false ↦ λ third. ap (λ t. c ∷ t) (itself s one left cs)
    ] refl

pub line_behind : (s : Swap) (row : List Span) → line_of_spans (exchange_spans row s) ≡ exchange (line_of_spans row) s
line_behind s row =
    let left = cents_of s.rise (line_of_spans row) in
    elim (same_right s.recede s.rise) as (λ b. same_right s.recede s.rise ≡ b → line_of_spans (cond b row (spans_exchanged s left row)) ≡ exchange (line_of_spans row) s) [
      | true ↦ λ one. sym (itself s one left (line_of_spans row))
      | false ↦ λ two. exchanged_line s left row
    ] refl
