-- A chain of spans that is dealt to two places.
use Rattle.std.specs.Prelude.{◌≡◌, ℕ, ◌+◌, ◌-◌, ◌<◌, Bool, true, List, [], Option, Some, None, length}
use Rattle.std.specs.List.{AllByRecursion}
use Rattle.gb_base.specs.Limits.{most_sum}
use Rattle.rank_slots.specs.declared.places.Swap.{Swap}
use Rattle.rank_slots.specs.declared.spans.Span.{Span}
use Rattle.rank_slots.specs.inner.SpanJoins.{Ascend}
use Rattle.rank_slots.specs.inner.Spans.{Linked, SpanLists, is_span_of, last_first, link_at, span_at, spans_dealt}

-- The chain is to be dealt: the first span of the line is first, and none ends behind the last cent that a line may have.
pub record IsToDeal (a : SpanLists) (joined : Option ℕ) (whole : List Span) : Type 0 where
  pub chain : Linked a.spans a.links joined whole
  pub ascends : Ascend whole
  pub bounded : AllByRecursion (λ x. x.from + x.cents < most_sum) whole

-- The chain is dealt in part: the two places have the first of its cents, and `rest` is still to be dealt; the lists had `start` spans, and so many cents were to rise.
pub record IsDealing (a : SpanLists) (s : Swap) (recede rise : ℕ) (next : Option ℕ) (left start cents : ℕ) (whole : List Span) : Type 0 where
  pub rest : List Span
  pub receded : List Span
  pub risen : List Span
  pub rest_chain : Linked a.spans a.links next rest
  pub recede_chain : Linked a.spans a.links (link_at a.heads recede) receded
  pub rise_chain : Linked a.spans a.links (link_at a.heads rise) risen
  pub ascends : Ascend rest
  pub bounded : AllByRecursion (λ x. x.from + x.cents < most_sum) rest
  pub receded_ahead : AllByRecursion (λ y. AllByRecursion (λ x. y.from < x.from) rest) receded
  pub risen_ahead : AllByRecursion (λ y. AllByRecursion (λ x. y.from < x.from) rest) risen
  pub recede_is : last_first (is_span_of s.recede) receded (spans_dealt s left rest) ≡ last_first (is_span_of s.recede) [] (spans_dealt s cents whole)
  pub rise_is : last_first (is_span_of s.rise) risen (spans_dealt s left rest) ≡ last_first (is_span_of s.rise) [] (spans_dealt s cents whole)
  pub count_is : length a.spans + length (spans_dealt s left rest) + length whole ≡ start + length (spans_dealt s cents whole) + length rest
  pub pass : (test : Span → Bool) → AllByRecursion (λ x. test x ≡ true) whole → AllByRecursion (λ x. test x ≡ true) rest

-- All of the chain is dealt.
pub record IsDealt (a : SpanLists) (s : Swap) (recede rise start cents : ℕ) (whole : List Span) : Type 0 where
  pub recede_chain : Linked a.spans a.links (link_at a.heads recede) (last_first (is_span_of s.recede) [] (spans_dealt s cents whole))
  pub rise_chain : Linked a.spans a.links (link_at a.heads rise) (last_first (is_span_of s.rise) [] (spans_dealt s cents whole))
  pub count_is : length a.spans + length whole ≡ start + length (spans_dealt s cents whole)

-- how far it is from the first span of a chain to the last cent that a line may have
abbrev pub gap : List Span → Option ℕ → ℕ
gap spans None = 0
gap spans (Some number) = most_sum - (span_at spans number).from
