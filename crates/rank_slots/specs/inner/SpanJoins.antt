-- Two chains of spans that become one.
use Rattle.std.specs.Prelude.{◌≡◌, ◌⊎◌, ℕ, ◌+◌, ◌<◌, ◌≤◌, List, [], ◌∷◌, Option, Some, None}
use Rattle.std.specs.List.{AllByRecursion}
use Rattle.rank_slots.specs.declared.spans.Span.{Span}
use Rattle.rank_slots.specs.inner.Spans.{Linked, span_at}

-- the first span begins ahead of the second, and ends before it begins
abbrev pub Before : Span → Span → Type 0
Before x y = (x.from < y.from) × (x.from + x.cents ≤ y.from)

-- each span ends before those behind it begin
abbrev pub Ascend : List Span → Type 0
Ascend [] = Unit {0}
Ascend (x ∷ xs) = AllByRecursion (λ y. Before x y) xs × Ascend xs

-- these spans in reverse order, and then those that are made
abbrev pub turned : List Span → List Span → List Span
turned made [] = made
turned made (x ∷ xs) = turned (x ∷ made) xs

-- the third list has the spans of both others, each in its order
abbrev pub Merge : List Span → List Span → List Span → Type 0
Merge firsts seconds [] = (firsts ≡ []) × (seconds ≡ [])
Merge firsts seconds (x ∷ xs) =
    ((rest : List Span) × ((firsts ≡ x ∷ rest) × Merge rest seconds xs))
    ⊎ ((rest : List Span) × ((seconds ≡ x ∷ rest) × Merge firsts rest xs))

-- Two chains, the last spans first, and a third one, the first span first, that is made of the spans taken from them so far: together
-- they are the whole.
pub record AreToJoin (spans : List Span) (links : List (Option ℕ)) (first second joined : Option ℕ) (whole : List Span) : Type 0 where
  pub rest : List Span
  pub firsts : List Span
  pub seconds : List Span
  pub made : List Span
  pub first_chain : Linked spans links first firsts
  pub second_chain : Linked spans links second seconds
  pub made_chain : Linked spans links joined made
  pub merge : Merge firsts seconds rest
  pub is_whole : turned made rest ≡ whole
  pub ascends : Ascend whole

-- how far a chain whose last span is first reaches on the line, by where this span begins
abbrev pub reach : List Span → Option ℕ → ℕ
reach spans None = 0
reach spans (Some number) = (span_at spans number).from + 1
