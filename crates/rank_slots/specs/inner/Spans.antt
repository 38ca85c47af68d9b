-- A line that is cut into spans, with a chain of the spans of each place.
use Rattle.std.specs.Prelude.{◌≡◌, All, ℕ, ◌+◌, ◌-◌, ◌<◌, ◌≤◌, Bool, true, false, ◌==◌, nat_le, nat_lt, min, if◌then◌else◌, List, [], ◌∷◌, ◌++◌, Option, Some, None, flat_map, length, replicate, slice_index_or, slice_set, sum_by}
use Rattle.std.specs.List.{AllByRecursion, list_any}
use Rattle.gb_base.specs.Limits.{most_sum}
use Rattle.gb_base.specs.RightNo.{RightNo, same_right}
use Rattle.rank_slots.specs.CanFill.{CanSwap}
use Rattle.rank_slots.specs.CentLine.{cents_of, exchange_all, is_of_either, written}
use Rattle.rank_slots.specs.Groups.{is_of}
use Rattle.rank_slots.specs.Payments.{claim_of}
use Rattle.rank_slots.specs.declared.places.Piece.{Piece}
use Rattle.rank_slots.specs.declared.places.Place.{Place}
use Rattle.rank_slots.specs.declared.places.Swap.{Swap}
use Rattle.rank_slots.specs.declared.spans.Span.{Span}

-- ---- spans in the order of the line

-- the line that spans stand for
abbrev pub line_of_spans : List Span → List RightNo
line_of_spans spans = flat_map (λ x. replicate x.cents x.right) spans

-- the span is this right's
abbrev pub is_span_of : RightNo → Span → Bool
is_span_of right x = same_right right x.right

-- the span is one of the two rights'
abbrev pub is_span_of_either : Swap → Span → Bool
is_span_of_either s x = is_of_either s x.right

-- each span begins where the one before it ends, and has cents
abbrev pub StandInRow : ℕ → List Span → Type 0
StandInRow n [] = n < most_sum
StandInRow n (x ∷ xs) = (x.from ≡ n) × ((1 ≤ x.cents) × StandInRow (n + x.cents) xs)

-- the claims of places as spans, of which the first begins at this cent
abbrev pub claimed_spans : ℕ → List Place → List Span
claimed_spans n [] = []
claimed_spans n (p ∷ ps) = record { from = n; cents = p.claim; right = p.right } ∷ claimed_spans (n + p.claim) ps

-- these pieces as spans, of which the first begins at this cent
abbrev pub spans_of : ℕ → List Piece → List Span
spans_of n [] = []
spans_of n (p ∷ ps) = record { from = n; cents = p.cents; right = p.right } ∷ spans_of (n + p.cents) ps

-- the first cents of a span, as this right's
abbrev pub front_of : Span → ℕ → RightNo → Span
front_of x cents right = record { from = x.from; cents = cents; right = right }

-- the cents of a span behind its first ones, as this right's
abbrev pub back_of : Span → ℕ → RightNo → Span
back_of x cents right = record { from = x.from + cents; cents = x.cents - cents; right = right }

-- what a span of one of the two rights becomes while cents are left to rise
abbrev pub parts_of : Swap → ℕ → Span → List Span
parts_of s left x =
    if left == 0 then front_of x x.cents s.recede ∷ []
    else (if nat_le x.cents left then front_of x x.cents s.rise ∷ []
    else front_of x left s.rise ∷ back_of x left s.recede ∷ [])

-- what an exchange makes of the spans while cents are left to rise
abbrev pub spans_exchanged : Swap → ℕ → List Span → List Span
spans_exchanged s left [] = []
spans_exchanged s left (x ∷ xs) =
    if is_span_of_either s x then parts_of s left x ++ spans_exchanged s (left - x.cents) xs else x ∷ spans_exchanged s left xs

-- what an exchange makes of spans that are all of one of the two rights, while cents are left to rise
abbrev pub spans_dealt : Swap → ℕ → List Span → List Span
spans_dealt s left [] = []
spans_dealt s left (x ∷ xs) = parts_of s left x ++ spans_dealt s (left - x.cents) xs

-- the spans after an exchange; an exchange of a right with itself leaves them as they are
abbrev pub exchange_spans : List Span → Swap → List Span
exchange_spans spans s =
    if same_right s.recede s.rise then spans else spans_exchanged s (cents_of s.rise (line_of_spans spans)) spans

-- ---- chains of spans in lists

-- no span
abbrev pub no_span : Span
no_span = record { from = 0; cents = 0; right = record { receipt = 0; act = 0 } }

-- the span of this number
abbrev pub span_at : List Span → ℕ → Span
span_at spans number = slice_index_or spans number no_span

-- the number that follows this one in its chain, or the first of this place's chain
abbrev pub link_at : List (Option ℕ) → ℕ → Option ℕ
link_at links number = slice_index_or links number None

-- the chain from this number on has these spans
abbrev pub Linked : List Span → List (Option ℕ) → Option ℕ → List Span → Type 0
Linked spans links None [] = Unit {0}
Linked spans links None (x ∷ xs) = ⊥
Linked spans links (Some number) [] = ⊥
Linked spans links (Some number) (x ∷ xs) = (number < length spans) × ((span_at spans number ≡ x) × Linked spans links (link_at links number) xs)

-- those of these spans that pass, the last one first, and behind them others
abbrev pub last_first : (Span → Bool) → List Span → List Span → List Span
last_first test others [] = others
last_first test others (x ∷ xs) = last_first test (if test x then x ∷ others else others) xs

-- the chain begins with a span, or is none
abbrev pub Begins : List Span → Option ℕ → Type 0
Begins spans None = Unit {0}
Begins spans (Some number) = number < length spans

-- the first span of the first chain stands ahead of that of the second on the line, or only the first chain is empty
abbrev pub begins_ahead : List Span → Option ℕ → Option ℕ → Bool
begins_ahead spans first None = false
begins_ahead spans None (Some other) = true
begins_ahead spans (Some number) (Some other) = nat_lt (span_at spans number).from (span_at spans other).from

-- these two chains, first the one whose first span stands further behind on the line
abbrev pub later_first : List Span → Option ℕ → Option ℕ → Option ℕ × Option ℕ
later_first spans first second = if begins_ahead spans first second then (second, first) else (first, second)

-- the lists of a line in spans
pub record SpanLists : Type 0 where
  pub spans : List Span
  pub links : List (Option ℕ)
  pub heads : List (Option ℕ)

-- the lists with a span at this number, as the first of the place's chain
abbrev pub put : SpanLists → ℕ → ℕ → Span → SpanLists
put a place number x = record {
  spans = slice_set a.spans number x;
  links = slice_set a.links number (link_at a.heads place);
  heads = slice_set a.heads place (Some number);
}

-- the lists with one more span, as the first of the place's chain
abbrev pub pushed : SpanLists → ℕ → Span → SpanLists
pushed a place x = record {
  spans = a.spans ++ x ∷ [];
  links = a.links ++ link_at a.heads place ∷ [];
  heads = slice_set a.heads place (Some (length a.spans));
}

-- the lists with this span, of one of the two rights, dealt out: its parts are the first of the chains of the places to which they go
abbrev pub span_dealt : SpanLists → Swap → ℕ → ℕ → ℕ → ℕ → SpanLists
span_dealt a s recede rise number left =
    if left == 0 then put a recede number (front_of (span_at a.spans number) (span_at a.spans number).cents s.recede)
    else (if nat_le (span_at a.spans number).cents left then put a rise number (front_of (span_at a.spans number) (span_at a.spans number).cents s.rise)
    else pushed (put a rise number (front_of (span_at a.spans number) left s.rise)) recede (back_of (span_at a.spans number) left s.recede))

-- ---- chains that are walked

-- how many of the first t cents of the line a span has
abbrev pub cents_within : ℕ → Span → ℕ
cents_within t x = min x.cents (t - x.from)

-- each span begins further behind on the line than all that follow it
abbrev pub Descend : List Span → Type 0
Descend [] = Unit {0}
Descend (x ∷ xs) = AllByRecursion (λ y. y.from < x.from) xs × Descend xs

-- The chain from this number on has these spans, the last one first, with no more cents than a line may have.
pub record CanBeWalked (spans : List Span) (links : List (Option ℕ)) (head : Option ℕ) (xs : List Span) : Type 0 where
  pub chain : Linked spans links head xs
  pub descends : Descend xs
  pub sum : sum_by (λ x. x.cents) xs < most_sum

-- ---- lists of spans that stand for a line

-- the lists have for each place a chain of the spans of its right, the last one first
abbrev pub AreChained : SpanLists → List Place → Type 0
AreChained a places = (n : ℕ) (p : Place) → n < length places → p ≡ slice_index_or places n p → Linked a.spans a.links (link_at a.heads n) (last_first (is_span_of p.right) [] a.spans)

-- The lists have just these spans, which stand in a row, and for each place a chain of those of its right, the last one first. Each
-- right has as many cents as it claims.
pub record AreCut (a : SpanLists) (places : List Place) (row : List Span) : Type 0 where
  pub in_row : StandInRow 0 row
  pub as_many : length a.spans ≡ length row
  pub as_many_links : length a.links ≡ length a.spans
  pub as_many_heads : length a.heads ≡ length places
  pub chains : (n : ℕ) (p : Place) → n < length places → p ≡ slice_index_or places n p → Linked a.spans a.links (link_at a.heads n) (last_first (is_span_of p.right) [] row)
  pub owned : AllByRecursion (λ x. list_any (is_of x.right) places ≡ true) row
  pub claims : (right : RightNo) → cents_of right (line_of_spans row) ≡ claim_of places right

-- The lists have just the spans of these pieces, with a chain for each place.
pub record AreChainedPieces (a : SpanLists) (places : List Place) (pieces : List Piece) : Type 0 where
  pub spans : a.spans ≡ spans_of 0 pieces
  pub as_many_links : length a.links ≡ length a.spans
  pub as_many_heads : length a.heads ≡ length places
  pub chains : AreChained a places

-- The lists are cut for some row of spans that stands for this line.
pub record StandFor (a : SpanLists) (places : List Place) (line : List RightNo) : Type 0 where
  pub row : List Span
  pub cut : AreCut a places row
  pub is_line : line_of_spans row ≡ line

-- The lists are cut for their own spans, which stand in the order of this line.
pub record StandInOrder (a : SpanLists) (places : List Place) (line : List RightNo) : Type 0 where
  pub cut : AreCut a places a.spans
  pub is_line : line_of_spans a.spans ≡ line

-- ---- lists that are kept from one line to the next

-- The lists stand in order for the line of these places after these exchanges, each of which has cut one span at most.
pub record AreMadeOf (a : SpanLists) (places : List Place) (swaps : List Swap) : Type 0 where
  pub stand : StandInOrder a places (exchange_all (written places) swaps)
  pub few : length a.spans ≤ length places + length swaps

-- The lists stand in order for a line of these places after some of these exchanges, and the further ones are all that are left to make.
pub record AreToGoOn (a : SpanLists) (places : List Place) (further swaps : List Swap) : Type 0 where
  pub line : List RightNo
  pub stand : StandInOrder a places line
  pub goes_on : exchange_all line further ≡ exchange_all (written places) swaps
  pub few : length a.spans + length further ≤ length places + length swaps
  pub can_swap : All (CanSwap places) further
