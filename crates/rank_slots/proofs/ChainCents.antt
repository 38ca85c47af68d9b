-- What the spans of a place have of the first cents of a line.
use Rattle.std.proofs.Common.{◌≡◌, ℕ, ◌+◌, ◌-◌, ◌<◌, ◌≤◌, Bool, true, false, cond, List, [], ◌∷◌, Option, Some, None, count_by, drop, get_or, length, min, refl, subst, sum_by, sym, take, ap, arith, ◌∙◌, zero, suc}
use Rattle.std.specs.List.{AllByRecursion, position_or_len}
use Rattle.std.proofs.lemmas.List.{length-drop, length-take}
use Rattle.std.proofs.lemmas.List.Sums.{passes_at_first, sum_by-cons}
use Rattle.gb_base.specs.Limits.{most_sum}
use Rattle.gb_base.specs.RightNo.{RightNo, same_right}
use Rattle.gb_base.proofs.SameRights.{right_is}
use Rattle.rank_slots.specs.Filled.{Filled, line}
use Rattle.rank_slots.specs.Groups.{group_of, is_of}
use Rattle.rank_slots.specs.Payments.{line_pay}
use Rattle.rank_slots.specs.declared.places.Piece.{Piece}
use Rattle.rank_slots.specs.declared.places.Place.{Place}
use Rattle.rank_slots.specs.declared.spans.Span.{Span}
use Rattle.rank_slots.specs.inner.Pieces.{AreJoined, line_of}
use Rattle.rank_slots.specs.inner.SpanJoins.{reach}
use Rattle.rank_slots.specs.inner.Spans.{AreChainedPieces, CanBeWalked, Descend, Linked, SpanLists, StandInRow, cents_within, is_span_of, last_first, link_at, span_at, spans_of}
use Rattle.rank_slots.proofs.GroupMembers.{alone_group}
use Rattle.rank_slots.proofs.JoinedSpans.{spans_row}
use Rattle.rank_slots.proofs.LineCounts.{counted_is}
use Rattle.rank_slots.proofs.Lines.{counted_front}
use Rattle.rank_slots.proofs.LonePay.{lone_pay}
use Rattle.rank_slots.proofs.SpanLines.{row_sum}

-- ---- a walk

-- A walk over a chain: what is counted of it so far, and the rest that is still to be counted.
pub record IsWalking (spans : List Span) (links : List (Option ℕ)) (next : Option ℕ) (cents t : ℕ) (xs : List Span) : Type 0 where
  pub rest : List Span
  pub walk : Linked spans links next rest
  pub descends : Descend rest
  pub counted : cents + sum_by (cents_within t) rest ≡ sum_by (cents_within t) xs
  pub few : cents + sum_by (λ x. x.cents) rest < most_sum

pub walks : (spans : List Span) (links : List (Option ℕ)) (next : Option ℕ) (t : ℕ) (xs : List Span) → CanBeWalked spans links next xs → IsWalking spans links next 0 t xs
walks spans links next t xs can = record { rest = xs; walk = can.chain; descends = can.descends; counted = omega arith; few = omega (arith, can.sum) }

-- what a walk has at a number
pub record HasNext (spans : List Span) (links : List (Option ℕ)) (number cents t : ℕ) (xs : List Span) : Type 0 where
  pub within : number < length spans
  pub more : cents + (span_at spans number).cents < most_sum
  pub nearer : reach spans (link_at links number) < reach spans (Some number)
  pub goes_on : IsWalking spans links (link_at links number) (cents + cents_within t (span_at spans number)) t xs

begins_before : (spans : List Span) (links : List (Option ℕ)) (head : Option ℕ) (x : Span) (rest : List Span) → Linked spans links head rest → AllByRecursion (λ y. y.from < x.from) rest → reach spans head < x.from + 1
begins_before spans links None x [] chain all = omega arith
begins_before spans links None x (y ∷ ys) chain all = absurd chain
begins_before spans links (Some n) x [] chain all = absurd chain
begins_before spans links (Some n) x (y ∷ ys) chain all = omega (arith, all.0, ap (λ (z : Span). z.from) chain.1.0)

pub next_of : (spans : List Span) (links : List (Option ℕ)) (number cents t : ℕ) (xs : List Span) → IsWalking spans links (Some number) cents t xs → HasNext spans links number cents t xs
next_of spans links number cents t xs it = by it.rest it.walk it.descends it.counted it.few
  where
    by : (rest : List Span) → Linked spans links (Some number) rest → Descend rest → cents + sum_by (cents_within t) rest ≡ sum_by (cents_within t) xs → cents + sum_by (λ x. x.cents) rest < most_sum
        → HasNext spans links number cents t xs
    by [] chain down counted few = absurd chain
    by (x ∷ rest) chain down counted few =
        let here = chain.1.0 in
        let its = ap (λ (z : Span). z.cents) here in
        let from = ap (λ (z : Span). z.from) here in
        let paid = ap (cents_within t) here in
        let sum = sum_by-cons (λ (z : Span). z.cents) x rest in
        let all = sum_by-cons (cents_within t) x rest in
        let nearer = begins_before spans links (link_at links number) x rest chain.1.1 down.0 in
        record {
          within = chain.0;
          more = omega (arith, few, sum, its);
          nearer = omega (arith, nearer, from);
          goes_on = record {
            rest = rest;
            walk = chain.1.1;
            descends = down.1;
            counted = omega (arith, counted, all, paid);
            few = omega (arith, few, sum, its);
          };
        }

-- a walk that is at its end
pub walked : (spans : List Span) (links : List (Option ℕ)) (cents t : ℕ) (xs : List Span) → IsWalking spans links None cents t xs → (cents ≡ sum_by (cents_within t) xs) × (cents < most_sum)
walked spans links cents t xs it = by it.rest it.walk it.counted it.few
  where
    by : (rest : List Span) → Linked spans links None rest → cents + sum_by (cents_within t) rest ≡ sum_by (cents_within t) xs → cents + sum_by (λ x. x.cents) rest < most_sum
        → (cents ≡ sum_by (cents_within t) xs) × (cents < most_sum)
    by [] chain counted few = (omega (arith, counted), omega (arith, few))
    by (x ∷ rest) chain counted few = absurd chain

-- ---- the chain of a place

-- the spans of a row descend where the last one is first
descends_from : (test : Span → Bool) (others : List Span) (n : ℕ) (xs : List Span) → StandInRow n xs → AllByRecursion (λ y. y.from < n) others → Descend others → Descend (last_first test others xs)
descends_from test others n [] row before down = down
descends_from test others n (x ∷ xs) row before down =
    let at = row.0 in
    let some = row.1.0 in
    elim (test x) as (λ b. Descend (last_first test (cond b (x ∷ others) others) xs)) [
      | true ↦ descends_from test (x ∷ others) (n + x.cents) xs row.1.1 (omega arith, sooner n (n + x.cents) others (omega arith) before) (subst (λ k. AllByRecursion (λ y. y.from < k) others) (sym at) before, down)
      | false ↦ descends_from test others (n + x.cents) xs row.1.1 (sooner n (n + x.cents) others (omega arith) before) down
    ]
  where
    sooner : (m k : ℕ) (ys : List Span) → m ≤ k → AllByRecursion (λ y. y.from < m) ys → AllByRecursion (λ y. y.from < k) ys
    sooner m k [] less all = tt
    sooner m k (y ∷ ys) less all = (omega (arith, less, all.0), sooner m k ys less all.1)

-- a sum over spans comes to the same where the last one is first
sum_last_first : (f : Span → ℕ) (test : Span → Bool) (others xs : List Span) → sum_by f (last_first test others xs) ≡ sum_by f others + sum_by (λ x. cond (test x) (f x) 0) xs
sum_last_first f test others [] = omega arith
sum_last_first f test others (x ∷ xs) =
    let rest = sum_by-cons (λ (y : Span). cond (test y) (f y) 0) x xs in
    elim (test x) as (λ b. test x ≡ b → sum_by f (last_first test (cond b (x ∷ others) others) xs) ≡ sum_by f others + sum_by (λ y. cond (test y) (f y) 0) (x ∷ xs)) [
      | true ↦ λ own. omega (arith, sum_last_first f test (x ∷ others) xs, sum_by-cons f x others, rest, ap (λ b. cond b (f x) 0) own)
      | false ↦ λ other. omega (arith, sum_last_first f test others xs, rest, ap (λ b. cond b (f x) 0) other)
    ] refl

none_counted : (test : RightNo → Bool) (k : ℕ) → 0 ≡ count_by test (take k [])
none_counted test zero = refl
none_counted test (suc k) = refl

-- the spans of a right have as many of the first cents as are the right's
counted_spans : (r : RightNo) (t n : ℕ) (ps : List Piece) → sum_by (λ x. cond (is_span_of r x) (cents_within t x) 0) (spans_of n ps) ≡ count_by (same_right r) (take (t - n) (line_of ps))
counted_spans r t n [] = none_counted (same_right r) (t - n)
counted_spans r t n (p ∷ ps) =
    let own = sum_by-cons (λ (x : Span). cond (is_span_of r x) (cents_within t x) 0) (record { from = n; cents = p.cents; right = p.right }) (spans_of (n + p.cents) ps) in
    let least : min p.cents (t - n) ≡ min (t - n) p.cents = omega arith in
    let here = ap (λ k. cond (same_right r p.right) k 0) least in
    let left : t - n - min (t - n) p.cents ≡ t - (n + p.cents) = omega arith in
    let behind = ap (λ k. count_by (same_right r) (take k (line_of ps))) left in
    let rest = counted_spans r t (n + p.cents) ps in
    let front = counted_front (same_right r) (t - n) p.cents p.right (line_of ps) in
    omega (arith, own, here, behind, rest, front)

-- the chain of a right has as many of the first cents as are the right's
pub chain_pays : (r : RightNo) (t : ℕ) (ps : List Piece) → sum_by (cents_within t) (last_first (is_span_of r) [] (spans_of 0 ps)) ≡ count_by (same_right r) (take t (line_of ps))
chain_pays r t ps =
    let all = sum_last_first (cents_within t) (is_span_of r) [] (spans_of 0 ps) in
    let counted = counted_spans r t 0 ps in
    let whole : t - 0 ≡ t = omega arith in
    omega (arith, all, counted, ap (λ k. count_by (same_right r) (take k (line_of ps))) whole)

few_own : (test : Span → Bool) (xs : List Span) → sum_by (λ x. cond (test x) x.cents 0) xs ≤ sum_by (λ x. x.cents) xs
few_own test [] = omega arith
few_own test (x ∷ xs) =
    let own = sum_by-cons (λ (y : Span). cond (test y) y.cents 0) x xs in
    let all = sum_by-cons (λ (y : Span). y.cents) x xs in
    let rest = few_own test xs in
    elim (test x) as (λ b. test x ≡ b → sum_by (λ y. cond (test y) y.cents 0) (x ∷ xs) ≤ sum_by (λ y. y.cents) (x ∷ xs)) [
      | true ↦ λ is. omega (arith, own, all, rest, ap (λ b. cond b x.cents 0) is)
      | false ↦ λ is. omega (arith, own, all, rest, ap (λ b. cond b x.cents 0) is)
    ] refl

-- the chain of a place can be walked
pub can_be_walked : (a : SpanLists) (places : List Place) (pieces : List Piece) (n : ℕ) (p : Place) → AreChainedPieces a places pieces → AreJoined pieces → sum_by (λ q. q.cents) pieces < most_sum → n < length places → p ≡ get_or places n p
    → CanBeWalked a.spans a.links (link_at a.heads n) (last_first (is_span_of p.right) [] (spans_of 0 pieces))
can_be_walked a places pieces n p are joined sum within here =
    let row = spans_row 0 pieces joined (omega (arith, sum)) in
    let own = sum_last_first (λ (x : Span). x.cents) (is_span_of p.right) [] (spans_of 0 pieces) in
    let few = few_own (is_span_of p.right) (spans_of 0 pieces) in
    record {
      chain = subst (λ xs. Linked a.spans a.links (link_at a.heads n) (last_first (is_span_of p.right) [] xs)) are.spans (are.chains n p within here);
      descends = descends_from (is_span_of p.right) [] 0 (spans_of 0 pieces) row tt tt;
      sum = omega (arith, own, few, row_sum 0 (spans_of 0 pieces) row);
    }

-- a place of this number
pub place_at : (places : List Place) (n : ℕ) → n < length places → (p : Place) × (p ≡ get_or places n p)
place_at [] n within = absurd (omega (arith, within))
place_at (x ∷ xs) zero within = (x, refl)
place_at (x ∷ xs) (suc n) within = place_at xs n (omega (arith, within))

-- ---- a right that stands alone

-- the chain of a right that stands alone can be walked by the number of its place
pub lone_chain : (a : SpanLists) (places : List Place) (pieces : List Piece) (r : RightNo) (n : ℕ) → AreChainedPieces a places pieces → AreJoined pieces → sum_by (λ q. q.cents) pieces < most_sum
    → n < length places → n ≡ position_or_len (is_of r) places → CanBeWalked a.spans a.links (link_at a.heads n) (last_first (is_span_of r) [] (spans_of 0 pieces))
lone_chain a places pieces r n are joined sum within first =
    let p = (place_at places n within).0 in
    let here = (place_at places n within).1 in
    let passes = passes_at_first (is_of r) places p (subst (λ k. k < length places) first within) in
    let own : same_right p.right r ≡ true = ap (is_of r) (here ∙ ap (λ k. get_or places k p) first) ∙ passes in
    subst (λ x. CanBeWalked a.spans a.links (link_at a.heads n) (last_first (is_span_of x) [] (spans_of 0 pieces))) (right_is p.right r own)
    (can_be_walked a places pieces n p are joined sum within here)

-- what a right that stands alone gets
pub lone_pays : (filled : Filled) (pieces : List Piece) (r : RightNo) (t n cents : ℕ) → line_of pieces ≡ line filled → n < length filled.places → group_of filled.places r ≡ take 1 (drop n filled.places)
    → cents ≡ sum_by (cents_within t) (last_first (is_span_of r) [] (spans_of 0 pieces)) → cents ≡ line_pay filled r t
lone_pays filled pieces r t n cents is_line within group counts =
    let one : length (group_of filled.places r) ≡ 1 = ap length group ∙ omega (arith, within, length-take 1 (drop n filled.places), length-drop n filled.places) in
    counts ∙ chain_pays r t pieces ∙ ap (λ cs. count_by (same_right r) (take t cs)) is_line ∙ counted_is (same_right r) (take t (line filled)) ∙ sym (lone_pay filled r (alone_group filled.places r one) t)
