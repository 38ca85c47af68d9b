-- The claims of places as spans.
use Rattle.std.proofs.Common.{◌≡◌, ℕ, zero, suc, ◌+◌, ◌<◌, ◌≤◌, true, false, cond, All, List, [], ◌∷◌, ◌++◌, get_or, length, Some, None, replicate, sum_by, refl, sym, ap, ◌∙◌, subst, arith}
use Rattle.std.specs.List.{AllByRecursion, list_any}
use Rattle.std.proofs.lemmas.Bool.{false_from_ne_true, false≢true, or_left, or_parts, or_right}
use Rattle.std.proofs.lemmas.List.Elements.{All-head, All-tail}
use Rattle.std.proofs.lemmas.List.Sums.{sum_by-cons}
use Rattle.gb_base.specs.Limits.{most_sum}
use Rattle.gb_base.specs.RightNo.{RightNo, same_right}
use Rattle.gb_base.proofs.SameRights.{others_turned, right_from, right_self, right_turned}
use Rattle.rank_slots.specs.CanFill.{ArePlaces}
use Rattle.rank_slots.specs.Groups.{is_of}
use Rattle.rank_slots.specs.CentLine.{cents_of, written}
use Rattle.rank_slots.specs.declared.places.Place.{Place}
use Rattle.rank_slots.specs.declared.spans.Span.{Span}
use Rattle.rank_slots.specs.inner.Spans.{AreCut, Linked, SpanLists, StandInOrder, StandInRow, claimed_spans, is_span_of, last_first, line_of_spans, link_at, span_at}
use Rattle.rank_slots.proofs.LineCounts.{counted_is}
use Rattle.rank_slots.proofs.PlaceLines.{AreDifferent, claim_written, different_behind, none_behind}
use Rattle.rank_slots.proofs.PlaceNumbers.{any_at}

pub claimed_count : (n : ℕ) (places : List Place) → length (claimed_spans n places) ≡ length places
claimed_count n [] = refl
claimed_count n (p ∷ ps) = let rest = claimed_count (n + p.claim) ps in omega arith

claimed_line : (n : ℕ) (places : List Place) → line_of_spans (claimed_spans n places) ≡ written places
claimed_line n [] = refl
claimed_line n (p ∷ ps) = ap (λ cs. replicate p.claim p.right ++ cs) (claimed_line (n + p.claim) ps)

-- ---- where they stand

pub claimed_row : (n : ℕ) (places : List Place) → All (λ p. 1 ≤ p.claim) places → n + sum_by (λ p. p.claim) places < most_sum → StandInRow n (claimed_spans n places)
claimed_row n [] claims sum = omega (arith, sum)
claimed_row n (p ∷ ps) claims sum = (
  refl,
  (
    All-head (λ (q : Place). 1 ≤ q.claim) p ps claims,
    claimed_row (n + p.claim) ps (All-tail (λ (q : Place). 1 ≤ q.claim) p ps claims) (omega (arith, sum, sum_by-cons (λ (q : Place). q.claim) p ps)),
  ),
)

claimed_owned : (n : ℕ) (all places : List Place) → ((right : RightNo) → list_any (is_of right) places ≡ true → list_any (is_of right) all ≡ true) → AllByRecursion (λ x. list_any (is_of x.right) all ≡ true) (claimed_spans n places)
claimed_owned n all [] among = tt
claimed_owned n all (p ∷ ps) among = (
  among p.right (or_left (same_right p.right p.right) (list_any (is_of p.right) ps) (right_self p.right)),
  claimed_owned (n + p.claim) all ps (λ right there. among right (or_right (same_right p.right right) (list_any (is_of right) ps) there)),
)

-- ---- the span of each place

none_last : (n : ℕ) (right : RightNo) (others : List Span) (places : List Place) → list_any (is_of right) places ≡ false → last_first (is_span_of right) others (claimed_spans n places) ≡ others
none_last n right others [] none = refl
none_last n right others (p ∷ ps) none =
    let parts = or_parts (same_right p.right right) (list_any (is_of right) ps) none in
    let x : Span = record { from = n; cents = p.claim; right = p.right } in
    (λ i. last_first (is_span_of right) (cond (others_turned p.right right parts.0 i) (x ∷ others) others) (claimed_spans (n + p.claim) ps)) ∙ none_last (n + p.claim) right others ps parts.1

pub lone_span : (m : ℕ) (places : List Place) (n : ℕ) (p : Place) → AreDifferent places → n < length places → p ≡ get_or places n p
    → span_at (claimed_spans m places) n ∷ [] ≡ last_first (is_span_of p.right) [] (claimed_spans m places)
lone_span m [] n p differ within here = absurd (omega (arith, within))
lone_span m (q ∷ qs) zero p differ within here =
    let x : Span = record { from = m; cents = q.claim; right = q.right } in
    let own : same_right p.right q.right ≡ true = right_from p.right q.right (ap (λ (z : Place). z.right) here) in
    sym (none_last (m + q.claim) p.right (x ∷ []) qs (none_behind q qs p.right differ (right_turned p.right q.right own)))
    ∙ (λ i. last_first (is_span_of p.right) (cond (sym own i) (x ∷ []) []) (claimed_spans (m + q.claim) qs))
lone_span m (q ∷ qs) (suc n) p differ within here =
    let x : Span = record { from = m; cents = q.claim; right = q.right } in
    let behind = any_at (is_of p.right) qs n p (omega (arith, within)) (subst (λ (z : Place). same_right z.right p.right ≡ true) here (right_self p.right)) in
    let other : same_right p.right q.right ≡ false =
    false_from_ne_true (same_right p.right q.right) (λ own. false≢true (sym (none_behind q qs p.right differ (right_turned p.right q.right own)) ∙ behind)) in
    lone_span (m + q.claim) qs n p (different_behind q qs differ) (omega (arith, within)) here ∙ (λ i. last_first (is_span_of p.right) (cond (sym other i) (x ∷ []) []) (claimed_spans (m + q.claim) qs))

-- ---- together

pub claimed_in_order : (a : SpanLists) (places : List Place) → ArePlaces places → a.spans ≡ claimed_spans 0 places → length a.links ≡ length places → length a.heads ≡ length places
    → ((n : ℕ) → n < length places → link_at a.links n ≡ None) → ((n : ℕ) → n < length places → link_at a.heads n ≡ Some n) → StandInOrder a places (written places)
claimed_in_order a places are spans links heads no_link own_head = record {
  cut = subst (AreCut a places) (sym spans) (record {
    in_row = claimed_row 0 places are.claims (omega (arith, are.sum));
    as_many = ap length spans;
    as_many_links = links ∙ sym (ap length spans ∙ claimed_count 0 places);
    as_many_heads = heads;
    chains = λ n p within here.
        subst (λ h. Linked a.spans a.links h (last_first (is_span_of p.right) [] (claimed_spans 0 places))) (sym (own_head n within))
        (subst (Linked a.spans a.links (Some n)) (lone_span 0 places n p are.distinct within here) (
          omega (arith, ap length spans, claimed_count 0 places, within),
          (ap (λ xs. span_at xs n) spans, subst (λ h. Linked a.spans a.links h []) (sym (no_link n within)) tt),
        ));
    owned = claimed_owned 0 places places (λ right there. there);
    claims = λ right. ap (cents_of right) (claimed_line 0 places) ∙ counted_is (same_right right) (written places) ∙ claim_written right places are.distinct;
  });
  is_line = ap line_of_spans spans ∙ claimed_line 0 places;
}
