-- The next span of a chain is dealt to two places.
use Rattle.std.proofs.Common.{◌≡◌, ◌≢◌, ℕ, ◌+◌, ◌-◌, ◌<◌, ◌≤◌, Bool, true, false, cond, eqb, nat_le, List, [], ◌∷◌, ◌++◌, length, set, Some, refl, subst, sym, arith, ◌∙◌}
use Rattle.std.specs.List.{AllByRecursion}
use Rattle.std.proofs.lemmas.Bool.Decides.{nat_tests}
use Rattle.std.proofs.lemmas.List.{length-append, length-set}
use Rattle.gb_base.specs.Limits.{most_sum}
use Rattle.gb_base.specs.RightNo.{same_right}
use Rattle.gb_base.proofs.SameRights.{others_turned, right_self}
use Rattle.rank_slots.specs.declared.places.Swap.{Swap}
use Rattle.rank_slots.specs.declared.spans.Span.{Span}
use Rattle.rank_slots.specs.inner.SpanDeals.{IsDealing}
use Rattle.rank_slots.specs.inner.SpanJoins.{Ascend, Before}
use Rattle.rank_slots.specs.inner.Spans.{Linked, SpanLists, back_of, front_of, is_span_of, last_first, link_at, parts_of, pushed, put, span_at, span_dealt, spans_dealt}
use Rattle.rank_slots.proofs.SpanChains.{each_weaker}
use Rattle.rank_slots.proofs.PutSpans.{ahead_apart, behind_apart, is_pushed, is_put}

-- ---- the next span of a chain is dealt

-- what holds of the lists and the parts of a span holds by cases
pub by_deal : (P : SpanLists → List Span → Type 0) (a : SpanLists) (s : Swap) (recede rise number left : ℕ) (x : Span) → span_at a.spans number ≡ x
    → (left ≡ 0 → P (put a recede number (front_of x x.cents s.recede)) (front_of x x.cents s.recede ∷ []))
    → (1 ≤ left → x.cents ≤ left → P (put a rise number (front_of x x.cents s.rise)) (front_of x x.cents s.rise ∷ []))
    → (1 ≤ left → left < x.cents → P (pushed (put a rise number (front_of x left s.rise)) recede (back_of x left s.recede)) (front_of x left s.rise ∷ back_of x left s.recede ∷ []))
    → P (span_dealt a s recede rise number left) (parts_of s left x)
by_deal P a s recede rise number left x is none whole split =
    subst (λ y. P (as_dealt y) (parts_of s left x)) (sym is)
    (elim (eqb left 0)
    as (λ b. eqb left 0 ≡ b
    → P (cond b (put a recede number (front_of x x.cents s.recede))
    (cond (nat_le x.cents left) (put a rise number (front_of x x.cents s.rise)) (pushed (put a rise number (front_of x left s.rise)) recede (back_of x left s.recede))))
    (cond b (front_of x x.cents s.recede ∷ []) (cond (nat_le x.cents left) (front_of x x.cents s.rise ∷ []) (front_of x left s.rise ∷ back_of x left s.recede ∷ [])))) [
      | true ↦ λ zero. none (grind (arith, nat_tests, zero))
      | false ↦ λ some.
          elim (nat_le x.cents left)
          as (λ b. nat_le x.cents left ≡ b
          → P (cond b (put a rise number (front_of x x.cents s.rise)) (pushed (put a rise number (front_of x left s.rise)) recede (back_of x left s.recede)))
          (cond b (front_of x x.cents s.rise ∷ []) (front_of x left s.rise ∷ back_of x left s.recede ∷ []))) [
            | true ↦ λ fits. whole (grind (arith, nat_tests, some)) (grind (arith, nat_tests, fits))
            | false ↦ λ over. split (grind (arith, nat_tests, some)) (grind (arith, nat_tests, over))
          ] refl
    ] refl)
  where
    as_dealt : Span → SpanLists
    as_dealt y =
        cond (eqb left 0) (put a recede number (front_of y y.cents s.recede))
        (cond (nat_le y.cents left) (put a rise number (front_of y y.cents s.rise)) (pushed (put a rise number (front_of y left s.rise)) recede (back_of y left s.recede)))

-- the first span of what is left, and what is left behind it
pub record IsFirst (a : SpanLists) (number : ℕ) (x : Span) (xs : List Span) : Type 0 where
  pub within : number < length a.spans
  pub is : span_at a.spans number ≡ x
  pub chain : Linked a.spans a.links (link_at a.links number) xs

-- all that the next step needs of the places
pub record CanDeal (a : SpanLists) (s : Swap) (recede rise : ℕ) : Type 0 where
  pub differ : same_right s.recede s.rise ≡ false
  pub recede_rise : recede ≢ rise
  pub recede_within : recede < length a.heads
  pub rise_within : rise < length a.heads
  pub as_many : length a.links ≡ length a.spans

further : (x : Span) (xs ys : List Span) → AllByRecursion (λ y. AllByRecursion (λ z. y.from < z.from) (x ∷ xs)) ys → AllByRecursion (λ y. AllByRecursion (λ z. y.from < z.from) xs) ys
further x xs ys ahead = each_weaker (λ y. AllByRecursion (λ z. y.from < z.from) (x ∷ xs)) (λ y. AllByRecursion (λ z. y.from < z.from) xs) (λ y all. all.1) ys ahead

from_front : (x : Span) (xs : List Span) → AllByRecursion (λ y. Before x y) xs → AllByRecursion (λ z. x.from < z.from) xs
from_front x xs behind = each_weaker (λ y. Before x y) (λ z. x.from < z.from) (λ y before. before.0) xs behind

from_back : (x : Span) (left : ℕ) (xs : List Span) → left < x.cents → AllByRecursion (λ y. Before x y) xs → AllByRecursion (λ z. x.from + left < z.from) xs
from_back x left xs less behind = each_weaker (λ y. Before x y) (λ z. x.from + left < z.from) (λ y before. omega (arith, before.1)) xs behind

pub deals_first : (a : SpanLists) (s : Swap) (recede rise number left start cents : ℕ) (whole : List Span) (x : Span) (xs receded risen : List Span) → CanDeal a s recede rise → IsFirst a number x xs
    → Linked a.spans a.links (link_at a.heads recede) receded → Linked a.spans a.links (link_at a.heads rise) risen
    → Ascend (x ∷ xs) → AllByRecursion (λ y. y.from + y.cents < most_sum) (x ∷ xs)
    → AllByRecursion (λ y. AllByRecursion (λ z. y.from < z.from) (x ∷ xs)) receded → AllByRecursion (λ y. AllByRecursion (λ z. y.from < z.from) (x ∷ xs)) risen
    → last_first (is_span_of s.recede) receded (parts_of s left x ++ spans_dealt s (left - x.cents) xs) ≡ last_first (is_span_of s.recede) [] (spans_dealt s cents whole)
    → last_first (is_span_of s.rise) risen (parts_of s left x ++ spans_dealt s (left - x.cents) xs) ≡ last_first (is_span_of s.rise) [] (spans_dealt s cents whole)
    → length a.spans + length (parts_of s left x ++ spans_dealt s (left - x.cents) xs) + length whole ≡ start + length (spans_dealt s cents whole) + length (x ∷ xs)
    → ((test : Span → Bool) → AllByRecursion (λ y. test y ≡ true) whole → AllByRecursion (λ y. test y ≡ true) (x ∷ xs))
    → IsDealing (span_dealt a s recede rise number left) s recede rise (link_at a.links number) (left - x.cents) start cents whole
deals_first a s recede rise number left start cents whole x xs receded risen can first recede_chain rise_chain up bounded receded_ahead risen_ahead recede_is rise_is count pass =
    by_deal
    (λ b ps. last_first (is_span_of s.recede) receded (ps ++ dealt) ≡ to_recede → last_first (is_span_of s.rise) risen (ps ++ dealt) ≡ to_rise
    → length a.spans + length (ps ++ dealt) + length whole ≡ start + length (spans_dealt s cents whole) + length (x ∷ xs)
    → IsDealing b s recede rise (link_at a.links number) (left - x.cents) start cents whole)
    a s recede rise number left x first.is
    (λ none to_one to_other sum.
    let y = front_of x x.cents s.recede in
    let puts = is_put a recede rise number (link_at a.links number) x y receded risen xs can.as_many can.recede_within (λ same. can.recede_rise (sym same)) first.within first.is
    (ahead_apart x xs receded receded_ahead) (ahead_apart x xs risen risen_ahead) (behind_apart x xs up.0) recede_chain rise_chain first.chain in
    record {
      rest = xs;
      receded = y ∷ receded;
      risen = risen;
      rest_chain = puts.rest_chain;
      recede_chain = puts.own_chain;
      rise_chain = puts.other_chain;
      ascends = up.1;
      bounded = bounded.1;
      receded_ahead = (from_front x xs up.0, further x xs receded receded_ahead);
      risen_ahead = further x xs risen risen_ahead;
      recede_is = (λ i. last_first (is_span_of s.recede) (cond (sym (right_self s.recede) i) (y ∷ receded) receded) dealt) ∙ to_one;
      rise_is = (λ i. last_first (is_span_of s.rise) (cond (sym (others_turned s.recede s.rise can.differ) i) (y ∷ risen) risen) dealt) ∙ to_other;
      count_is = omega (arith, sum, length-set a.spans number y);
      pass = λ test all. (pass test all).1;
    })
    (λ some fits to_one to_other sum.
    let y = front_of x x.cents s.rise in
    let puts = is_put a rise recede number (link_at a.links number) x y risen receded xs can.as_many can.rise_within can.recede_rise first.within first.is
    (ahead_apart x xs risen risen_ahead) (ahead_apart x xs receded receded_ahead) (behind_apart x xs up.0) rise_chain recede_chain first.chain in
    record {
      rest = xs;
      receded = receded;
      risen = y ∷ risen;
      rest_chain = puts.rest_chain;
      recede_chain = puts.other_chain;
      rise_chain = puts.own_chain;
      ascends = up.1;
      bounded = bounded.1;
      receded_ahead = further x xs receded receded_ahead;
      risen_ahead = (from_front x xs up.0, further x xs risen risen_ahead);
      recede_is = (λ i. last_first (is_span_of s.recede) (cond (sym can.differ i) (y ∷ receded) receded) dealt) ∙ to_one;
      rise_is = (λ i. last_first (is_span_of s.rise) (cond (sym (right_self s.rise) i) (y ∷ risen) risen) dealt) ∙ to_other;
      count_is = omega (arith, sum, length-set a.spans number y);
      pass = λ test all. (pass test all).1;
    })
    (λ some less to_one to_other sum.
    let y = front_of x left s.rise in
    let z = back_of x left s.recede in
    let b = put a rise number y in
    let puts = is_put a rise recede number (link_at a.links number) x y risen receded xs can.as_many can.rise_within can.recede_rise first.within first.is
    (ahead_apart x xs risen risen_ahead) (ahead_apart x xs receded receded_ahead) (behind_apart x xs up.0) rise_chain recede_chain first.chain in
    let as_many : length b.links ≡ length b.spans = length-set a.links number (link_at a.heads rise) ∙ can.as_many ∙ sym (length-set a.spans number y) in
    let recede_within : recede < length b.heads = subst (λ n. recede < n) (sym (length-set a.heads rise (Some number))) can.recede_within in
    let pushes = is_pushed b recede rise (link_at a.links number) z receded (y ∷ risen) xs as_many recede_within (λ same. can.recede_rise (sym same)) puts.other_chain puts.own_chain puts.rest_chain in
    record {
      rest = xs;
      receded = z ∷ receded;
      risen = y ∷ risen;
      rest_chain = pushes.rest_chain;
      recede_chain = pushes.own_chain;
      rise_chain = pushes.other_chain;
      ascends = up.1;
      bounded = bounded.1;
      receded_ahead = (from_back x left xs less up.0, further x xs receded receded_ahead);
      risen_ahead = (from_front x xs up.0, further x xs risen risen_ahead);
      recede_is =
          (λ i. last_first (is_span_of s.recede) (cond (sym (right_self s.recede) i) (z ∷ receded) receded) dealt)
          ∙ (λ i. last_first (is_span_of s.recede) (cond (same_right s.recede s.recede) (z ∷ cond (sym can.differ i) (y ∷ receded) receded) (cond (sym can.differ i) (y ∷ receded) receded)) dealt) ∙ to_one;
      rise_is =
          (λ i. last_first (is_span_of s.rise) (cond (sym (others_turned s.recede s.rise can.differ) i) (z ∷ y ∷ risen) (y ∷ risen)) dealt)
          ∙ (λ i.
          last_first (is_span_of s.rise) (cond (same_right s.rise s.recede) (z ∷ cond (sym (right_self s.rise) i) (y ∷ risen) risen) (cond (sym (right_self s.rise) i) (y ∷ risen) risen)) dealt)
          ∙ to_other;
      count_is = omega (arith, sum, length-set a.spans number y, length-append (set a.spans number y) (z ∷ []));
      pass = λ test all. (pass test all).1;
    })
    recede_is rise_is count
  where
    dealt : List Span
    dealt = spans_dealt s (left - x.cents) xs

    to_recede : List Span
    to_recede = last_first (is_span_of s.recede) [] (spans_dealt s cents whole)

    to_rise : List Span
    to_rise = last_first (is_span_of s.rise) [] (spans_dealt s cents whole)
