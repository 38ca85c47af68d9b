-- A chain of spans is dealt to two places, from number to number.
use Rattle.std.proofs.Common.{◌≡◌, ◌≢◌, ℕ, ◌+◌, ◌-◌, ◌<◌, ◌≤◌, Bool, true, false, List, [], ◌∷◌, ◌++◌, get_or, length, set, Option, Some, None, refl, subst, sym, ap, arith, inl, inr, ◌∙◌}
use Rattle.std.specs.List.{AllByRecursion}
use Rattle.std.proofs.lemmas.Bool.{cases_eq, eq-eqb}
use Rattle.std.proofs.lemmas.List.{get_or-set_other, get_or_default, length-set}
use Rattle.gb_base.specs.Limits.{most_sum}
use Rattle.gb_base.specs.RightNo.{same_right}
use Rattle.rank_slots.specs.declared.places.Swap.{Swap}
use Rattle.rank_slots.specs.declared.spans.Span.{Span}
use Rattle.rank_slots.specs.inner.SpanDeals.{IsDealing, IsDealt, IsToDeal, gap}
use Rattle.rank_slots.specs.inner.SpanJoins.{Ascend, Before}
use Rattle.rank_slots.specs.inner.Spans.{Linked, SpanLists, back_of, front_of, is_span_of, last_first, link_at, put, span_at, span_dealt, spans_dealt}
use Rattle.rank_slots.proofs.SpanChains.{carried, push_leaves, same_from, write_leaves}
use Rattle.rank_slots.proofs.DealtChains.{by_deal, deals_first}
use Rattle.rank_slots.proofs.PutSpans.{behind_apart, none_passes}

-- ---- from number to number

pub deals_on : (a : SpanLists) (s : Swap) (recede rise number left start cents : ℕ) (whole : List Span) → same_right s.recede s.rise ≡ false → recede ≢ rise → recede < length a.heads → rise < length a.heads
    → length a.links ≡ length a.spans → IsDealing a s recede rise (Some number) left start cents whole
    → IsDealing (span_dealt a s recede rise number left) s recede rise (link_at a.links number) (left - (span_at a.spans number).cents) start cents whole
deals_on a s recede rise number left start cents whole differ two recede_within rise_within as_many d =
    by d.rest d.rest_chain d.ascends d.bounded d.receded_ahead d.risen_ahead d.recede_is d.rise_is d.count_is d.pass
  where
    by : (rest : List Span) → Linked a.spans a.links (Some number) rest → Ascend rest → AllByRecursion (λ y. y.from + y.cents < most_sum) rest
        → AllByRecursion (λ y. AllByRecursion (λ z. y.from < z.from) rest) d.receded → AllByRecursion (λ y. AllByRecursion (λ z. y.from < z.from) rest) d.risen
        → last_first (is_span_of s.recede) d.receded (spans_dealt s left rest) ≡ last_first (is_span_of s.recede) [] (spans_dealt s cents whole)
        → last_first (is_span_of s.rise) d.risen (spans_dealt s left rest) ≡ last_first (is_span_of s.rise) [] (spans_dealt s cents whole)
        → length a.spans + length (spans_dealt s left rest) + length whole ≡ start + length (spans_dealt s cents whole) + length rest
        → ((test : Span → Bool) → AllByRecursion (λ y. test y ≡ true) whole → AllByRecursion (λ y. test y ≡ true) rest)
        → IsDealing (span_dealt a s recede rise number left) s recede rise (link_at a.links number) (left - (span_at a.spans number).cents) start cents whole
    by [] chain up bounded receded_ahead risen_ahead recede_is rise_is count pass = absurd chain
    by (x ∷ xs) chain up bounded receded_ahead risen_ahead recede_is rise_is count pass =
        subst (λ y. IsDealing (span_dealt a s recede rise number left) s recede rise (link_at a.links number) (left - y.cents) start cents whole) (sym chain.1.0)
        (deals_first a s recede rise number left start cents whole x xs d.receded d.risen
        (record { differ = differ; recede_rise = two; recede_within = recede_within; rise_within = rise_within; as_many = as_many })
        (record { within = chain.0; is = chain.1.0; chain = chain.1.1 }) d.recede_chain d.rise_chain up bounded receded_ahead risen_ahead recede_is rise_is count pass)

-- the first span of what is left
pub record IsNextSpan (a : SpanLists) (number : ℕ) (whole : List Span) : Type 0 where
  pub within : number < length a.spans
  pub bounded : (span_at a.spans number).from + (span_at a.spans number).cents < most_sum
  pub passes : (test : Span → Bool) → AllByRecursion (λ y. test y ≡ true) whole → test (span_at a.spans number) ≡ true

pub next_span : (a : SpanLists) (s : Swap) (recede rise number left start cents : ℕ) (whole : List Span) → IsDealing a s recede rise (Some number) left start cents whole → IsNextSpan a number whole
next_span a s recede rise number left start cents whole d = by d.rest d.rest_chain d.bounded d.pass
  where
    by : (rest : List Span) → Linked a.spans a.links (Some number) rest → AllByRecursion (λ y. y.from + y.cents < most_sum) rest
        → ((test : Span → Bool) → AllByRecursion (λ y. test y ≡ true) whole → AllByRecursion (λ y. test y ≡ true) rest) → IsNextSpan a number whole
    by [] chain bounded pass = absurd chain
    by (x ∷ xs) chain bounded pass = record {
      within = chain.0;
      bounded = subst (λ y. y.from + y.cents < most_sum) (sym chain.1.0) bounded.0;
      passes = λ test all. ap test chain.1.0 ∙ (pass test all).0;
    }

-- ---- what a deal leaves of other chains, and how far it still has to go

pub dealt_leaves : (test : Span → Bool) (a : SpanLists) (s : Swap) (recede rise number left : ℕ) → length a.links ≡ length a.spans → test (span_at a.spans number) ≡ true
    → (head : Option ℕ) (xs : List Span) → AllByRecursion (λ x. test x ≡ false) xs → Linked a.spans a.links head xs
    → Linked (span_dealt a s recede rise number left).spans (span_dealt a s recede rise number left).links head xs
dealt_leaves test a s recede rise number left as_many passes head xs none chain =
    by_deal (λ b ps. Linked b.spans b.links head xs) a s recede rise number left (span_at a.spans number) refl
    (λ zero. at_number (front_of (span_at a.spans number) (span_at a.spans number).cents s.recede) (link_at a.heads recede))
    (λ some fits. at_number (front_of (span_at a.spans number) (span_at a.spans number).cents s.rise) (link_at a.heads rise))
    (λ some less.
    let y = front_of (span_at a.spans number) left s.rise in
    let b = put a rise number y in
    let same : length b.links ≡ length b.spans = length-set a.links number (link_at a.heads rise) ∙ as_many ∙ sym (length-set a.spans number y) in
    let z = back_of (span_at a.spans number) left s.recede in
    carried never b.spans b.links (b.spans ++ z ∷ []) (b.links ++ link_at b.heads recede ∷ []) (push_leaves never b.spans b.links z (link_at b.heads recede) same) head xs (none_passes xs) (at_number y (link_at a.heads rise)))
  where
    never : Span → Bool
    never y = false

    at_number : (y : Span) (link : Option ℕ) → Linked (set a.spans number y) (set a.links number link) head xs
    at_number y link = carried test a.spans a.links (set a.spans number y) (set a.links number link) (write_leaves test a.spans a.links number y link passes) head xs none chain

pub dealt_heads : (a : SpanLists) (s : Swap) (recede rise number left place : ℕ) → place ≢ recede → place ≢ rise → link_at (span_dealt a s recede rise number left).heads place ≡ link_at a.heads place
dealt_heads a s recede rise number left place one other =
    by_deal (λ b ps. link_at b.heads place ≡ link_at a.heads place) a s recede rise number left (span_at a.spans number) refl
    (λ zero. get_or-set_other a.heads recede place (Some number) None one)
    (λ some fits. get_or-set_other a.heads rise place (Some number) None other)
    (λ some less.
    get_or-set_other (set a.heads rise (Some number)) recede place (Some (length (set a.spans number (front_of (span_at a.spans number) left s.rise)))) None one
    ∙ get_or-set_other a.heads rise place (Some number) None other)

-- after a step the rest of the chain begins nearer to the last cent that a line may have
pub nearer : (a b : SpanLists) (s : Swap) (recede rise number left further_left start cents : ℕ) (next : Option ℕ) (whole : List Span) → IsDealing a s recede rise (Some number) left start cents whole
    → next ≡ link_at a.links number → ((test : Span → Bool) → test (span_at a.spans number) ≡ true → (xs : List Span) → AllByRecursion (λ x. test x ≡ false) xs → Linked a.spans a.links next xs → Linked b.spans b.links next xs)
    → gap b.spans next < gap a.spans (Some number)
nearer a b s recede rise number left further_left start cents next whole d read leaves = by d.rest d.rest_chain d.ascends d.bounded
  where
    further_on : (x : Span) (head : Option ℕ) (xs : List Span) → x.from + x.cents < most_sum → span_at a.spans number ≡ x → AllByRecursion (λ y. Before x y) xs → AllByRecursion (λ y. y.from + y.cents < most_sum) xs
        → Linked b.spans b.links head xs → gap b.spans head < gap a.spans (Some number)
    further_on x None xs most is behind all chain = omega (arith, ap (λ (y : Span). y.from) is, most)
    further_on x (Some n) [] most is behind all chain = absurd chain
    further_on x (Some n) (y ∷ ys) most is behind all chain = omega (arith, ap (λ (z : Span). z.from) is, most, behind.0.0, all.0, ap (λ (z : Span). z.from) chain.1.0)

    by : (rest : List Span) → Linked a.spans a.links (Some number) rest → Ascend rest → AllByRecursion (λ y. y.from + y.cents < most_sum) rest → gap b.spans next < gap a.spans (Some number)
    by [] chain up all = absurd chain
    by (x ∷ xs) chain up all =
        further_on x next xs all.0 chain.1.0 up.0 all.1
        (leaves (same_from x) (eq-eqb (span_at a.spans number).from x.from (ap (λ (y : Span). y.from) chain.1.0)) xs (behind_apart x xs up.0) (subst (λ h. Linked a.spans a.links h xs) (sym read) chain.1.1))

-- ---- at the end

pub is_dealt : (a : SpanLists) (s : Swap) (recede rise left start cents : ℕ) (whole : List Span) → IsDealing a s recede rise None left start cents whole → IsDealt a s recede rise start cents whole
is_dealt a s recede rise left start cents whole d = by d.rest d.rest_chain d.recede_is d.rise_is d.count_is
  where
    by : (rest : List Span) → Linked a.spans a.links None rest
        → last_first (is_span_of s.recede) d.receded (spans_dealt s left rest) ≡ last_first (is_span_of s.recede) [] (spans_dealt s cents whole)
        → last_first (is_span_of s.rise) d.risen (spans_dealt s left rest) ≡ last_first (is_span_of s.rise) [] (spans_dealt s cents whole)
        → length a.spans + length (spans_dealt s left rest) + length whole ≡ start + length (spans_dealt s cents whole) + length rest
        → IsDealt a s recede rise start cents whole
    by [] chain recede_is rise_is count = record {
      recede_chain = subst (Linked a.spans a.links (link_at a.heads recede)) recede_is d.recede_chain;
      rise_chain = subst (Linked a.spans a.links (link_at a.heads rise)) rise_is d.rise_chain;
      count_is = omega (arith, count);
    }
    by (x ∷ xs) chain recede_is rise_is count = absurd chain

-- ---- at the beginning

pub to_deal : (a : SpanLists) (s : Swap) (recede rise cents : ℕ) (joined : Option ℕ) (whole : List Span) → link_at a.heads recede ≡ None → link_at a.heads rise ≡ None → IsToDeal a joined whole
    → IsDealing a s recede rise joined cents (length a.spans) cents whole
to_deal a s recede rise cents joined whole one other chain = record {
  rest = whole;
  receded = [];
  risen = [];
  rest_chain = chain.chain;
  recede_chain = subst (λ h. Linked a.spans a.links h []) (sym one) tt;
  rise_chain = subst (λ h. Linked a.spans a.links h []) (sym other) tt;
  ascends = chain.ascends;
  bounded = chain.bounded;
  receded_ahead = tt;
  risen_ahead = tt;
  recede_is = refl;
  rise_is = refl;
  count_is = refl;
  pass = λ test all. all;
}

-- ---- of what the calls of a step gave

pub deals_step : (a b : SpanLists) (s : Swap) (recede rise number left new_left start cents : ℕ) (next link : Option ℕ) (whole : List Span) → same_right s.recede s.rise ≡ false → recede ≢ rise
    → recede < length a.heads → rise < length a.heads → length a.links ≡ length a.spans → next ≡ Some number → link ≡ get_or a.links number link → new_left ≡ left - (span_at a.spans number).cents
    → b ≡ span_dealt a s recede rise number left → IsDealing a s recede rise next left start cents whole → IsDealing b s recede rise link new_left start cents whole
deals_step a b s recede rise number left new_left start cents next link whole differ two recede_within rise_within as_many some read leaves becomes d =
    let here = subst (λ h. IsDealing a s recede rise h left start cents whole) some d in
    let within = (next_span a s recede rise number left start cents whole here).within in
    let linked : link ≡ link_at a.links number = read ∙ get_or_default a.links number link None (omega (arith, within, as_many)) in
    subst (λ c. IsDealing c s recede rise link new_left start cents whole) (sym becomes)
    (subst (λ h. IsDealing (span_dealt a s recede rise number left) s recede rise h new_left start cents whole) (sym linked)
    (subst (λ n. IsDealing (span_dealt a s recede rise number left) s recede rise (link_at a.links number) n start cents whole) (sym leaves)
    (deals_on a s recede rise number left start cents whole differ two recede_within rise_within as_many here)))

pub leaves_step : (a b : SpanLists) (s : Swap) (recede rise number left start cents : ℕ) (next : Option ℕ) (whole : List Span) → length a.links ≡ length a.spans → next ≡ Some number
    → b ≡ span_dealt a s recede rise number left → IsDealing a s recede rise next left start cents whole
    → (test : Span → Bool) (head : Option ℕ) (xs : List Span) → AllByRecursion (λ x. test x ≡ true) whole → AllByRecursion (λ x. test x ≡ false) xs
    → Linked a.spans a.links head xs → Linked b.spans b.links head xs
leaves_step a b s recede rise number left start cents next whole as_many some becomes d test head xs own none chain =
    let here = subst (λ h. IsDealing a s recede rise h left start cents whole) some d in
    let passes = (next_span a s recede rise number left start cents whole here).passes test own in
    subst (λ (c : SpanLists). Linked c.spans c.links head xs) (sym becomes) (dealt_leaves test a s recede rise number left as_many passes head xs none chain)

pub nearer_step : (a b : SpanLists) (s : Swap) (recede rise number left start cents : ℕ) (next link : Option ℕ) (whole : List Span) → length a.links ≡ length a.spans → next ≡ Some number
    → link ≡ get_or a.links number link → b ≡ span_dealt a s recede rise number left → IsDealing a s recede rise next left start cents whole → gap b.spans link < gap a.spans next
nearer_step a b s recede rise number left start cents next link whole as_many some read becomes d =
    let here = subst (λ h. IsDealing a s recede rise h left start cents whole) some d in
    let within = (next_span a s recede rise number left start cents whole here).within in
    let linked : link ≡ link_at a.links number = read ∙ get_or_default a.links number link None (omega (arith, within, as_many)) in
    subst (λ h. gap b.spans link < gap a.spans h) (sym some)
    (nearer a b s recede rise number left 0 start cents link whole here linked
    (λ test passes xs none chain. subst (λ (c : SpanLists). Linked c.spans c.links link xs) (sym becomes) (dealt_leaves test a s recede rise number left as_many passes link xs none chain)))

-- at most one more span: while cents are left to rise, none was split
pub few_step : (left old new start : ℕ) → old ≤ start + 1 → (0 < left → old ≡ start) → new ≤ old + 1 → (left ≡ 0 → new ≡ old) → new ≤ start + 1
few_step left old new start few unsplit more same = elim (cases_eq left 0) [
  | inl none ↦ let kept = same none in omega (arith, kept, few)
  | inr some ↦ let kept = unsplit (omega arith) in omega (arith, kept, more)
]
