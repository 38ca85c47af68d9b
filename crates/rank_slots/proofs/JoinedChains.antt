-- Two chains of spans become one, span by span.
use Rattle.std.proofs.Common.{◌≡◌, ℕ, ◌+◌, ◌<◌, Bool, true, false, cond, List, [], ◌∷◌, get_or, length, set, Option, Some, None, refl, subst, sym, ap, arith, ⊎_elim, ◌∙◌}
use Rattle.std.specs.List.{AllByRecursion}
use Rattle.std.proofs.lemmas.Bool.{eq-eqb, ne_eqb, lt-ltb, le-ltb}
use Rattle.std.proofs.lemmas.List.{get_or-set_same, get_or_default}
use Rattle.rank_slots.specs.declared.spans.Span.{Span}
use Rattle.rank_slots.specs.inner.SpanJoins.{AreToJoin, Ascend, Before, Merge, reach, turned}
use Rattle.rank_slots.specs.inner.Spans.{Begins, Linked, begins_ahead, later_first, link_at, span_at}
use Rattle.rank_slots.proofs.SpanChains.{all_turned, carried, each_weaker, left_ahead, link_leaves, merge_all, merge_turned, parted, same_from}

pub chain_begins : (spans : List Span) (links : List (Option ℕ)) (head : Option ℕ) (xs : List Span) → Linked spans links head xs → Begins spans head
chain_begins spans links None xs chain = tt
chain_begins spans links (Some n) [] chain = absurd chain
chain_begins spans links (Some n) (x ∷ xs) chain = chain.0

-- the next span of the two chains joins the third one
pub record IsNext (spans : List Span) (links : List (Option ℕ)) (number : ℕ) (other joined : Option ℕ) (whole : List Span) : Type 0 where
  pub within : number < length spans
  pub further : AreToJoin spans (set links number joined) (link_at links number) other (Some number) whole
  pub passes : (test : Span → Bool) → AllByRecursion (λ x. test x ≡ true) whole → test (span_at spans number) ≡ true
  pub less : reach spans (link_at links number) < reach spans (Some number)

-- where no span is left, the third chain is the whole
abbrev pub GoesOn : List Span → List (Option ℕ) → Option ℕ → Option ℕ → Option ℕ → List Span → Type 0
GoesOn spans links None other joined whole = Linked spans links joined whole
GoesOn spans links (Some number) other joined whole = IsNext spans links number other joined whole

next : (spans : List Span) (links : List (Option ℕ)) (n : ℕ) (other joined : Option ℕ) (whole : List Span) (x : Span) (xs ys seconds made : List Span)
    → length links ≡ length spans → Linked spans links (Some n) (x ∷ ys) → Linked spans links other seconds → Linked spans links joined made
    → Merge ys seconds xs → turned made (x ∷ xs) ≡ whole → Ascend whole → IsNext spans links n other joined whole
next spans links n other joined whole x xs ys seconds made as_many chain others makes merge is up =
    let up_now : Ascend (turned made (x ∷ xs)) = subst Ascend (sym is) up in
    let ahead = left_ahead made x xs up_now in
    let apart = merge_all (λ r. Before r x) ys seconds xs merge ahead in
    let behind = (parted made (x ∷ xs) up_now).1.0 in
    let own : same_from x (span_at spans n) ≡ true = eq-eqb (span_at spans n).from x.from (ap (λ y. y.from) chain.1.0) in
    let leaves = link_leaves (same_from x) spans links n joined own in
    let new = set links n joined in
    let is_ahead = λ (r : Span) (before : Before r x). ne_eqb r.from x.from (λ same. absurd (omega (arith, before.0))) in
    let is_behind = λ (r : Span) (before : Before x r). ne_eqb r.from x.from (λ same. absurd (omega (arith, before.0))) in
    let back : link_at new n ≡ joined = get_or-set_same links n joined None (omega (arith, chain.0)) in
    record {
      within = chain.0;
      further = record {
        rest = xs;
        firsts = ys;
        seconds = seconds;
        made = x ∷ made;
        first_chain = carried (same_from x) spans links spans new leaves (link_at links n) ys (each_weaker (λ r. Before r x) (λ r. same_from x r ≡ false) is_ahead ys apart.0) chain.1.1;
        second_chain = carried (same_from x) spans links spans new leaves other seconds (each_weaker (λ r. Before r x) (λ r. same_from x r ≡ false) is_ahead seconds apart.1) others;
        made_chain = (
          chain.0,
          (
            chain.1.0,
            subst (λ head. Linked spans new head made) (sym back)
                (carried (same_from x) spans links spans new leaves joined made (each_weaker (λ r. Before x r) (λ r. same_from x r ≡ false) is_behind made behind) makes),
          ),
        );
        merge = merge;
        is_whole = is;
        ascends = up;
      };
      passes = λ test all. ap test chain.1.0 ∙ (all_turned (λ y. test y ≡ true) made (x ∷ xs) (subst (λ ys. AllByRecursion (λ y. test y ≡ true) ys) (sym is) all)).1.0;
      less = nearer (link_at links n) ys apart.0 chain.1.1;
    }
  where
    nearer : (head : Option ℕ) (rs : List Span) → AllByRecursion (λ r. Before r x) rs → Linked spans links head rs → reach spans head < reach spans (Some n)
    nearer None rs all linked = omega arith
    nearer (Some k) [] all linked = absurd linked
    nearer (Some k) (r ∷ rs) all linked = omega (arith, all.0.0, ap (λ (y : Span). y.from) linked.1.0, ap (λ (y : Span). y.from) chain.1.0)

-- no span is left in either chain
ends : (spans : List Span) (links : List (Option ℕ)) (first second joined : Option ℕ) (whole made : List Span) → Linked spans links first [] → Linked spans links second []
    → Linked spans links joined made → made ≡ whole → GoesOn spans links (later_first spans first second).0 (later_first spans first second).1 joined whole
ends spans links None None joined whole made first_chain second_chain makes is = subst (Linked spans links joined) is makes
ends spans links None (Some k) joined whole made first_chain second_chain makes is = absurd second_chain
ends spans links (Some n) second joined whole made first_chain second_chain makes is = absurd first_chain

-- where the next span is the first chain's, the test says that this chain does not begin ahead
of_first : (spans : List Span) (links : List (Option ℕ)) (first second : Option ℕ) (x : Span) (ys seconds : List Span) → Linked spans links first (x ∷ ys) → Linked spans links second seconds
    → AllByRecursion (λ r. Before r x) seconds → (n : ℕ) × ((first ≡ Some n) × (begins_ahead spans first second ≡ false))
of_first spans links None second x ys seconds chain others ahead = absurd chain
of_first spans links (Some n) None x ys seconds chain others ahead = (n, (refl, refl))
of_first spans links (Some n) (Some k) x ys [] chain others ahead = absurd others
of_first spans links (Some n) (Some k) x ys (y ∷ seconds) chain others ahead =
    (n, (refl, le-ltb (span_at spans n).from (span_at spans k).from (omega (arith, ahead.0.0, ap (λ (z : Span). z.from) others.1.0, ap (λ (z : Span). z.from) chain.1.0))))

-- where the next span is the second chain's, the test says that the first one begins ahead
of_second : (spans : List Span) (links : List (Option ℕ)) (first second : Option ℕ) (x : Span) (ys firsts : List Span) → Linked spans links first firsts → Linked spans links second (x ∷ ys)
    → AllByRecursion (λ r. Before r x) firsts → (n : ℕ) × ((second ≡ Some n) × (begins_ahead spans first second ≡ true))
of_second spans links first None x ys firsts others chain ahead = absurd chain
of_second spans links None (Some n) x ys firsts others chain ahead = (n, (refl, refl))
of_second spans links (Some k) (Some n) x ys [] others chain ahead = absurd others
of_second spans links (Some k) (Some n) x ys (y ∷ firsts) others chain ahead =
    (n, (refl, lt-ltb (span_at spans k).from (span_at spans n).from (omega (arith, ahead.0.0, ap (λ (z : Span). z.from) others.1.0, ap (λ (z : Span). z.from) chain.1.0))))

-- two numbers, the second one first where the test holds
abbrev ordered : Bool → Option ℕ → Option ℕ → Option ℕ × Option ℕ
ordered second_first first second = cond second_first (second, first) (first, second)

pub goes_on : (spans : List Span) (links : List (Option ℕ)) (first second joined : Option ℕ) (whole : List Span) → length links ≡ length spans → AreToJoin spans links first second joined whole
    → GoesOn spans links (later_first spans first second).0 (later_first spans first second).1 joined whole
goes_on spans links first second joined whole as_many join = by join.rest join.firsts join.seconds join.made join.first_chain join.second_chain join.made_chain join.merge join.is_whole
  where
    by : (rest firsts seconds made : List Span) → Linked spans links first firsts → Linked spans links second seconds → Linked spans links joined made → Merge firsts seconds rest → turned made rest ≡ whole
        → GoesOn spans links (later_first spans first second).0 (later_first spans first second).1 joined whole
    by [] firsts seconds made one two makes merge is =
        ends spans links first second joined whole made (subst (Linked spans links first) merge.0 one) (subst (Linked spans links second) merge.1 two) makes is
    by (x ∷ xs) firsts seconds made one two makes merge is =
        let ahead : AllByRecursion (λ r. Before r x) xs = left_ahead made x xs (subst Ascend (sym is) join.ascends) in
        ⊎_elim
        (λ here.
        let chain = subst (Linked spans links first) here.1.0 one in
        let apart = merge_all (λ r. Before r x) here.0 seconds xs here.1.1 ahead in
        let found = of_first spans links first second x here.0 seconds chain two apart.1 in
        subst (λ b. GoesOn spans links (ordered b first second).0 (ordered b first second).1 joined whole) (sym found.1.1)
        (subst (λ head. GoesOn spans links head second joined whole) (sym found.1.0)
        (next spans links found.0 second joined whole x xs here.0 seconds made as_many (subst (λ head. Linked spans links head (x ∷ here.0)) found.1.0 chain) two makes here.1.1 is join.ascends)))
        (λ there.
        let chain = subst (Linked spans links second) there.1.0 two in
        let apart = merge_all (λ r. Before r x) firsts there.0 xs there.1.1 ahead in
        let found = of_second spans links first second x there.0 firsts one chain apart.0 in
        subst (λ b. GoesOn spans links (ordered b first second).0 (ordered b first second).1 joined whole) (sym found.1.1)
        (subst (λ head. GoesOn spans links head first joined whole) (sym found.1.0)
        (next spans links found.0 first joined whole x xs there.0 firsts made as_many (subst (λ head. Linked spans links head (x ∷ there.0)) found.1.0 chain) one makes
        (merge_turned firsts there.0 xs there.1.1) is join.ascends)))
        merge

-- how far both chains reach together, the later one first
pub reach_ordered : (spans : List Span) (first second : Option ℕ) → reach spans (later_first spans first second).0 + reach spans (later_first spans first second).1 ≡ reach spans first + reach spans second
reach_ordered spans first second =
    elim (begins_ahead spans first second)
    as (λ b. reach spans (ordered b first second).0 + reach spans (ordered b first second).1 ≡ reach spans first + reach spans second) [
      | true ↦ omega arith
      | false ↦ refl
    ]

-- ---- of what a call gave

pub next_of : (spans : List Span) (links : List (Option ℕ)) (first second joined : Option ℕ) (whole : List Span) (n : ℕ) (pair : Option ℕ × Option ℕ) → length links ≡ length spans
    → pair ≡ later_first spans first second → pair.0 ≡ Some n → AreToJoin spans links first second joined whole → IsNext spans links n pair.1 joined whole
next_of spans links first second joined whole n pair as_many is some join =
    subst (λ head. GoesOn spans links head pair.1 joined whole) some
    (subst (λ (q : Option ℕ × Option ℕ). GoesOn spans links q.0 q.1 joined whole) (sym is) (goes_on spans links first second joined whole as_many join))

pub whole_of : (spans : List Span) (links : List (Option ℕ)) (first second joined : Option ℕ) (whole : List Span) (pair : Option ℕ × Option ℕ) → length links ≡ length spans
    → pair ≡ later_first spans first second → pair.0 ≡ None → AreToJoin spans links first second joined whole → Linked spans links joined whole
whole_of spans links first second joined whole pair as_many is none join =
    subst (λ head. GoesOn spans links head pair.1 joined whole) none
    (subst (λ (q : Option ℕ × Option ℕ). GoesOn spans links q.0 q.1 joined whole) (sym is) (goes_on spans links first second joined whole as_many join))

-- what is to be joined after the next span, with the link as it was read
pub further_of : (spans : List Span) (links : List (Option ℕ)) (first second joined : Option ℕ) (whole : List Span) (n : ℕ) (pair : Option ℕ × Option ℕ) (link : Option ℕ) → length links ≡ length spans
    → pair ≡ later_first spans first second → pair.0 ≡ Some n → AreToJoin spans links first second joined whole → link ≡ get_or links n link
    → AreToJoin spans (set links n joined) link pair.1 (Some n) whole
further_of spans links first second joined whole n pair link as_many is some join read =
    let next = next_of spans links first second joined whole n pair as_many is some join in
    let within = next.within in
    subst (λ head. AreToJoin spans (set links n joined) head pair.1 (Some n) whole) (sym (read ∙ get_or_default links n link None (omega (arith, within)))) next.further

pub nearer_of : (spans : List Span) (links : List (Option ℕ)) (first second joined : Option ℕ) (whole : List Span) (n : ℕ) (pair : Option ℕ × Option ℕ) (link : Option ℕ) → length links ≡ length spans
    → pair ≡ later_first spans first second → pair.0 ≡ Some n → AreToJoin spans links first second joined whole → link ≡ get_or links n link
    → reach spans link + reach spans pair.1 < reach spans first + reach spans second
nearer_of spans links first second joined whole n pair link as_many is some join read =
    let next = next_of spans links first second joined whole n pair as_many is some join in
    let within = next.within in
    let less = next.less in
    let own = ap (reach spans) (read ∙ get_or_default links n link None (omega (arith, within))) in
    let all = ap (λ (q : Option ℕ × Option ℕ). reach spans q.0 + reach spans q.1) is ∙ reach_ordered spans first second in
    let here = ap (reach spans) some in
    omega (arith, less, all, here, own)

-- chains none of whose spans passes a test that all spans of the whole pass are as they were
pub others_of : (spans : List Span) (links : List (Option ℕ)) (first second joined : Option ℕ) (whole : List Span) (n : ℕ) (pair : Option ℕ × Option ℕ) → length links ≡ length spans
    → pair ≡ later_first spans first second → pair.0 ≡ Some n → AreToJoin spans links first second joined whole
    → (test : Span → Bool) (head : Option ℕ) (xs : List Span) → AllByRecursion (λ x. test x ≡ true) whole → AllByRecursion (λ x. test x ≡ false) xs
    → Linked spans links head xs → Linked spans (set links n joined) head xs
others_of spans links first second joined whole n pair as_many is some join test head xs own none chain =
    let next = next_of spans links first second joined whole n pair as_many is some join in
    carried test spans links spans (set links n joined) (link_leaves test spans links n joined (next.passes test own)) head xs none chain
