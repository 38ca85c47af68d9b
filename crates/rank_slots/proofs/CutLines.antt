-- An exchange of two rights of a line that is cut into spans.
use Rattle.std.proofs.Common.{◌≡◌, ◌≢◌, ℕ, ◌+◌, ◌<◌, true, false, cond, ◌||◌, List, [], ◌∷◌, filter, get_or, length, set, Option, None, refl, subst, sym, ap, arith, ◌∙◌}
use Rattle.std.specs.List.{AllByRecursion, list_any, position_or_len}
use Rattle.std.proofs.lemmas.Bool.{both_ways, false_from_ne_true, false≢true, or_parts}
use Rattle.std.proofs.lemmas.List.{append-nil, get_or-set_other, get_or_default, length-set}
use Rattle.std.proofs.lemmas.List.Sums.{passes_at_first}
use Rattle.gb_base.specs.Limits.{most_sum}
use Rattle.gb_base.specs.RightNo.{RightNo, same_right}
use Rattle.gb_base.proofs.SameRights.{others_turned, right_from, right_is}
use Rattle.rank_slots.specs.CentLine.{cents_of, exchange, is_of_either}
use Rattle.rank_slots.specs.Groups.{is_of}
use Rattle.rank_slots.specs.Payments.{claim_of}
use Rattle.rank_slots.specs.declared.places.Place.{Place}
use Rattle.rank_slots.specs.declared.places.Swap.{Swap}
use Rattle.rank_slots.specs.declared.spans.Span.{Span}
use Rattle.rank_slots.specs.inner.SpanDeals.{IsDealt, IsToDeal}
use Rattle.rank_slots.specs.inner.SpanJoins.{AreToJoin}
use Rattle.rank_slots.specs.inner.Spans.{AreCut, Linked, SpanLists, StandInRow, exchange_spans, is_span_of, is_span_of_either, last_first, line_of_spans, link_at, spans_dealt, spans_exchanged}
use Rattle.rank_slots.proofs.LineCents.{exchange_kept}
use Rattle.rank_slots.proofs.LineCounts.{counted_is}
use Rattle.rank_slots.proofs.PlaceLines.{AreDifferent}
use Rattle.rank_slots.proofs.PlaceNumbers.{first_within, number_is}
use Rattle.rank_slots.proofs.SpanChains.{all_kept, kept_ascend, merge_from, row_ascends, turned_back}
use Rattle.rank_slots.proofs.SpanRows.{exchanged_all, exchanged_count, exchanged_line, exchanged_row, own_spans, third_spans}

-- ---- the place of a right

-- the chain of a right with a place
pub own_chain : (a : SpanLists) (places : List Place) (row : List Span) (right : RightNo) → AreCut a places row → list_any (is_of right) places ≡ true
    → Linked a.spans a.links (link_at a.heads (position_or_len (is_of right) places)) (last_first (is_span_of right) [] row)
own_chain a [] row right cut there = absurd (false≢true there)
own_chain a (p ∷ ps) row right cut there =
    let places = p ∷ ps in
    let n = position_or_len (is_of right) places in
    let within = first_within (is_of right) places there in
    let own = get_or places n p in
    subst (λ r. Linked a.spans a.links (link_at a.heads n) (last_first (is_span_of r) [] row)) (right_is own.right right (passes_at_first (is_of right) places p within))
    (cut.chains n own within (get_or_default places n p own within))

-- ---- to join

pub to_join : (a : SpanLists) (places : List Place) (row : List Span) (s : Swap) → AreCut a places row → list_any (is_of s.recede) places ≡ true → list_any (is_of s.rise) places ≡ true → same_right s.recede s.rise ≡ false
    → AreToJoin a.spans a.links (link_at a.heads (position_or_len (is_of s.recede) places)) (link_at a.heads (position_or_len (is_of s.rise) places)) None (filter (is_span_of_either s) row)
to_join a places row s cut one other differ = record {
  rest = last_first (is_span_of_either s) [] row;
  firsts = last_first (is_span_of s.recede) [] row;
  seconds = last_first (is_span_of s.rise) [] row;
  made = [];
  first_chain = own_chain a places row s.recede cut one;
  second_chain = own_chain a places row s.rise cut other;
  made_chain = tt;
  merge =
      merge_from (is_span_of s.recede) (is_span_of s.rise)
      (λ x own. false_from_ne_true (same_right s.rise x.right) (λ too. both_ways (same_right s.recede s.rise) differ (right_from s.recede s.rise (right_is s.recede x.right own ∙ sym (right_is s.rise x.right too)))))
      [] [] [] row (refl, refl);
  is_whole = turned_back (is_span_of_either s) row ∙ append-nil (filter (is_span_of_either s) row);
  ascends = kept_ascend (is_span_of_either s) row (row_ascends 0 row cut.in_row);
}

-- ---- to deal

row_ends : (n : ℕ) (xs : List Span) → StandInRow n xs → n < most_sum
row_ends n [] row = row
row_ends n (x ∷ xs) row = let rest = row_ends (n + x.cents) xs row.1.1 in omega arith

row_bounded : (n : ℕ) (xs : List Span) → StandInRow n xs → AllByRecursion (λ x. x.from + x.cents < most_sum) xs
row_bounded n [] row = tt
row_bounded n (x ∷ xs) row = (let rest = row_ends (n + x.cents) xs row.1.1 in omega (arith, row.0), row_bounded (n + x.cents) xs row.1.1)

pub to_deal_row : (a c : SpanLists) (places : List Place) (row : List Span) (s : Swap) (joined : Option ℕ) → AreCut a places row → Linked c.spans c.links joined (filter (is_span_of_either s) row)
    → IsToDeal c joined (filter (is_span_of_either s) row)
to_deal_row a c places row s joined cut chain = record {
  chain = chain;
  ascends = kept_ascend (is_span_of_either s) row (row_ascends 0 row cut.in_row);
  bounded = all_kept (λ x. x.from + x.cents < most_sum) (is_span_of_either s) row (row_bounded 0 row cut.in_row);
}

-- ---- after the exchange

-- other chains have no spans of the two rights
none_of_either : (s : Swap) (right : RightNo) → ((x : Span) → is_span_of right x ≡ true → is_span_of_either s x ≡ false) → (others xs : List Span) → AllByRecursion (λ x. is_span_of_either s x ≡ false) others
    → AllByRecursion (λ x. is_span_of_either s x ≡ false) (last_first (is_span_of right) others xs)
none_of_either s right apart others [] none = none
none_of_either s right apart others (x ∷ xs) none =
    elim (is_span_of right x) as (λ b. is_span_of right x ≡ b → AllByRecursion (λ y. is_span_of_either s y ≡ false) (last_first (is_span_of right) (cond b (x ∷ others) others) xs)) [
      | true ↦ λ own. none_of_either s right apart (x ∷ others) xs (apart x own, none)
      | false ↦ λ other. none_of_either s right apart others xs none
    ] refl

-- what the calls of an exchange left of the chains of third rights, and made of those of the two
pub record IsExchanged (a d : SpanLists) (places : List Place) (s : Swap) (row : List Span) (cents : ℕ) : Type 0 where
  pub dealt : IsDealt d s (position_or_len (is_of s.recede) places) (position_or_len (is_of s.rise) places) (length a.spans) cents (filter (is_span_of_either s) row)
  pub thirds : (head : Option ℕ) (xs : List Span) → AllByRecursion (λ x. is_span_of_either s x ≡ false) xs → Linked a.spans a.links head xs → Linked d.spans d.links head xs
  pub third_heads : (n : ℕ) → n ≢ position_or_len (is_of s.recede) places → n ≢ position_or_len (is_of s.rise) places → link_at d.heads n ≡ link_at a.heads n
  pub as_many_links : length d.links ≡ length d.spans
  pub as_many_heads : length d.heads ≡ length a.heads

pub line_exchanged : (s : Swap) (row : List Span) → line_of_spans (spans_exchanged s (cents_of s.rise (line_of_spans row)) row) ≡ exchange (line_of_spans row) s
line_exchanged s row = exchanged_line s (cents_of s.rise (line_of_spans row)) row

claims_kept : (s : Swap) (row : List Span) (right : RightNo) → cents_of right (line_of_spans (spans_exchanged s (cents_of s.rise (line_of_spans row)) row)) ≡ cents_of right (line_of_spans row)
claims_kept s row right =
    ap (cents_of right) (line_exchanged s row) ∙ counted_is (same_right right) (exchange (line_of_spans row) s) ∙ exchange_kept s right (line_of_spans row) ∙ sym (counted_is (same_right right) (line_of_spans row))

cut_anew : (a d : SpanLists) (places : List Place) (row : List Span) (s : Swap) → AreDifferent places → AreCut a places row → list_any (is_of s.recede) places ≡ true → list_any (is_of s.rise) places ≡ true
    → IsExchanged a d places s row (cents_of s.rise (line_of_spans row)) → AreCut d places (spans_exchanged s (cents_of s.rise (line_of_spans row)) row)
cut_anew a d places row s differ cut one other done = record {
  in_row = exchanged_row s cents 0 row cut.in_row;
  as_many = omega (arith, exchanged_count s cents row, done.dealt.count_is, cut.as_many);
  as_many_links = done.as_many_links;
  as_many_heads = done.as_many_heads ∙ cut.as_many_heads;
  chains = chain;
  owned = exchanged_all (λ r. list_any (is_of r) places ≡ true) s one other cents row cut.owned;
  claims = λ right. claims_kept s row right ∙ cut.claims right;
}
  where
    cents : ℕ
    cents = cents_of s.rise (line_of_spans row)

    inside : (right : RightNo) → ((x : RightNo) → is_of_either s x ≡ false → same_right right x ≡ false) → (x : Span) → is_span_of_either s x ≡ false → is_span_of right x ≡ false
    inside right apart x = apart x.right

    chain : (n : ℕ) (p : Place) → n < length places → p ≡ get_or places n p → Linked d.spans d.links (link_at d.heads n) (last_first (is_span_of p.right) [] (spans_exchanged s cents row))
    chain n p within here =
        elim (same_right p.right s.recede) as (λ b. same_right p.right s.recede ≡ b → Linked d.spans d.links (link_at d.heads n) (last_first (is_span_of p.right) [] (spans_exchanged s cents row))) [
          | true ↦ λ own.
              let at = number_is places s.recede n p differ within here own in
              subst (λ r. Linked d.spans d.links (link_at d.heads n) (last_first (is_span_of r) [] (spans_exchanged s cents row))) (sym (right_is p.right s.recede own))
              (subst (Linked d.spans d.links (link_at d.heads n)) (own_spans s (is_span_of s.recede) (λ x third. (or_parts (same_right s.recede x.right) (same_right s.rise x.right) third).0) cents [] row)
              (subst (λ k. Linked d.spans d.links (link_at d.heads k) (last_first (is_span_of s.recede) [] (spans_dealt s cents (filter (is_span_of_either s) row)))) (sym at) done.dealt.recede_chain))
          | false ↦ λ not_first.
              elim (same_right p.right s.rise) as (λ b. same_right p.right s.rise ≡ b → Linked d.spans d.links (link_at d.heads n) (last_first (is_span_of p.right) [] (spans_exchanged s cents row))) [
                | true ↦ λ own.
                    let at = number_is places s.rise n p differ within here own in
                    subst (λ r. Linked d.spans d.links (link_at d.heads n) (last_first (is_span_of r) [] (spans_exchanged s cents row))) (sym (right_is p.right s.rise own))
                    (subst (Linked d.spans d.links (link_at d.heads n)) (own_spans s (is_span_of s.rise) (λ x third. (or_parts (same_right s.recede x.right) (same_right s.rise x.right) third).1) cents [] row)
                    (subst (λ k. Linked d.spans d.links (link_at d.heads k) (last_first (is_span_of s.rise) [] (spans_dealt s cents (filter (is_span_of_either s) row)))) (sym at) done.dealt.rise_chain))
                | false ↦ λ not_second.
                    let apart : (x : Span) → is_span_of_either s x ≡ true → same_right p.right x.right ≡ false =
                    λ x party. false_from_ne_true (same_right p.right x.right)
                    (λ own.
                    let third : is_of_either s p.right ≡ false = (λ i. others_turned p.right s.recede not_first i || others_turned p.right s.rise not_second i) in
                    false≢true (sym third ∙ subst (λ r. is_of_either s r ≡ true) (sym (right_is p.right x.right own)) party)) in
                    let left : (x : Span) → is_span_of p.right x ≡ true → is_span_of_either s x ≡ false =
                    λ x own. false_from_ne_true (is_span_of_either s x) (λ party. false≢true (sym (apart x party) ∙ own)) in
                    let away : (r : RightNo) → same_right p.right r ≡ false → list_any (is_of r) places ≡ true → n ≢ position_or_len (is_of r) places =
                    λ r else there same. false≢true (sym else ∙ subst (λ (q : Place). same_right q.right r ≡ true) (sym here) (subst (λ k. is_of r (get_or places k p) ≡ true) (sym same) (passes_at_first (is_of r) places p (first_within (is_of r) places there)))) in
                    subst (Linked d.spans d.links (link_at d.heads n)) (sym (third_spans s p.right not_first not_second apart cents [] row))
                    (subst (λ h. Linked d.spans d.links h (last_first (is_span_of p.right) [] row)) (sym (done.third_heads n (away s.recede not_first one) (away s.rise not_second other)))
                    (done.thirds (link_at a.heads n) (last_first (is_span_of p.right) [] row) (none_of_either s p.right left [] row tt) (cut.chains n p within here)))
              ] refl
        ] refl

pub cut_behind : (a d : SpanLists) (places : List Place) (row : List Span) (s : Swap) (cents : ℕ) → AreDifferent places → AreCut a places row → list_any (is_of s.recede) places ≡ true
    → list_any (is_of s.rise) places ≡ true → same_right s.recede s.rise ≡ false → cents ≡ claim_of places s.rise
    → IsExchanged a d places s row cents → AreCut d places (exchange_spans row s)
cut_behind a d places row s cents differ cut one other two claim done =
    let here : cents ≡ cents_of s.rise (line_of_spans row) = claim ∙ sym (cut.claims s.rise) in
    subst (λ b. AreCut d places (cond b row (spans_exchanged s (cents_of s.rise (line_of_spans row)) row))) (sym two)
    (cut_anew a d places row s differ cut one other (subst (λ n. IsExchanged a d places s row n) here done))

-- ---- of what the calls of an exchange gave

pub join_at : (a : SpanLists) (places : List Place) (row : List Span) (s : Swap) (one other : ℕ) → one ≡ position_or_len (is_of s.recede) places → other ≡ position_or_len (is_of s.rise) places → AreCut a places row
    → list_any (is_of s.recede) places ≡ true → list_any (is_of s.rise) places ≡ true → same_right s.recede s.rise ≡ false
    → AreToJoin a.spans a.links (link_at a.heads one) (link_at a.heads other) None (filter (is_span_of_either s) row)
join_at a places row s one other first second cut here there two =
    subst (λ n. AreToJoin a.spans a.links (link_at a.heads n) (link_at a.heads other) None (filter (is_span_of_either s) row)) (sym first)
    (subst (λ n. AreToJoin a.spans a.links (link_at a.heads (position_or_len (is_of s.recede) places)) (link_at a.heads n) None (filter (is_span_of_either s) row)) (sym second) (to_join a places row s cut here there two))

pub is_exchanged : (a b d : SpanLists) (places : List Place) (row : List Span) (s : Swap) (one other cents : ℕ) → one ≡ position_or_len (is_of s.recede) places → other ≡ position_or_len (is_of s.rise) places
    → b.spans ≡ a.spans → b.heads ≡ a.heads → IsDealt d s one other (length b.spans) cents (filter (is_span_of_either s) row)
    → ((head : Option ℕ) (xs : List Span) → AllByRecursion (λ x. is_span_of_either s x ≡ false) xs → Linked a.spans a.links head xs → Linked b.spans b.links head xs)
    → ((head : Option ℕ) (xs : List Span) → AllByRecursion (λ x. is_span_of_either s x ≡ false) xs → Linked b.spans b.links head xs → Linked d.spans d.links head xs)
    → ((n : ℕ) → n ≢ one → n ≢ other → link_at d.heads n ≡ link_at (set (set b.heads one None) other None) n)
    → length d.links ≡ length d.spans → length d.heads ≡ length (set (set b.heads one None) other None)
    → IsExchanged a d places s row cents
is_exchanged a b d places row s one other cents first second spans heads dealt joins deals third_heads as_many as_many_heads = record {
  dealt =
      subst (λ n. IsDealt d s n (position_or_len (is_of s.rise) places) (length a.spans) cents (filter (is_span_of_either s) row)) first
      (subst (λ n. IsDealt d s one n (length a.spans) cents (filter (is_span_of_either s) row)) second
      (subst (λ (xs : List Span). IsDealt d s one other (length xs) cents (filter (is_span_of_either s) row)) spans dealt));
  thirds = λ head xs none chain. deals head xs none (joins head xs none chain);
  third_heads = λ n not_one not_other.
      let away : n ≢ one = λ same. not_one (same ∙ first) in
      let apart : n ≢ other = λ same. not_other (same ∙ second) in
      third_heads n away apart ∙ get_or-set_other (set b.heads one None) other n None None apart ∙ get_or-set_other b.heads one n None None away ∙ ap (λ hs. link_at hs n) heads;
  as_many_links = as_many;
  as_many_heads = as_many_heads ∙ length-set (set b.heads one None) other None ∙ length-set b.heads one None ∙ ap length heads;
}
