-- Neighbouring spans that are joined by way of pieces stand for the same line.
use Rattle.std.proofs.Common.{◌≡◌, ◌≢◌, ℕ, zero, suc, ◌+◌, ◌<◌, ◌≤◌, All, Bool, true, false, cond, not, List, [], ◌∷◌, ◌++◌, filter, get_or, length, set, Option, None, Some, refl, replicate, subst, sum_by, sym, ap, arith, ◌∙◌}
use Rattle.std.specs.List.{AllByRecursion, list_any, position_or_len}
use Rattle.std.proofs.lemmas.Bool.{false≢true}
use Rattle.std.proofs.lemmas.List.{get_or-set_other, get_or-set_same, length-append}
use Rattle.std.proofs.lemmas.List.Elements.{All-from_recursion}
use Rattle.std.proofs.lemmas.List.Sums.{passes_at_first, sum_by-cons}
use Rattle.std.proofs.Math.Seq.{get_or-append_seam}
use Rattle.gb_base.specs.Limits.{most_sum}
use Rattle.gb_base.specs.RightNo.{RightNo, same_right}
use Rattle.rank_slots.specs.CentLine.{cents_of, is_dropped}
use Rattle.rank_slots.specs.Groups.{is_of}
use Rattle.rank_slots.specs.declared.places.Piece.{Piece}
use Rattle.rank_slots.specs.declared.places.Place.{Place}
use Rattle.rank_slots.specs.declared.spans.Span.{Span}
use Rattle.rank_slots.specs.inner.Pieces.{AreJoined, line_of}
use Rattle.rank_slots.specs.inner.Spans.{AreChained, AreCut, Linked, SpanLists, StandInOrder, StandInRow, is_span_of, last_first, line_of_spans, link_at, no_span, pushed, spans_of}
use Rattle.rank_slots.proofs.PlaceLines.{AreDifferent}
use Rattle.rank_slots.proofs.PlaceNumbers.{first_within, number_is}
use Rattle.rank_slots.proofs.PutSpans.{none_passes}
use Rattle.rank_slots.proofs.SpanChains.{carried, push_leaves}
use Rattle.rank_slots.proofs.SpanRows.{last_first_append}

-- ---- the pieces of a row

-- where there are no places, no cent is dropped
none_dropped : (cs : List RightNo) → filter (λ c. not (is_dropped [] c)) cs ≡ cs
none_dropped [] = refl
none_dropped (c ∷ cs) = ap (λ t. c ∷ t) (none_dropped cs)

-- spans that are written as pieces, without a place to be dropped
pub written_line : (spans row : List Span) (made : List RightNo) → spans ≡ row → made ≡ filter (λ c. not (is_dropped [] c)) (line_of_spans spans) → made ≡ line_of_spans row
written_line spans row made is written_of = written_of ∙ none_dropped (line_of_spans spans) ∙ ap line_of_spans is

all_front : (P : RightNo → Type 0) (n : ℕ) (c : RightNo) (cs : List RightNo) → P c → AllByRecursion P cs → AllByRecursion P (replicate n c ++ cs)
all_front P zero c cs own all = all
all_front P (suc n) c cs own all = (own, all_front P n c cs own all)

all_cents : (P : RightNo → Type 0) (xs : List Span) → AllByRecursion (λ x. P x.right) xs → AllByRecursion P (line_of_spans xs)
all_cents P [] all = tt
all_cents P (x ∷ xs) all = all_front P x.cents x.right (line_of_spans xs) all.0 (all_cents P xs all.1)

all_behind : (P : RightNo → Type 0) (n : ℕ) (c : RightNo) (cs : List RightNo) → AllByRecursion P (replicate n c ++ cs) → AllByRecursion P cs
all_behind P zero c cs all = all
all_behind P (suc n) c cs all = all_behind P n c cs all.1

all_first : (P : RightNo → Type 0) (n : ℕ) (c : RightNo) (cs : List RightNo) → 1 ≤ n → AllByRecursion P (replicate n c ++ cs) → P c
all_first P zero c cs some all = absurd (omega arith)
all_first P (suc n) c cs some all = all.0

all_pieces : (P : RightNo → Type 0) (ps : List Piece) → AreJoined ps → AllByRecursion P (line_of ps) → AllByRecursion (λ p. P p.right) ps
all_pieces P [] joined all = tt
all_pieces P (p ∷ ps) joined all = (all_first P p.cents p.right (line_of ps) joined.0 all, all_pieces P ps joined.1.1 (all_behind P p.cents p.right (line_of ps) all))

pieces_owned : (a : SpanLists) (places : List Place) (row : List Span) (ps : List Piece) → AreCut a places row → AreJoined ps → line_of ps ≡ line_of_spans row
    → AllByRecursion (λ p. list_any (is_of p.right) places ≡ true) ps
pieces_owned a places row ps cut joined line =
    let P : RightNo → Type 0 = λ r. list_any (is_of r) places ≡ true in
    all_pieces P ps joined (subst (AllByRecursion P) (sym line) (all_cents P row cut.owned))

-- the right of each piece has a place
pub all_owned : (a : SpanLists) (places : List Place) (row : List Span) (ps : List Piece) → AreCut a places row → AreJoined ps → line_of ps ≡ line_of_spans row
    → All (λ p. list_any (is_of p.right) places ≡ true) ps
all_owned a places row ps cut joined line = All-from_recursion (λ p. list_any (is_of p.right) places ≡ true) ps (pieces_owned a places row ps cut joined line)

all_left : (P : RightNo → Type 0) (test : RightNo → Bool) (cs : List RightNo) → AllByRecursion P cs → AllByRecursion P (filter test cs)
all_left P test [] all = tt
all_left P test (c ∷ cs) all = elim (test c) as (λ b. AllByRecursion P (cond b (c ∷ filter test cs) (filter test cs))) [ true ↦ (all.0, all_left P test cs all.1) | false ↦ all_left P test cs all.1 ]

-- the right of each piece of a line that is written without some cents has a place
pub written_owned : (a : SpanLists) (places : List Place) (row spans : List Span) (ps : List Piece) → AreCut a places row → spans ≡ row → AreJoined ps
    → line_of ps ≡ filter (λ c. not (is_dropped places c)) (line_of_spans spans) → All (λ p. list_any (is_of p.right) places ≡ true) ps
written_owned a places row spans ps cut is joined line =
    let P : RightNo → Type 0 = λ r. list_any (is_of r) places ≡ true in
    let stays : RightNo → Bool = λ c. not (is_dropped places c) in
    All-from_recursion (λ p. list_any (is_of p.right) places ≡ true) ps
    (all_pieces P ps joined (subst (AllByRecursion P) (sym (line ∙ ap (λ xs. filter stays (line_of_spans xs)) is)) (all_left P stays (line_of_spans row) (all_cents P row cut.owned))))

-- ---- the row of pieces

spans_line : (n : ℕ) (ps : List Piece) → line_of_spans (spans_of n ps) ≡ line_of ps
spans_line n [] = refl
spans_line n (p ∷ ps) = ap (λ cs. replicate p.cents p.right ++ cs) (spans_line (n + p.cents) ps)

pub spans_row : (n : ℕ) (ps : List Piece) → AreJoined ps → n + sum_by (λ p. p.cents) ps < most_sum → StandInRow n (spans_of n ps)
spans_row n [] joined sum = omega (arith, sum)
spans_row n (p ∷ ps) joined sum = (refl, (joined.0, spans_row (n + p.cents) ps joined.1.1 (omega (arith, sum, sum_by-cons (λ (q : Piece). q.cents) p ps))))

spans_all : (P : RightNo → Type 0) (n : ℕ) (ps : List Piece) → AllByRecursion (λ p. P p.right) ps → AllByRecursion (λ x. P x.right) (spans_of n ps)
spans_all P n [] all = tt
spans_all P n (p ∷ ps) all = (all.0, spans_all P (n + p.cents) ps all.1)

-- lists of these spans alone, which are chained, stand in order for the line of the pieces
pub stand_in_order : (a b : SpanLists) (places : List Place) (row : List Span) (ps : List Piece) → AreCut a places row → AreJoined ps → sum_by (λ p. p.cents) ps < most_sum → line_of ps ≡ line_of_spans row
    → b.spans ≡ spans_of 0 ps → length b.links ≡ length b.spans → length b.heads ≡ length places → AreChained b places → StandInOrder b places (line_of_spans row)
stand_in_order a b places row ps cut joined sum line spans links heads chains =
    let is_line = ap line_of_spans spans ∙ spans_line 0 ps ∙ line in
    record {
      cut = record {
        in_row = subst (StandInRow 0) (sym spans) (spans_row 0 ps joined (omega (arith, sum)));
        as_many = refl;
        as_many_links = links;
        as_many_heads = heads;
        chains = chains;
        owned = subst (AllByRecursion (λ x. list_any (is_of x.right) places ≡ true)) (sym spans) (spans_all (λ r. list_any (is_of r) places ≡ true) 0 ps (pieces_owned a places row ps cut joined line));
        claims = λ right. ap (cents_of right) is_line ∙ cut.claims right;
      };
      is_line = is_line;
    }

-- ---- the chains of pieces

-- one more span, at the place of its right
pub chained_push : (a : SpanLists) (places : List Place) (x : Span) (place : ℕ) → AreDifferent places → list_any (is_of x.right) places ≡ true → place ≡ position_or_len (is_of x.right) places
    → length a.links ≡ length a.spans → length a.heads ≡ length places → AreChained a places → AreChained (pushed a place x) places
chained_push a places x place differ there at as_many as_many_heads chains = λ n p within here.
    let own = is_span_of p.right in
    let behind = last_first own [] a.spans in
    subst (Linked spans links (link_at heads n)) (sym (last_first_append own [] a.spans (x ∷ [])))
    (elim (own x) as (λ b. own x ≡ b → Linked spans links (link_at heads n) (cond b (x ∷ behind) behind)) [
      | true ↦ λ its.
          let same : n ≡ place = number_is places x.right n p differ within here its ∙ sym at in
          let chain = kept (link_at a.heads place) behind (subst (λ m. Linked a.spans a.links (link_at a.heads m) behind) same (chains n p within here)) in
          subst (λ m. Linked spans links (link_at heads m) (x ∷ behind)) (sym same)
          (subst (λ h. Linked spans links h (x ∷ behind)) (sym head) (
            omega (arith, length-append a.spans (x ∷ [])),
            (get_or-append_seam a.spans x [] no_span, subst (λ h. Linked spans links h behind) (sym link) chain),
          ))
      | false ↦ λ other.
          let away : n ≢ place =
          λ same. false≢true (sym other ∙ subst (λ (q : Place). same_right q.right x.right ≡ true) (sym here) (subst (λ k. is_of x.right (get_or places k p) ≡ true) (sym (same ∙ at)) (passes_at_first (is_of x.right) places p (first_within (is_of x.right) places there)))) in
          subst (λ h. Linked spans links h behind) (sym (get_or-set_other a.heads place n (Some (length a.spans)) None away)) (kept (link_at a.heads n) behind (chains n p within here))
    ] refl)
  where
    spans : List Span
    spans = a.spans ++ x ∷ []

    links : List (Option ℕ)
    links = a.links ++ link_at a.heads place ∷ []

    heads : List (Option ℕ)
    heads = set a.heads place (Some (length a.spans))

    kept : (head : Option ℕ) (xs : List Span) → Linked a.spans a.links head xs → Linked spans links head xs
    kept head xs chain = carried (λ z. false) a.spans a.links spans links (push_leaves (λ z. false) a.spans a.links x (link_at a.heads place) as_many) head xs (none_passes xs) chain

    head : link_at heads place ≡ Some (length a.spans)
    head = get_or-set_same a.heads place (Some (length a.spans)) None (omega (arith, as_many_heads, at, first_within (is_of x.right) places there))

    link : link_at links (length a.spans) ≡ link_at a.heads place
    link = subst (λ n. link_at links n ≡ link_at a.heads place) as_many (get_or-append_seam a.links (link_at a.heads place) [] None)
