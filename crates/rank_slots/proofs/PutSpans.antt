-- A span is put at the front of a place's chain: what it leaves of the other chains.
use Rattle.std.proofs.Common.{◌≡◌, ◌≢◌, ℕ, ◌<◌, Bool, true, false, eqb, List, [], ◌∷◌, ◌++◌, length, set, Option, Some, None, refl, subst, sym, ap, arith}
use Rattle.std.specs.List.{AllByRecursion}
use Rattle.std.proofs.lemmas.Bool.{eq-eqb, ne_eqb}
use Rattle.std.proofs.lemmas.List.{get_or-set_other, get_or-set_same, length-append, length-set}
use Rattle.std.proofs.Math.Seq.{get_or-append_seam}
use Rattle.rank_slots.specs.declared.spans.Span.{Span}
use Rattle.rank_slots.specs.inner.SpanJoins.{Before}
use Rattle.rank_slots.specs.inner.Spans.{Linked, SpanLists, link_at, no_span, pushed, put, span_at}
use Rattle.rank_slots.proofs.SpanChains.{carried, each_weaker, push_leaves, same_from, write_leaves}

-- a span begins at another cent than this one
abbrev pub Apart : Span → List Span → Type 0
Apart x ys = AllByRecursion (λ y. same_from x y ≡ false) ys

pub behind_apart : (x : Span) (xs : List Span) → AllByRecursion (λ y. Before x y) xs → Apart x xs
behind_apart x xs behind = each_weaker (λ y. Before x y) (λ y. eqb y.from x.from ≡ false) (λ y before. ne_eqb y.from x.from (λ same. absurd (omega (arith, before.0)))) xs behind

pub ahead_apart : (x : Span) (xs ys : List Span) → AllByRecursion (λ y. AllByRecursion (λ z. y.from < z.from) (x ∷ xs)) ys → Apart x ys
ahead_apart x xs ys ahead =
    each_weaker (λ y. AllByRecursion (λ z. y.from < z.from) (x ∷ xs)) (λ y. eqb y.from x.from ≡ false) (λ y all. ne_eqb y.from x.from (λ same. absurd (omega (arith, all.0)))) ys ahead

-- ---- a span is put at a number, at the front of a place's chain

pub record IsPut (b : SpanLists) (own other : ℕ) (next : Option ℕ) (y : Span) (owns others rest : List Span) : Type 0 where
  pub own_chain : Linked b.spans b.links (link_at b.heads own) (y ∷ owns)
  pub other_chain : Linked b.spans b.links (link_at b.heads other) others
  pub rest_chain : Linked b.spans b.links next rest

pub is_put : (a : SpanLists) (own other number : ℕ) (next : Option ℕ) (x y : Span) (owns others rest : List Span) → length a.links ≡ length a.spans → own < length a.heads → other ≢ own
    → number < length a.spans → span_at a.spans number ≡ x → Apart x owns → Apart x others → Apart x rest
    → Linked a.spans a.links (link_at a.heads own) owns → Linked a.spans a.links (link_at a.heads other) others → Linked a.spans a.links next rest
    → IsPut (put a own number y) own other next y owns others rest
is_put a own other number next x y owns others rest as_many within two here is owns_apart others_apart rest_apart own_chain other_chain rest_chain =
    let spans = set a.spans number y in
    let links = set a.links number (link_at a.heads own) in
    let passes : same_from x (span_at a.spans number) ≡ true = eq-eqb (span_at a.spans number).from x.from (ap (λ z. z.from) is) in
    let leaves = write_leaves (same_from x) a.spans a.links number y (link_at a.heads own) passes in
    let head : link_at (set a.heads own (Some number)) own ≡ Some number = get_or-set_same a.heads own (Some number) None within in
    let other_head : link_at (set a.heads own (Some number)) other ≡ link_at a.heads other = get_or-set_other a.heads own other (Some number) None two in
    let link : link_at links number ≡ link_at a.heads own = get_or-set_same a.links number (link_at a.heads own) None (omega (arith, as_many)) in
    record {
      own_chain = subst (λ h. Linked spans links h (y ∷ owns)) (sym head) (
        omega (arith, length-set a.spans number y),
        (get_or-set_same a.spans number y no_span here, subst (λ h. Linked spans links h owns) (sym link) (carried (same_from x) a.spans a.links spans links leaves (link_at a.heads own) owns owns_apart own_chain)),
      );
      other_chain = subst (λ h. Linked spans links h others) (sym other_head) (carried (same_from x) a.spans a.links spans links leaves (link_at a.heads other) others others_apart other_chain);
      rest_chain = carried (same_from x) a.spans a.links spans links leaves next rest rest_apart rest_chain;
    }

-- ---- a span is pushed, at the front of a place's chain

pub none_passes : (ys : List Span) → AllByRecursion (λ y. false ≡ false) ys
none_passes [] = tt
none_passes (y ∷ ys) = (refl, none_passes ys)

pub is_pushed : (a : SpanLists) (own other : ℕ) (next : Option ℕ) (y : Span) (owns others rest : List Span) → length a.links ≡ length a.spans → own < length a.heads → other ≢ own
    → Linked a.spans a.links (link_at a.heads own) owns → Linked a.spans a.links (link_at a.heads other) others → Linked a.spans a.links next rest
    → IsPut (pushed a own y) own other next y owns others rest
is_pushed a own other next y owns others rest as_many within two own_chain other_chain rest_chain =
    let number = length a.spans in
    let spans = a.spans ++ y ∷ [] in
    let links = a.links ++ link_at a.heads own ∷ [] in
    let never : Span → Bool = λ z. false in
    let leaves = push_leaves never a.spans a.links y (link_at a.heads own) as_many in
    let head : link_at (set a.heads own (Some number)) own ≡ Some number = get_or-set_same a.heads own (Some number) None within in
    let other_head : link_at (set a.heads own (Some number)) other ≡ link_at a.heads other = get_or-set_other a.heads own other (Some number) None two in
    let link : link_at links number ≡ link_at a.heads own = subst (λ n. link_at links n ≡ link_at a.heads own) as_many (get_or-append_seam a.links (link_at a.heads own) [] None) in
    record {
      own_chain = subst (λ h. Linked spans links h (y ∷ owns)) (sym head) (
        omega (arith, length-append a.spans (y ∷ [])),
        (get_or-append_seam a.spans y [] no_span, subst (λ h. Linked spans links h owns) (sym link) (carried never a.spans a.links spans links leaves (link_at a.heads own) owns (none_passes owns) own_chain)),
      );
      other_chain = subst (λ h. Linked spans links h others) (sym other_head) (carried never a.spans a.links spans links leaves (link_at a.heads other) others (none_passes others) other_chain);
      rest_chain = carried never a.spans a.links spans links leaves next rest (none_passes rest) rest_chain;
    }
