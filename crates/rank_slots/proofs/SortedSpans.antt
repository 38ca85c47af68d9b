-- The spans of a line, sorted by where they begin, stand in a row.
use Rattle.std.proofs.Common.{◌≡◌, ℕ, zero, suc, ◌+◌, ◌<◌, ◌≤◌, Bool, true, false, cond, eqb, nat_lt, List, [], ◌∷◌, get_or, length, Option, Some, None, inl, inr, refl, sym, ap, subst, ◌∙◌, ⊎_elim, arith, suc-le-suc, zero-le}
use Rattle.std.specs.List.{AllByRecursion, list_any}
use Rattle.std.specs.List.Sorted.{IsPermutation, IsSortedBy}
use Rattle.std.specs.Ordering.{is_lt, nat_cmp}
use Rattle.std.specs.declared.cmp.Ordering.TheVariants.{Less, Equal, Greater}
use Rattle.std.proofs.lemmas.Bool.Decides.{nat_tests}
use Rattle.std.proofs.lemmas.List.Elements.{All-from_recursion, recursion_from_All}
use Rattle.std.proofs.lemmas.List.Sorted.{All-permutation, IsPermutation-sym, length_permutation}
use Rattle.gb_base.proofs.Members.{In}
use Rattle.gb_base.proofs.SameRights.{right_self}
use Rattle.rank_slots.specs.Groups.{is_of}
use Rattle.rank_slots.specs.declared.places.Place.{Place}
use Rattle.rank_slots.specs.declared.spans.Span.{Span}
use Rattle.rank_slots.specs.inner.SpanJoins.{Ascend, Before}
use Rattle.rank_slots.specs.inner.Spans.{AreCut, Linked, SpanLists, is_span_of, last_first, link_at, no_span}
use Rattle.rank_slots.proofs.CutLines.{own_chain}
use Rattle.rank_slots.proofs.SpanChains.{each_weaker, row_ascends}

-- ---- elements

all_in : {X : Type 0} (P : X → Type 0) (xs : List X) → ((x : X) → In x xs → P x) → AllByRecursion P xs
all_in P [] each = tt
all_in P (x ∷ xs) each = (each x (inl refl), all_in P xs (λ y there. each y (inr there)))

in_all : {X : Type 0} (P : X → Type 0) (xs : List X) (y : X) → AllByRecursion P xs → In y xs → P y
in_all P [] y all there = absurd there
in_all P (x ∷ xs) y all there = ⊎_elim (λ is. subst P is all.0) (λ later. in_all P xs y all.1 later) there

in_permutation : {X : Type 0} (xs ys : List X) (z : X) → IsPermutation xs ys → In z ys → In z xs
in_permutation xs ys z permutation there =
    in_all (λ y. In y xs) ys z (recursion_from_All (λ y. In y xs) ys (All-permutation (λ y. In y xs) xs ys permutation (All-from_recursion (λ y. In y xs) xs (all_in (λ y. In y xs) xs (λ y here. here))))) there

in_list : {X : Type 0} (xs : List X) (n : ℕ) (d : X) → n < length xs → In (get_or xs n d) xs
in_list [] n d within = absurd (omega (arith, within))
in_list (x ∷ xs) zero d within = inl refl
in_list (x ∷ xs) (suc n) d within = inr (in_list xs n d (omega (arith, within)))

-- ---- each span of the row is in the lists

chain_in : (spans : List Span) (links : List (Option ℕ)) (head : Option ℕ) (xs : List Span) → Linked spans links head xs → AllByRecursion (λ x. In x spans) xs
chain_in spans links head [] chain = tt
chain_in spans links None (x ∷ xs) chain = absurd chain
chain_in spans links (Some n) (x ∷ xs) chain = (subst (λ y. In y spans) chain.1.0 (in_list spans n no_span chain.0), chain_in spans links (link_at links n) xs chain.1.1)

stays_in : (test : Span → Bool) (x : Span) (others xs : List Span) → In x others → In x (last_first test others xs)
stays_in test x others [] there = there
stays_in test x others (y ∷ ys) there =
    elim (test y) as (λ b. In x (last_first test (cond b (y ∷ others) others) ys)) [
      | true ↦ stays_in test x (y ∷ others) ys (inr there)
      | false ↦ stays_in test x others ys there
    ]

in_own : (test : Span → Bool) (x : Span) (others xs : List Span) → test x ≡ true → In x xs → In x (last_first test others xs)
in_own test x others [] own there = absurd there
in_own test x others (y ∷ ys) own there =
    ⊎_elim
    (λ is. stays_in test x (cond (test y) (y ∷ others) others) ys (subst (λ b. In x (cond b (y ∷ others) others)) (sym (ap test is ∙ own)) (inl is)))
    (λ later. in_own test x (cond (test y) (y ∷ others) others) ys own later)
    there

row_in : (a : SpanLists) (places : List Place) (row : List Span) → AreCut a places row → AllByRecursion (λ x. In x a.spans) row
row_in a places row cut =
    all_in (λ x. In x a.spans) row
    (λ x there.
    let listed = in_all (λ (y : Span). list_any (is_of y.right) places ≡ true) row x cut.owned there in
    let chain = own_chain a places row x.right cut listed in
    in_all (λ y. In y a.spans) (last_first (is_span_of x.right) [] row) x (chain_in a.spans a.links _ (last_first (is_span_of x.right) [] row) chain) (in_own (is_span_of x.right) x [] row (right_self x.right) there))

-- ---- a list that rises, and has the spans of a row

-- no span begins ahead of one that stands before it
Rise : List Span → Type 0
Rise [] = Unit {0}
Rise (x ∷ xs) = AllByRecursion (λ y. x.from ≤ y.from) xs × Rise xs

-- the spans behind the first one of a row, in a list from which it is taken
rest_in : (x : Span) (xs : List Span) (y : Span) (ys : List Span) → x.from ≤ y.from → AllByRecursion (λ z. Before y z) ys → AllByRecursion (λ z. In z (x ∷ xs)) ys → AllByRecursion (λ z. In z xs) ys
rest_in x xs y [] least after all = tt
rest_in x xs y (z ∷ zs) least after all = (⊎_elim (λ is. absurd (omega (arith, least, after.0.0, ap (λ (u : Span). u.from) is))) (λ there. there) all.0, rest_in x xs y zs least after.1 all.1)

-- a row whose spans are all in a list that rises is no longer than it
row_within : (xs ys : List Span) → Rise xs → Ascend ys → AllByRecursion (λ y. In y xs) ys → length ys ≤ length xs
unfolding Rise
row_within xs [] up row all = zero-le
row_within [] (y ∷ ys) up row all = absurd all.0
row_within (x ∷ xs) (y ∷ ys) up row all =
    ⊎_elim
    (λ is. let rest = row_within xs ys up.1 row.1 (rest_in x xs y ys (omega (arith, ap (λ (z : Span). z.from) is)) row.0 all.1) in omega (arith, rest))
    (λ later.
    let ahead = in_all (λ (z : Span). x.from ≤ z.from) xs y up.0 later in
    let rest = row_within xs (y ∷ ys) up.1 row (later, rest_in x xs y ys ahead row.0 all.1) in
    omega (arith, rest))
    all.0

-- a row that is as long as such a list is the list
row_is : (xs ys : List Span) → Rise xs → Ascend ys → AllByRecursion (λ y. In y xs) ys → length xs ≡ length ys → xs ≡ ys
unfolding Rise
row_is [] [] up row all same = refl
row_is [] (y ∷ ys) up row all same = absurd all.0
row_is (x ∷ xs) [] up row all same = absurd (omega (arith, same))
row_is (x ∷ xs) (y ∷ ys) up row all same =
    ⊎_elim
    (λ is.
    let rest = row_is xs ys up.1 row.1 (rest_in x xs y ys (omega (arith, ap (λ (z : Span). z.from) is)) row.0 all.1) (omega (arith, same)) in
    λ i. is i ∷ rest i)
    (λ later.
    let ahead = in_all (λ (z : Span). x.from ≤ z.from) xs y up.0 later in
    let few = row_within xs (y ∷ ys) up.1 row (later, rest_in x xs y ys ahead row.0 all.1) in
    absurd (omega (arith, few, same)))
    all.0

-- ---- of the sort

sorted_rises : (xs : List Span) → IsSortedBy (λ x y. nat_lt x.from y.from) xs → Rise xs
unfolding Rise
sorted_rises [] sorted = tt
sorted_rises (x ∷ []) sorted = (tt, tt)
sorted_rises (x ∷ y ∷ ys) sorted =
    let first : nat_lt y.from x.from ≡ false = sorted zero x zero-le (suc-le-suc (suc-le-suc zero-le)) in
    let least : x.from ≤ y.from = grind (arith, nat_tests, first) in
    let rest : Rise (y ∷ ys) = sorted_rises (y ∷ ys)
    (λ k d le less.
    let next : suc k + 1 ≡ suc (k + 1) = omega arith in
    subst (λ n. nat_lt (get_or (x ∷ y ∷ ys) n d).from (get_or (y ∷ ys) k d).from ≡ false) next (sorted (suc k) d zero-le (omega (arith, less)))) in
    ((least, each_weaker (λ (z : Span). y.from ≤ z.from) (λ (z : Span). x.from ≤ z.from) (λ z after. omega (arith, least, after)) ys rest.0), rest)

pub sorted_row : (a : SpanLists) (places : List Place) (row sorted : List Span) → AreCut a places row → IsPermutation a.spans sorted → IsSortedBy (λ x y. nat_lt x.from y.from) sorted → sorted ≡ row
sorted_row a places row sorted cut permutation up =
    row_is sorted row (sorted_rises sorted up) (row_ascends 0 row cut.in_row)
    (each_weaker (λ x. In x a.spans) (λ x. In x sorted) (λ x there. in_permutation sorted a.spans x (IsPermutation-sym a.spans sorted permutation) there) row (row_in a places row cut))
    (length_permutation a.spans sorted permutation ∙ cut.as_many)

-- the order of the sort's key
pub key_before : (x y : Span) → is_lt (nat_cmp x.from y.from) ≡ nat_lt x.from y.from
key_before x y = by x.from y.from
  where
    by : (m n : ℕ) → is_lt (nat_cmp m n) ≡ nat_lt m n
    by m n =
        elim (nat_lt m n) as (λ b. is_lt (cond b Less (cond (eqb m n) Equal Greater)) ≡ b) [
          | true ↦ refl
          | false ↦ elim (eqb m n) as (λ b. is_lt (cond b Equal Greater) ≡ false) [ true ↦ refl | false ↦ refl ]
        ]
