-- The exercised reservations of a folio that count: both rights are live, one has a reservation, the other is in its rank.
use Rattle.std.proofs.Common.{◌≡◌, ℕ, ◌<◌, ◌≤◌, Bool, true, false, cond, ◌&&◌, ◌||◌, List, [], ◌∷◌, filter, IsSome, Option, Some, None, is_some, length, inl, inr, refl, sym, ap, subst, ◌∙◌, ⊎_elim, arith}
use Rattle.std.specs.List.{AllByRecursion, IsDistinct, list_any}
use Rattle.std.proofs.lemmas.Bool.{and_parts, both_ways, false_from_ne_true, false≢true, or_from, or_parts}
use Rattle.std.proofs.lemmas.Option.{option_and_then_some, same_Some}
use Rattle.gb_base.specs.RightNo.{RightNo, same_right}
use Rattle.gb_base.specs.declared.keys.Key.{Key}
use Rattle.gb_base.specs.declared.keys.Key.TheVariants.{Right}
use Rattle.gb_base.proofs.Members.{In, of_flat_map}
use Rattle.gb_base.proofs.SameRights.{right_from, right_is}
use Rattle.act_model.specs.declared.receipts.Receipt.{Receipt}
use Rattle.folio_sections.specs.HeldRights.{receipt_numbers}
use Rattle.folio_sections.specs.Rights.{created, is_exercise, is_live}
use Rattle.folio_sections.specs.declared.entries.Created.{Created}
use Rattle.folio_sections.specs.declared.entries.Entry.{Entry}
use Rattle.folio_sections.specs.declared.entries.What.{What}
use Rattle.folio_sections.specs.declared.entries.What.TheVariants as what
use Rattle.folio_sections.proofs.DistinctLists.{distinct_given}
use Rattle.folio_sections.proofs.FilteredLists.{in_all, in_filter, of_any, of_filter_map}
use Rattle.folio_sections.proofs.Unchanged.{all_weaker}
use Rattle.rank_slots.specs.CanFill.{knotted}
use Rattle.rank_slots.specs.declared.places.Knot.{Knot}
use Rattle.folio_line.specs.Exchanges.{counted_exercises, exercise_behind, exercise_of, is_spent_on}
use Rattle.folio_line.specs.FolioRights.{is_live_with, live_by_act, rights_of}
use Rattle.folio_line.specs.declared.folio_rights.CreatedRight.{CreatedRight}
use Rattle.folio_line.proofs.CountedExchanges.{live_is_created}
use Rattle.folio_line.proofs.CreatedRights.{IsCreatedHere}
use Rattle.folio_line.proofs.OwnGroups.{never_both}
use Rattle.folio_line.proofs.PlacedDistinct.{by_act_distinct, has_same_number}
use Rattle.folio_line.proofs.PlacedOrder.{of_filing}
use Rattle.folio_line.proofs.RightsInOrder.{ActsAsFiled, RightsInOrder, is_created_here}

-- ---- each exercise that counts

-- the right has spent its reservation on this one
abbrev pub is_spent_for : RightNo → List Entry → Bool
is_spent_for by entries = list_any (λ e. is_spent_on by e.what) entries

-- The reserved right is live and has a reservation, which is spent; the other is live, of a later filing, and in that rank.
pub record IsTied (at : Key → List Entry) (folio : ℕ) (k : Knot) : Type 0 where
  pub reserving : Created
  pub behind : Created
  pub reserved_is : created (at (Right folio k.reserved)) ≡ Some reserving
  pub exercised_is : created (at (Right folio k.exercised)) ≡ Some behind
  pub has_reserve : is_some reserving.reserve ≡ true
  pub has_rank : is_some behind.ahead_of ≡ true
  pub reserved_live : is_live (at (Right folio k.reserved)) ≡ true
  pub exercised_live : is_live (at (Right folio k.exercised)) ≡ true
  pub spent : is_spent_for k.exercised (at (Right folio k.reserved)) ≡ true
  pub earlier : k.reserved.receipt < k.exercised.receipt

some_is : {X : Type 0} (o : Option X) → is_some o ≡ true → (x : X) × (o ≡ Some x)
some_is None some = absurd (false≢true some)
some_is (Some x) some = (x, refl)

spent_as_filed : (journal : List Receipt) (folio : ℕ) (reserved by : RightNo) (w : What) → ActsAsFiled journal folio reserved w → is_spent_on by w ≡ true
    → ((made : Created) → IsCreatedHere journal folio reserved made → IsSome made.reserve) × (reserved.receipt < by.receipt)
spent_as_filed journal folio reserved by (what.Exercised right) acts is = (acts.0, subst (λ (q : RightNo). reserved.receipt < q.receipt) (right_is right by is) acts.1)
spent_as_filed journal folio reserved by other acts is = absurd (false≢true is)

-- the exercise of these two rights
abbrev the_knot : RightNo → RightNo → Knot
the_knot reserved by = record { reserved = reserved; exercised = by }

record IsReadBy (at : Key → List Entry) (folio : ℕ) (x : CreatedRight) (reserved : RightNo) (k : Knot) : Type 0 where
  is : the_knot reserved x.id ≡ k
  live : is_live (at (Right folio reserved)) ≡ true
  spent : is_spent_for x.id (at (Right folio reserved)) ≡ true

read_by : (at : Key → List Entry) (folio : ℕ) (x : CreatedRight) (reserved : RightNo) (k : Knot) → exercise_behind at folio x reserved ≡ Some k → IsReadBy at folio x reserved k
read_by at folio x reserved k is =
    let live = is_live (at (Right folio reserved)) in
    let spent = is_spent_for x.id (at (Right folio reserved)) in
    elim (live && spent) as (λ b. (live && spent) ≡ b → cond b (Some (the_knot reserved x.id)) None ≡ Some k → IsReadBy at folio x reserved k) [
      | true ↦ λ both here. (let parts = and_parts live spent both in record { is = same_Some (the_knot reserved x.id) k here; live = parts.0; spent = parts.1 })
      | false ↦ λ _ never. absurd (false≢true (ap is_some never))
    ] refl is

tied_by : (journal : List Receipt) (at : Key → List Entry) (folio : ℕ) (x : CreatedRight) (reserved : RightNo) (k : Knot) → RightsInOrder journal at → created (at (Right folio x.id)) ≡ Some x.made → is_live (at (Right folio x.id)) ≡ true
    → x.made.ahead_of ≡ Some reserved → IsReadBy at folio x reserved k → IsTied at folio k
tied_by journal at folio x reserved k stands made live ahead read =
    let entries = at (Right folio reserved) in
    let own = some_is (created entries) (live_is_created entries read.live) in
    let spending = of_any (λ (e : Entry). is_spent_on x.id e.what) entries read.spent in
    let acts = spent_as_filed journal folio reserved x.id spending.0.what (in_all (λ (e : Entry). ActsAsFiled journal folio reserved e.what) entries spending.0 (stands.acts folio reserved) spending.1) spending.2 in
    subst (IsTied at folio) read.is (record {
      reserving = own.0;
      behind = x.made;
      reserved_is = own.1;
      exercised_is = made;
      has_reserve = acts.0 own.0 (is_created_here journal at folio reserved own.0 stands own.1);
      has_rank = ap is_some ahead;
      reserved_live = read.live;
      exercised_live = live;
      spent = read.spent;
      earlier = acts.1;
    })

-- the exercise of a right that is live
record IsOf (at : Key → List Entry) (folio : ℕ) (x : CreatedRight) (k : Knot) : Type 0 where
  tied : IsTied at folio k
  exercised : k.exercised ≡ x.id

of_live : (journal : List Receipt) (at : Key → List Entry) (folio : ℕ) (x : CreatedRight) (k : Knot) → RightsInOrder journal at → In x (live_by_act at folio) → exercise_of at folio x ≡ Some k → IsOf at folio x k
of_live journal at folio x k stands there is =
    let from = of_flat_map (rights_of is_live_with at folio) receipt_numbers x there in
    let placed = of_filing is_live_with at folio from.0 x from.2 in
    option_and_then_some (exercise_behind at folio x) x.made.ahead_of k is
    (λ reserved ahead gives.
    let read = read_by at folio x reserved k gives in
    record { tied = tied_by journal at folio x reserved k stands placed.made placed.stands ahead read; exercised = sym (ap (λ (z : Knot). z.exercised) read.is) })

pub is_tied : (journal : List Receipt) (at : Key → List Entry) (folio : ℕ) (k : Knot) → RightsInOrder journal at → In k (counted_exercises at folio) → IsTied at folio k
is_tied journal at folio k stands there =
    let from = of_filter_map (exercise_of at folio) (live_by_act at folio) k there in
    (of_live journal at folio from.0 k stands from.1 from.2).tied

-- ---- no right is in two exercises

-- a right of the one exercise is a right of the other
abbrev pub share_a_right : Knot → Knot → Bool
share_a_right k l = (same_right k.reserved l.reserved || same_right k.reserved l.exercised) || (same_right k.exercised l.reserved || same_right k.exercised l.exercised)

-- a right that reserved in one exercise is not the exercised one of another
pub other_kinds : (journal : List Receipt) (at : Key → List Entry) (folio : ℕ) (k l : Knot) → RightsInOrder journal at → IsTied at folio k → IsTied at folio l → k.reserved ≡ l.exercised → ⊥
other_kinds journal at folio k l stands first second same =
    let there : created (at (Right folio k.reserved)) ≡ Some second.behind = ap (λ id. created (at (Right folio id))) same ∙ second.exercised_is in
    never_both journal folio k.reserved first.reserving second.behind (is_created_here journal at folio k.reserved first.reserving stands first.reserved_is) (is_created_here journal at folio k.reserved second.behind stands there)
    first.has_reserve second.has_rank

pub apart_kinds : (journal : List Receipt) (at : Key → List Entry) (folio : ℕ) (k l : Knot) → RightsInOrder journal at → IsTied at folio k → IsTied at folio l → same_right k.reserved l.exercised ≡ false
apart_kinds journal at folio k l stands first second =
    false_from_ne_true (same_right k.reserved l.exercised) (λ same. other_kinds journal at folio k l stands first second (right_is k.reserved l.exercised same))

one_member : {X : Type 0} (xs : List X) (a b : X) → length xs ≤ 1 → In a xs → In b xs → a ≡ b
one_member [] a b few here there = absurd here
one_member (x ∷ []) a b few here there = ⊎_elim (λ e. ⊎_elim (λ f. sym e ∙ f) (λ none. absurd none) there) (λ none. absurd none) here
one_member (x ∷ y ∷ xs) a b few here there = absurd (omega (arith, few))

spends : (by : RightNo) (w : What) → is_spent_on by w ≡ true → is_exercise w ≡ true
spends by (what.Exercised right) is = refl
spends by other is = absurd (false≢true is)

spent_on_one : (a b : RightNo) (w : What) → is_spent_on a w ≡ true → is_spent_on b w ≡ true → a ≡ b
spent_on_one a b (what.Exercised right) first second = sym (right_is right a first) ∙ right_is right b second
spent_on_one a b other first second = absurd (false≢true first)

-- a reservation that is spent once is spent on one right
one_use : (es : List Entry) (a b : RightNo) → length (filter (λ e. is_exercise e.what) es) ≤ 1 → is_spent_for a es ≡ true → is_spent_for b es ≡ true → a ≡ b
one_use es a b few first second =
    let one = of_any (λ (e : Entry). is_spent_on a e.what) es first in
    let two = of_any (λ (e : Entry). is_spent_on b e.what) es second in
    let same = one_member (filter (λ (e : Entry). is_exercise e.what) es) one.0 two.0 few
    (in_filter (λ (e : Entry). is_exercise e.what) es one.0 one.1 (spends a one.0.what one.2)) (in_filter (λ (e : Entry). is_exercise e.what) es two.0 two.1 (spends b two.0.what two.2)) in
    spent_on_one a b one.0.what one.2 (subst (λ (e : Entry). is_spent_on b e.what ≡ true) (sym same) two.2)

-- two exercises whose exercised rights differ have no right in common
apart_knots : (journal : List Receipt) (at : Key → List Entry) (folio : ℕ) (k l : Knot) → RightsInOrder journal at → IsTied at folio k → IsTied at folio l → same_right k.exercised l.exercised ≡ false → share_a_right k l ≡ false
apart_knots journal at folio k l stands first second apart =
    let reserved : same_right k.reserved l.reserved ≡ false = false_from_ne_true (same_right k.reserved l.reserved) (λ same.
    let spent = subst (λ id. is_spent_for l.exercised (at (Right folio id)) ≡ true) (sym (right_is k.reserved l.reserved same)) second.spent in
    let one = one_use (at (Right folio k.reserved)) k.exercised l.exercised (stands.once folio k.reserved) first.spent spent in
    both_ways (same_right k.exercised l.exercised) apart (right_from k.exercised l.exercised one)) in
    let crossed : same_right k.exercised l.reserved ≡ false = false_from_ne_true (same_right k.exercised l.reserved) (λ same.
    other_kinds journal at folio l k stands second first (sym (right_is k.exercised l.reserved same))) in
    or_from (same_right k.reserved l.reserved || same_right k.reserved l.exercised) (same_right k.exercised l.reserved || same_right k.exercised l.exercised)
    (or_from (same_right k.reserved l.reserved) (same_right k.reserved l.exercised) reserved (apart_kinds journal at folio k l stands first second))
    (or_from (same_right k.exercised l.reserved) (same_right k.exercised l.exercised) crossed apart)

pub exercises_distinct : (journal : List Receipt) (at : Key → List Entry) (folio : ℕ) → RightsInOrder journal at → IsDistinct share_a_right (counted_exercises at folio)
exercises_distinct journal at folio stands =
    distinct_given has_same_number share_a_right (exercise_of at folio) (live_by_act at folio) (by_act_distinct is_live_with at folio)
    (λ x y k l here there apart first second.
    let one = of_live journal at folio x k stands here first in
    let two = of_live journal at folio y l stands there second in
    apart_knots journal at folio k l stands one.tied two.tied ((λ i. same_right (one.exercised i) (two.exercised i)) ∙ apart))

-- ---- so each right is in one knot at most

-- the right is in none of these exercises
abbrev IsInNone : RightNo → Knot → Type 0
IsInNone a l = (same_right a l.reserved ≡ false) × (same_right a l.exercised ≡ false)

in_none : (a : RightNo) (ks : List Knot) → AllByRecursion (IsInNone a) ks → AllByRecursion (λ b. same_right a b ≡ false) (knotted ks)
in_none a [] all = tt
in_none a (l ∷ ls) all = (all.0.0, (all.0.1, in_none a ls all.1))

pub distinct_knotted : (ks : List Knot) → ((k : Knot) → In k ks → same_right k.reserved k.exercised ≡ false) → IsDistinct share_a_right ks → IsDistinct same_right (knotted ks)
unfolding IsDistinct
distinct_knotted [] own apart = tt
distinct_knotted (k ∷ ks) own apart =
    let parts : (l : Knot) → share_a_right k l ≡ false → IsInNone k.reserved l × IsInNone k.exercised l = λ l none.
    let halves = or_parts (same_right k.reserved l.reserved || same_right k.reserved l.exercised) (same_right k.exercised l.reserved || same_right k.exercised l.exercised) none in
    (or_parts (same_right k.reserved l.reserved) (same_right k.reserved l.exercised) halves.0, or_parts (same_right k.exercised l.reserved) (same_right k.exercised l.exercised) halves.1) in
    let first = in_none k.reserved ks (all_weaker (λ l. share_a_right k l ≡ false) (IsInNone k.reserved) ks (λ l none. (parts l none).0) apart.0) in
    let second = in_none k.exercised ks (all_weaker (λ l. share_a_right k l ≡ false) (IsInNone k.exercised) ks (λ l none. (parts l none).1) apart.0) in
    ((own k (inl refl), first), (second, distinct_knotted ks (λ l there. own l (inr there)) apart.1))
