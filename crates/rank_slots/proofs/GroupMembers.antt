-- The group of a right: its members are places of the line, and no place stands in two groups.
use Rattle.std.proofs.Common.{◌≡◌, ℕ, ◌≤◌, true, false, cond, ◌||◌, List, [], ◌∷◌, ◌++◌, All, Some, find, flat_map, length, sum_by, refl, sym, ap, ◌∙◌, subst, arith, length-append}
use Rattle.std.specs.List.{AllByRecursion, list_any}
use Rattle.std.specs.Option.{option_map_or}
use Rattle.std.proofs.lemmas.Bool.{both_ways, false≢true, or_parts, true_from_ne_false}
use Rattle.std.proofs.lemmas.List.Elements.{All-from_recursion, recursion_from_All}
use Rattle.std.proofs.lemmas.List.Folds.{list_any-append}
use Rattle.std.proofs.lemmas.List.Sums.{sum_by-append}
use Rattle.gb_base.specs.RightNo.{RightNo, same_right}
use Rattle.gb_base.proofs.SameRights.{right_is}
use Rattle.rank_slots.specs.CanFill.{StandsAlone}
use Rattle.rank_slots.specs.Groups.{group_of, groups, is_of, joins, with_first}
use Rattle.rank_slots.specs.Payments.{claim_of}
use Rattle.rank_slots.specs.declared.places.Place.{Place}
use Rattle.rank_slots.proofs.LineCounts.{counted, counted_both, counted_is, none_from_count, some_counted}
use Rattle.rank_slots.proofs.PlaceLines.{AreDifferent, places_few}

-- the places of these groups
abbrev members : List (List Place) → List Place
members gs = flat_map (λ g. g) gs

-- the first of these groups that has the right
abbrev group_in : List (List Place) → RightNo → List Place
group_in gs right = option_map_or (λ g. g) (find (list_any (is_of right)) gs) []

members_first : (p : Place) (gs : List (List Place)) → members (with_first p gs) ≡ p ∷ members gs
members_first p [] = refl
members_first p (g ∷ gs) = refl

members_are : (places : List Place) → members (groups places) ≡ places
members_are [] = refl
members_are (p ∷ ps) =
    elim (joins ps) as (λ b. members (cond b (with_first p (groups ps)) ((p ∷ []) ∷ groups ps)) ≡ p ∷ ps) [
      | true ↦ members_first p (groups ps) ∙ ap (λ qs. p ∷ qs) (members_are ps)
      | false ↦ ap (λ qs. p ∷ qs) (members_are ps)
    ]

-- ---- what holds of the group that is found

-- the group that is found has the right where some group has it
in_holds : (gs : List (List Place)) (r : RightNo) → list_any (is_of r) (members gs) ≡ true → list_any (is_of r) (group_in gs r) ≡ true
in_holds [] r there = there
in_holds (g ∷ gs) r there =
    elim (list_any (is_of r) g) as (λ b. list_any (is_of r) g ≡ b → (b || list_any (is_of r) (members gs)) ≡ true → list_any (is_of r) (option_map_or (λ h. h) (cond b (Some g) (find (list_any (is_of r)) gs)) []) ≡ true) [
      | true ↦ λ here h. here
      | false ↦ λ no h. in_holds gs r h
    ] refl (sym (list_any-append (is_of r) g (members gs)) ∙ there)

in_sum : (f : Place → ℕ) (gs : List (List Place)) (r : RightNo) → sum_by f (group_in gs r) ≤ sum_by f (members gs)
in_sum f [] r = omega arith
in_sum f (g ∷ gs) r =
    let both = sum_by-append f g (members gs) in
    let rest = in_sum f gs r in
    elim (list_any (is_of r) g) as (λ b. sum_by f (option_map_or (λ h. h) (cond b (Some g) (find (list_any (is_of r)) gs)) []) ≤ sum_by f (g ++ members gs)) [
      | true ↦ omega arith
      | false ↦ omega arith
    ]

in_length : (gs : List (List Place)) (r : RightNo) → length (group_in gs r) ≤ length (members gs)
in_length [] r = omega arith
in_length (g ∷ gs) r =
    let both = length-append g (members gs) in
    let rest = in_length gs r in
    elim (list_any (is_of r) g) as (λ b. length (option_map_or (λ h. h) (cond b (Some g) (find (list_any (is_of r)) gs)) []) ≤ length (g ++ members gs)) [
      | true ↦ omega arith
      | false ↦ omega arith
    ]

all_first : (P : Place → Type 0) (xs ys : List Place) → AllByRecursion P (xs ++ ys) → AllByRecursion P xs
all_first P [] ys all = tt
all_first P (x ∷ xs) ys all = (all.0, all_first P xs ys all.1)

all_last : (P : Place → Type 0) (xs ys : List Place) → AllByRecursion P (xs ++ ys) → AllByRecursion P ys
all_last P [] ys all = all
all_last P (x ∷ xs) ys all = all_last P xs ys all.1

in_all : (P : Place → Type 0) (gs : List (List Place)) (r : RightNo) → AllByRecursion P (members gs) → AllByRecursion P (group_in gs r)
in_all P [] r all = tt
in_all P (g ∷ gs) r all =
    elim (list_any (is_of r) g) as (λ b. AllByRecursion P (option_map_or (λ h. h) (cond b (Some g) (find (list_any (is_of r)) gs)) [])) [
      | true ↦ all_first P g (members gs) all
      | false ↦ in_all P gs r (all_last P g (members gs) all)
    ]

in_none : (gs : List (List Place)) (a r : RightNo) → list_any (is_of a) (members gs) ≡ false → list_any (is_of a) (group_in gs r) ≡ false
in_none [] a r none = refl
in_none (g ∷ gs) a r none =
    let parts = or_parts (list_any (is_of a) g) (list_any (is_of a) (members gs)) (sym (list_any-append (is_of a) g (members gs)) ∙ none) in
    elim (list_any (is_of r) g) as (λ b. list_any (is_of a) (option_map_or (λ h. h) (cond b (Some g) (find (list_any (is_of r)) gs)) []) ≡ false) [
      | true ↦ parts.0
      | false ↦ in_none gs a r parts.1
    ]

-- the first place of a right is in its group
claim_first : (g ps : List Place) (r : RightNo) → list_any (is_of r) g ≡ true → claim_of (g ++ ps) r ≡ claim_of g r
claim_first [] ps r there = absurd (false≢true there)
claim_first (p ∷ g) ps r there =
    elim (same_right p.right r)
    as (λ b. (b || list_any (is_of r) g) ≡ true → option_map_or (λ (q : Place). q.claim) (cond b (Some p) (find (is_of r) (g ++ ps))) 0 ≡ option_map_or (λ (q : Place). q.claim) (cond b (Some p) (find (is_of r) g)) 0) [
      | true ↦ λ h. refl
      | false ↦ λ h. claim_first g ps r h
    ] there

claim_behind : (g ps : List Place) (r : RightNo) → list_any (is_of r) g ≡ false → claim_of (g ++ ps) r ≡ claim_of ps r
claim_behind [] ps r none = refl
claim_behind (p ∷ g) ps r none =
    let parts = or_parts (same_right p.right r) (list_any (is_of r) g) none in
    (λ i. option_map_or (λ (q : Place). q.claim) (cond (parts.0 i) (Some p) (find (is_of r) (g ++ ps))) 0) ∙ claim_behind g ps r parts.1

in_claim : (gs : List (List Place)) (r : RightNo) → claim_of (group_in gs r) r ≡ claim_of (members gs) r
in_claim [] r = refl
in_claim (g ∷ gs) r =
    elim (list_any (is_of r) g) as (λ b. list_any (is_of r) g ≡ b → claim_of (option_map_or (λ h. h) (cond b (Some g) (find (list_any (is_of r)) gs)) []) r ≡ claim_of (g ++ members gs) r) [
      | true ↦ λ here. sym (claim_first g (members gs) r here)
      | false ↦ λ no. in_claim gs r ∙ sym (claim_behind g (members gs) r no)
    ] refl

-- ---- a right that stands alone

-- the group is one place, of this right
pub record IsAlone (group : List Place) (right : RightNo) : Type 0 where
  pub place : Place
  pub all : group ≡ place ∷ []
  pub own : same_right place.right right ≡ true

single : (g : List Place) (a : RightNo) → list_any (is_of a) g ≡ true → length g ≡ 1 → IsAlone g a
single [] a there one = absurd (false≢true there)
single (p ∷ []) a there one =
    record { place = p; all = refl; own = elim (same_right p.right a) as (λ b. (b || false) ≡ true → b ≡ true) [ true ↦ λ h. refl | false ↦ λ h. h ] there }
single (p ∷ (q ∷ ps)) a there one = absurd (omega arith)

in_alone : (gs : List (List Place)) (a : RightNo) → length (group_in gs a) ≡ 1 → IsAlone (group_in gs a) a
in_alone [] a one = absurd (omega arith)
in_alone (g ∷ gs) a one =
    elim (list_any (is_of a) g) as (λ b. list_any (is_of a) g ≡ b → length (option_map_or (λ h. h) (cond b (Some g) (find (list_any (is_of a)) gs)) []) ≡ 1 → IsAlone (option_map_or (λ h. h) (cond b (Some g) (find (list_any (is_of a)) gs)) []) a) [
      | true ↦ λ here h. single g a here h
      | false ↦ λ no h. in_alone gs a h
    ] refl one

-- a right that stands alone is in no other right's group
in_apart : (gs : List (List Place)) (a r : RightNo) → counted (is_of a) (members gs) ≤ 1 → length (group_in gs a) ≡ 1 → same_right a r ≡ false → list_any (is_of a) (group_in gs r) ≡ false
in_apart [] a r few one other = refl
in_apart (g ∷ gs) a r few one other =
    let both = counted_both (is_of a) g (members gs) in
    elim (list_any (is_of a) g) as (λ b. list_any (is_of a) g ≡ b → length (option_map_or (λ h. h) (cond b (Some g) (find (list_any (is_of a)) gs)) []) ≡ 1 → list_any (is_of a) (option_map_or (λ h. h) (cond (list_any (is_of r) g) (Some g) (find (list_any (is_of r)) gs)) []) ≡ false) [
      | true ↦ λ here h.
          let sole = single g a here h in
          let none = none_from_count (is_of a) (members gs) (omega (arith, some_counted (is_of a) g here)) in
          elim (list_any (is_of r) g) as (λ d. list_any (is_of r) g ≡ d → list_any (is_of a) (option_map_or (λ h. h) (cond d (Some g) (find (list_any (is_of r)) gs)) []) ≡ false) [
            | true ↦ λ also.
                let own : same_right sole.place.right r ≡ true =
                elim (same_right sole.place.right r) as (λ b. (b || false) ≡ true → b ≡ true) [ true ↦ λ h. refl | false ↦ λ h. h ] (subst (λ z. list_any (is_of r) z ≡ true) sole.all also) in
                absurd (both_ways (same_right a r) other (subst (λ z. same_right z r ≡ true) (right_is sole.place.right a sole.own) own))
            | false ↦ λ no. in_none gs a r none
          ] refl
      | false ↦ λ no h.
          elim (list_any (is_of r) g) as (λ d. list_any (is_of a) (option_map_or (λ h. h) (cond d (Some g) (find (list_any (is_of r)) gs)) []) ≡ false) [
            | true ↦ no
            | false ↦ in_apart gs a r (omega arith) h other
          ]
    ] refl one

-- ---- members of one group

-- the group of a member of a right's group is that group
in_same : (gs : List (List Place)) (a r : RightNo) → counted (is_of a) (members gs) ≤ 1 → list_any (is_of a) (group_in gs r) ≡ true → group_in gs a ≡ group_in gs r
in_same [] a r few there = refl
in_same (g ∷ gs) a r few there =
    let both = counted_both (is_of a) g (members gs) in
    elim (list_any (is_of r) g)
    as (λ b. list_any (is_of a) (option_map_or (λ h. h) (cond b (Some g) (find (list_any (is_of r)) gs)) []) ≡ true → group_in (g ∷ gs) a ≡ option_map_or (λ h. h) (cond b (Some g) (find (list_any (is_of r)) gs)) []) [
      | true ↦ λ here. λ i. option_map_or (λ h. h) (cond (here i) (Some g) (find (list_any (is_of a)) gs)) []
      | false ↦ λ behind.
          let later : list_any (is_of a) (members gs) ≡ true =
          true_from_ne_false (list_any (is_of a) (members gs)) (λ none. both_ways (list_any (is_of a) (group_in gs r)) (in_none gs a r none) behind) in
          let some = some_counted (is_of a) (members gs) later in
          let none : list_any (is_of a) g ≡ false = none_from_count (is_of a) g (omega arith) in
          (λ i. option_map_or (λ h. h) (cond (none i) (Some g) (find (list_any (is_of a)) gs)) []) ∙ in_same gs a r (omega arith) behind
    ] there

-- ---- the groups of places

pub alone_group : (places : List Place) (a : RightNo) → StandsAlone places a → IsAlone (group_of places a) a
alone_group places a one = in_alone (groups places) a one

-- a right that stands alone has a place
pub alone_listed : (places : List Place) (a : RightNo) → StandsAlone places a → list_any (is_of a) places ≡ true
alone_listed places a alone =
    let it = alone_group places a alone in
    true_from_ne_false (list_any (is_of a) places)
    (λ none. false≢true (sym (in_none (groups places) a a (ap (list_any (is_of a)) (members_are places) ∙ none)) ∙ ap (list_any (is_of a)) it.all ∙ ap (λ b. b || false) it.own))

pub apart_from_alone : (places : List Place) (a r : RightNo) → AreDifferent places → StandsAlone places a → same_right a r ≡ false → list_any (is_of a) (group_of places r) ≡ false
apart_from_alone places a r differ one other =
    in_apart (groups places) a r (subst (λ ps. counted (is_of a) ps ≤ 1) (sym (members_are places)) (places_few a places differ)) one other

pub group_holds : (places : List Place) (r : RightNo) → list_any (is_of r) places ≡ true → list_any (is_of r) (group_of places r) ≡ true
group_holds places r there = in_holds (groups places) r (subst (λ ps. list_any (is_of r) ps ≡ true) (sym (members_are places)) there)

pub group_claim : (places : List Place) (r : RightNo) → claim_of (group_of places r) r ≡ claim_of places r
group_claim places r = in_claim (groups places) r ∙ ap (λ ps. claim_of ps r) (members_are places)

pub group_sum : (f : Place → ℕ) (places : List Place) (r : RightNo) → sum_by f (group_of places r) ≤ sum_by f places
group_sum f places r = subst (λ ps. sum_by f (group_of places r) ≤ sum_by f ps) (members_are places) (in_sum f (groups places) r)

pub group_length : (places : List Place) (r : RightNo) → length (group_of places r) ≤ length places
group_length places r = subst (λ ps. length (group_of places r) ≤ length ps) (members_are places) (in_length (groups places) r)

pub group_all : (P : Place → Type 0) (places : List Place) (r : RightNo) → All P places → All P (group_of places r)
group_all P places r all =
    All-from_recursion P (group_of places r)
    (in_all P (groups places) r (subst (AllByRecursion P) (sym (members_are places)) (recursion_from_All P places all)))

pub same_group : (places : List Place) (a r : RightNo) → AreDifferent places → list_any (is_of a) (group_of places r) ≡ true → group_of places a ≡ group_of places r
same_group places a r differ there =
    in_same (groups places) a r (subst (λ ps. counted (is_of a) ps ≤ 1) (sym (members_are places)) (places_few a places differ)) there

-- no right has two places in a group
pub group_few : (places : List Place) (a r : RightNo) → AreDifferent places → counted (is_of a) (group_of places r) ≤ 1
group_few places a r differ =
    omega (arith, group_sum (λ p. cond (is_of a p) 1 0) places r, counted_is (is_of a) (group_of places r), counted_is (is_of a) places, places_few a places differ)
