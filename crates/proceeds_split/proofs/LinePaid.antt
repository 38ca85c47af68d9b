-- What different rights of a line get of a sum together is no more than the sum.
use Rattle.std.proofs.Common.{◌≡◌, ℕ, zero, suc, ◌+◌, ◌≤◌, ◌&&◌, ◌||◌, Bool, true, false, cond, not, List, [], ◌∷◌, ◌++◌, All, Some, count_by, filter, find, flat_map, inl, inr, length, sum_by, take, refl, sym, ap, subst, ◌∙◌, arith}
use Rattle.std.specs.List.{AllByRecursion, IsDistinct, list_any}
use Rattle.std.specs.Option.{option_map_or}
use Rattle.std.proofs.lemmas.Bool.{false≢true, or_left, or_right}
use Rattle.std.proofs.lemmas.List.Elements.{recursion_from_All}
use Rattle.std.proofs.lemmas.List.Folds.{list_any-append}
use Rattle.std.proofs.lemmas.List.Sums.{sum_by-append, sum_by-cons}
use Rattle.std.proofs.lemmas.Map.Keys.{IsDistinct-head, IsDistinct-tail}
use Rattle.gb_base.specs.RightNo.{RightNo, same_right}
use Rattle.gb_base.proofs.Members.{In}
use Rattle.gb_base.proofs.SameRights.{right_is, right_self}
use Rattle.rank_slots.specs.CanFill.{CanFill}
use Rattle.rank_slots.specs.Filled.{Filled, line}
use Rattle.rank_slots.specs.Groups.{groups, is_of, joins, keeps_place, with_first}
use Rattle.rank_slots.specs.Payments.{is_of_group, paid_out, pay, line_pay, share_in_group}
use Rattle.rank_slots.specs.declared.places.Place.{Place}
use Rattle.rank_slots.proofs.HandedOut.{all_handed_out}
use Rattle.rank_slots.proofs.LineCents.{counted_either}
use Rattle.rank_slots.proofs.LineCounts.{counted, counted_agree, counted_both, counted_is, counted_within, none_from_count, some_counted}
use Rattle.rank_slots.proofs.PlaceLines.{AreDifferent, places_few}
use Rattle.rank_slots.proofs.Precedence.{AreApart}
use Rattle.rank_slots.proofs.SharedCents.{AreOnce}
use Rattle.proceeds_split.proofs.MembersPaid.{members_share}

-- ---- sums

sum_zeros : {X : Type 0} (xs : List X) → sum_by (λ x. 0) xs ≡ 0
sum_zeros [] = refl
sum_zeros (x ∷ xs) = let whole = sum_by-cons (λ y. 0) x xs in omega (arith, whole, sum_zeros xs)

sum_both : {X : Type 0} (f g : X → ℕ) (xs : List X) → sum_by (λ x. f x + g x) xs ≡ sum_by f xs + sum_by g xs
sum_both f g [] = refl
sum_both f g (x ∷ xs) =
    let both = sum_by-cons (λ y. f y + g y) x xs in
    let first = sum_by-cons f x xs in
    let second = sum_by-cons g x xs in
    omega (arith, both, first, second, sum_both f g xs)

sum_less : {X : Type 0} (f g : X → ℕ) (xs : List X) → ((x : X) → In x xs → f x ≤ g x) → sum_by f xs ≤ sum_by g xs
sum_less f g [] less = omega arith
sum_less f g (x ∷ xs) less =
    let first = sum_by-cons f x xs in
    let second = sum_by-cons g x xs in
    let here = less x (inl refl) in
    let rest = sum_less f g xs (λ y there. less y (inr there)) in
    omega (arith, first, second, here, rest)

turned : {X Y : Type 0} (h : X → Y → ℕ) (xs : List X) (ys : List Y) → sum_by (λ x. sum_by (h x) ys) xs ≡ sum_by (λ y. sum_by (λ x. h x y) xs) ys
turned h [] ys = sym (sum_zeros ys)
turned h (x ∷ xs) ys =
    let left = sum_by-cons (λ z. sum_by (h z) ys) x xs in
    let right = ap (λ (f : _ → ℕ). sum_by f ys) (λ i y. sum_by-cons (λ z. h z y) x xs i) in
    let both = sum_both (h x) (λ y. sum_by (λ z. h z y) xs) ys in
    let rest = turned h xs ys in
    omega (arith, left, right, both, rest)

filter_less : {X : Type 0} (w : X → ℕ) (p : X → Bool) (xs : List X) → sum_by w (filter p xs) ≤ sum_by w xs
filter_less w p [] = omega arith
filter_less w p (x ∷ xs) =
    let rest = filter_less w p xs in
    let whole = sum_by-cons w x xs in
    let own = sum_by-cons w x (filter p xs) in
    elim (p x) as (λ b. sum_by w (cond b (x ∷ filter p xs) (filter p xs)) ≤ sum_by w (x ∷ xs)) [ true ↦ omega (arith, rest, whole, own) | false ↦ omega (arith, rest, whole) ]

-- ---- different rights and their places

-- of different rights at most one is this one
none_equal : (f : RightNo → ℕ) (r : RightNo) (ids : List RightNo) → AllByRecursion (λ id. same_right r id ≡ false) ids → sum_by (λ id. cond (same_right r id) (f id) 0) ids ≡ 0
none_equal f r [] others = refl
none_equal f r (id ∷ ids) others =
    let whole = sum_by-cons (λ j. cond (same_right r j) (f j) 0) id ids in
    let own : cond (same_right r id) (f id) 0 ≡ 0 = ap (λ b. cond b (f id) 0) others.0 in
    omega (arith, whole, own, none_equal f r ids others.1)

one_equal : (f : RightNo → ℕ) (r : RightNo) (ids : List RightNo) → IsDistinct same_right ids → sum_by (λ id. cond (same_right r id) (f id) 0) ids ≤ f r
one_equal f r [] differ = omega arith
one_equal f r (id ∷ ids) differ =
    let whole = sum_by-cons (λ j. cond (same_right r j) (f j) 0) id ids in
    let rest = one_equal f r ids (IsDistinct-tail same_right id ids differ) in
    let sum : cond (same_right r id) (f id) 0 + sum_by (λ j. cond (same_right r j) (f j) 0) ids ≤ f r =
    elim (same_right r id) as (λ b. same_right r id ≡ b → cond b (f id) 0 + sum_by (λ j. cond (same_right r j) (f j) 0) ids ≤ f r) [
      | true ↦ λ own.
          let same = right_is r id own in
          let none = none_equal f r ids (subst (λ z. AllByRecursion (λ j. same_right z j ≡ false) ids) (sym same) (IsDistinct-head same_right id ids differ)) in
          let here : f r ≡ f id = ap f same in
          omega (arith, none, here)
      | false ↦ λ _. omega (arith, rest)
    ] refl in
    omega (arith, whole, sum)

-- a right that keeps its place has one place among those that are not dropped
has_place : (f : RightNo → ℕ) (r : RightNo) (places : List Place) → keeps_place places r ≡ true → f r ≤ sum_by (λ p. cond (same_right p.right r) (f r) 0) (filter (λ p. not p.dropped) places)
has_place f r [] kept = absurd (false≢true kept)
has_place f r (p ∷ ps) kept =
    let own : Place → ℕ = λ q. cond (same_right q.right r) (f r) 0 in
    let rest = filter (λ (q : Place). not q.dropped) ps in
    let whole = sum_by-cons own p rest in
    elim p.dropped as (λ d. ((same_right p.right r && not d) || keeps_place ps r) ≡ true → f r ≤ sum_by own (cond (not d) (p ∷ rest) rest)) [
      | true ↦ λ h. has_place f r ps (behind (same_right p.right r) (keeps_place ps r) h)
      | false ↦ λ h.
          elim (same_right p.right r) as (λ b. same_right p.right r ≡ b → ((b && true) || keeps_place ps r) ≡ true → f r ≤ sum_by own (p ∷ rest)) [
            | true ↦ λ is _. let here : own p ≡ f r = ap (λ b. cond b (f r) 0) is in omega (arith, whole, here)
            | false ↦ λ _ g. let later = has_place f r ps g in omega (arith, whole, later)
          ] refl h
    ] kept
  where
    behind : (b c : Bool) → ((b && false) || c) ≡ true → c ≡ true
    behind true c h = h
    behind false c h = h

rights_within : (f : RightNo → ℕ) (ids : List RightNo) (places : List Place) → IsDistinct same_right ids → AllByRecursion (λ id. keeps_place places id ≡ true) ids
    → sum_by f ids ≤ sum_by (λ p. f p.right) (filter (λ p. not p.dropped) places)
rights_within f ids places differ kept =
    let among = filter (λ (p : Place). not p.dropped) places in
    let h : RightNo → Place → ℕ = λ id p. cond (same_right p.right id) (f id) 0 in
    let first = each ids kept in
    let second = turned h ids among in
    let third = sum_less (λ (p : Place). sum_by (λ id. h id p) ids) (λ p. f p.right) among (λ p there. one_equal f p.right ids differ) in
    omega (arith, first, second, third)
  where
    each : (xs : List RightNo) → AllByRecursion (λ id. keeps_place places id ≡ true) xs
        → sum_by f xs ≤ sum_by (λ id. sum_by (λ (p : Place). cond (same_right p.right id) (f id) 0) (filter (λ (p : Place). not p.dropped) places)) xs
    each [] all = omega arith
    each (x ∷ xs) all =
        let g : RightNo → ℕ = λ id. sum_by (λ (p : Place). cond (same_right p.right id) (f id) 0) (filter (λ (p : Place). not p.dropped) places) in
        let one = sum_by-cons f x xs in
        let two = sum_by-cons g x xs in
        let here = has_place f x places all.0 in
        let rest = each xs all.1 in
        omega (arith, one, two, here, rest)

-- ---- what the members of the groups get

-- the places of these groups
abbrev members : List (List Place) → List Place
members gs = flat_map (λ g. g) gs

-- the first of these groups that has the right
abbrev group_in : List (List Place) → RightNo → List Place
group_in gs right = option_map_or (λ g. g) (find (list_any (is_of right)) gs) []

members_first : (p : Place) (gs : List (List Place)) → members (with_first p gs) ≡ p ∷ members gs
members_first p [] = refl
members_first p (g ∷ gs) = refl

members_are : (places : List Place) → members (groups places) ≡ places
members_are [] = refl
members_are (p ∷ ps) =
    elim (joins ps) as (λ b. members (cond b (with_first p (groups ps)) ((p ∷ []) ∷ groups ps)) ≡ p ∷ ps) [
      | true ↦ members_first p (groups ps) ∙ ap (λ qs. p ∷ qs) (members_are ps)
      | false ↦ ap (λ qs. p ∷ qs) (members_are ps)
    ]

-- what a member gets of those of these cents that are its group's
abbrev part_of : List RightNo → List Place → RightNo → ℕ
part_of cs group right = share_in_group group right (count_by (is_of_group group) cs)

-- the members of a group get together no more than its cents
group_part : (cs : List RightNo) (g : List Place) → AreOnce g → sum_by (λ p. part_of cs g p.right) g ≤ counted (is_of_group g) cs
group_part cs g once =
    let count = counted_is (is_of_group g) cs in
    let part = members_share (count_by (is_of_group g) cs) g once in
    omega (arith, count, part)

any_of_place : (p : Place) (g : List Place) → In p g → list_any (is_of p.right) g ≡ true
any_of_place p [] there = absurd there
any_of_place p (q ∷ qs) (inl here) = or_left (same_right q.right p.right) (list_any (is_of p.right) qs) (ap (λ (x : Place). same_right x.right p.right) here ∙ right_self p.right)
any_of_place p (q ∷ qs) (inr there) = or_right (same_right q.right p.right) (list_any (is_of p.right) qs) (any_of_place p qs there)

-- a right that is in one of these groups is not in the one before them
apart_groups : (g : List Place) (gs : List (List Place)) (a : RightNo) → AreOnce (g ++ members gs) → list_any (is_of a) (members gs) ≡ true → list_any (is_of a) g ≡ false
apart_groups g gs a once there =
    let both = counted_both (is_of a) g (members gs) in
    let some = some_counted (is_of a) (members gs) there in
    let few = once a in
    none_from_count (is_of a) g (omega (arith, both, some, few))

once_first : (xs ys : List Place) → AreOnce (xs ++ ys) → AreOnce xs
once_first xs ys once a =
    let both = counted_both (is_of a) xs ys in
    let few = once a in
    omega (arith, both, few)

once_last : (xs ys : List Place) → AreOnce (xs ++ ys) → AreOnce ys
once_last xs ys once a =
    let both = counted_both (is_of a) xs ys in
    let few = once a in
    omega (arith, both, few)

-- the cents of the groups are apart
groups_apart : (g : List Place) (gs : List (List Place)) → AreOnce (g ++ members gs) → AreApart (is_of_group g) (is_of_group (members gs))
groups_apart g gs once c there = apart_groups g gs c once there

groups_part : (cs : List RightNo) (gs : List (List Place)) → AreOnce (members gs) → sum_by (λ p. part_of cs (group_in gs p.right) p.right) (members gs) ≤ counted (is_of_group (members gs)) cs
groups_part cs [] once = omega arith
groups_part cs (g ∷ gs) once =
    let part : Place → ℕ = λ p. part_of cs (group_in (g ∷ gs) p.right) p.right in
    let both = sum_by-append part g (members gs) in
    let first = sum_less part (λ p. part_of cs g p.right) g (λ p there. own p there) in
    let own_part = group_part cs g (once_first g (members gs) once) in
    let second = sum_less part (λ p. part_of cs (group_in gs p.right) p.right) (members gs) (λ p there. other p there) in
    let rest = groups_part cs gs (once_last g (members gs) once) in
    let either = counted_either (is_of_group g) (is_of_group (members gs)) (groups_apart g gs once) cs in
    let joined = counted_agree (is_of_group (g ++ members gs)) (λ c. is_of_group g c || is_of_group (members gs) c) (λ c. list_any-append (is_of c) g (members gs)) cs in
    omega (arith, both, first, own_part, second, rest, either, joined)
  where
    own : (p : Place) → In p g → part_of cs (group_in (g ∷ gs) p.right) p.right ≤ part_of cs g p.right
    own p there =
        let same : group_in (g ∷ gs) p.right ≡ g = ap (λ b. option_map_or (λ h. h) (cond b (Some g) (find (list_any (is_of p.right)) gs)) []) (any_of_place p g there) in
        let equal = ap (λ h. part_of cs h p.right) same in
        omega (arith, equal)

    other : (p : Place) → In p (members gs) → part_of cs (group_in (g ∷ gs) p.right) p.right ≤ part_of cs (group_in gs p.right) p.right
    other p there =
        let none = apart_groups g gs p.right once (any_of_place p (members gs) there) in
        let same : group_in (g ∷ gs) p.right ≡ group_in gs p.right = ap (λ b. option_map_or (λ h. h) (cond b (Some g) (find (list_any (is_of p.right)) gs)) []) none in
        let equal = ap (λ h. part_of cs h p.right) same in
        omega (arith, equal)

-- ---- all rights of the line

take_few : {X : Type 0} (n : ℕ) (xs : List X) → length (take n xs) ≤ n
take_few zero xs = omega arith
take_few (suc n) [] = omega arith
take_few (suc n) (x ∷ xs) = let few = take_few n xs in omega (arith, few)

line_pay_within : (filled : Filled) (t : ℕ) → AreDifferent filled.places → sum_by (λ p. line_pay filled p.right t) filled.places ≤ t
line_pay_within filled t differ =
    let cs = take t (line filled) in
    let gs = groups filled.places in
    let are = members_are filled.places in
    let once : AreOnce (members gs) = subst AreOnce (sym are) (λ a. places_few a filled.places differ) in
    let part = groups_part cs gs once in
    let same = ap (sum_by (λ (p : Place). line_pay filled p.right t)) are in
    let count = counted_within (is_of_group (members gs)) cs in
    let few = take_few t (line filled) in
    omega (arith, part, same, count, few)

paid_within : (filled : Filled) (t : ℕ) → CanFill filled → paid_out filled t ≤ t
paid_within filled t fits =
    let out = all_handed_out filled t fits in
    let less = filter_less (λ (p : Place). line_pay filled p.right t) (λ p. not p.dropped) filled.places in
    let plain = line_pay_within filled t fits.places.distinct in
    omega (arith, out, less, plain)

-- different rights that keep their places get no more than the sum together
pub rights_paid : (filled : Filled) (ids : List RightNo) (t : ℕ) → CanFill filled → IsDistinct same_right ids → All (λ id. keeps_place filled.places id ≡ true) ids → sum_by (λ id. pay filled id t) ids ≤ t
rights_paid filled ids t fits differ kept =
    let among = rights_within (λ id. pay filled id t) ids filled.places differ (recursion_from_All (λ id. keeps_place filled.places id ≡ true) ids kept) in
    let within = paid_within filled t fits in
    omega (arith, among, within)
