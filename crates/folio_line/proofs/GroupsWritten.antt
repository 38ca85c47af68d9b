-- Rights in order, written place by place, are their groups written out; and the groups of what is written out are those.
use Rattle.std.proofs.Common.{◌≡◌, ℕ, zero, suc, ◌+◌, Bool, true, false, cond, eqb, nat_lt, ◌&&◌, ◌||◌, List, [], ◌∷◌, ◌++◌, filter, flat_map, map, IfSome, Option, Some, None, refl, sym, ap, subst, ◌∙◌, arith}
use Rattle.std.specs.List.{AllByRecursion, range_with_len}
use Rattle.std.proofs.lemmas.Bool.Decides.{nat_tests}
use Rattle.std.proofs.lemmas.List.Concat.{flat_map-append}
use Rattle.gb_base.specs.RightNo.{RightNo}
use Rattle.gb_base.specs.declared.keys.Key.{Key}
use Rattle.gb_base.proofs.Members.{In}
use Rattle.folio_sections.specs.HeldRights.{last_number, receipt_numbers}
use Rattle.folio_sections.specs.declared.entries.Entry.{Entry}
use Rattle.folio_sections.proofs.FilteredLists.{all_in, of_filter}
use Rattle.folio_sections.proofs.ReceiptNumbers.{numbers_are}
use Rattle.rank_slots.specs.Groups.{groups, joins, with_first}
use Rattle.rank_slots.specs.declared.places.Place.{Place}
use Rattle.folio_line.specs.FolioRights.{by_group, groups_where, has_group, has_same_place, in_groups, rights_of, rights_where}
use Rattle.folio_line.specs.FolioSlots.{group_places, place_on_line}
use Rattle.folio_line.specs.inner.PlaceByPlace.{joins_place, place_behind, places_behind}
use Rattle.folio_line.specs.declared.folio_rights.CreatedRight.{CreatedRight}
use Rattle.folio_line.proofs.PlacedOrder.{of_filing}

-- ---- a group

-- the right is of group k of filing m
abbrev IsOfGroup : ℕ → ℕ → CreatedRight → Type 0
IsOfGroup m k x = (x.id.receipt ≡ m) × (has_group k x ≡ true)

-- the right is of an earlier filing than m, or of an earlier group of it than k
abbrev is_past : ℕ → ℕ → CreatedRight → Bool
is_past m k x = nat_lt x.id.receipt m || (eqb x.id.receipt m && nat_lt x.made.spec.group k)

-- the right before, if there is one, is of an earlier filing than m, or of an earlier group of it than k
abbrev IsPast : ℕ → ℕ → Option CreatedRight → Type 0
IsPast m k before = IfSome before (λ x. is_past m k x ≡ true)

-- rights of one group have one place, and rights of two groups do not
one_place : (m k : ℕ) (x y : CreatedRight) → IsOfGroup m k x → IsOfGroup m k y → has_same_place x y ≡ true
one_place m k x y first second = grind (arith, nat_tests, first.0, first.1, second.0, second.1)

two_places : (m k : ℕ) (x y : CreatedRight) → is_past m k x ≡ true → IsOfGroup m k y → has_same_place x y ≡ false
two_places m k x y past own = grind (arith, nat_tests, past, own.0, own.1)

begins_group : (m k : ℕ) (before : Option CreatedRight) (x : CreatedRight) → IsPast m k before → IsOfGroup m k x → joins_place before x ≡ false
begins_group m k None x past own = refl
begins_group m k (Some b) x past own = two_places m k b x past own

-- behind a right of the group, all rights of it join
joined : (claims : RightNo → ℕ) (gone : RightNo → Bool) (m k : ℕ) (b : CreatedRight) (xs : List CreatedRight) → IsOfGroup m k b → AllByRecursion (IsOfGroup m k) xs
    → places_behind claims gone (Some b) xs ≡ map (place_on_line claims gone true) xs
joined claims gone m k b [] own all = refl
joined claims gone m k b (x ∷ xs) own all =
    let joins_it : has_same_place b x ≡ true = one_place m k b x own all.0 in
    let rest = joined claims gone m k x xs all.0 all.1 in
    λ i. place_on_line claims gone (joins_it i) x ∷ rest i

one_group : (claims : RightNo → ℕ) (gone : RightNo → Bool) (m k : ℕ) (before : Option CreatedRight) (xs : List CreatedRight) → IsPast m k before → AllByRecursion (IsOfGroup m k) xs
    → places_behind claims gone before xs ≡ group_places claims gone xs
one_group claims gone m k before [] past all = refl
one_group claims gone m k before (x ∷ xs) past all =
    let begins : joins_place before x ≡ false = begins_group m k before x past all.0 in
    let rest = joined claims gone m k x xs all.0 all.1 in
    λ i. place_on_line claims gone (begins i) x ∷ rest i

-- ---- one group after another

-- the last of these rights, or else the one before them
abbrev last_of : Option CreatedRight → List CreatedRight → Option CreatedRight
last_of before [] = before
last_of before (x ∷ xs) = last_of (Some x) xs

behind_append : (claims : RightNo → ℕ) (gone : RightNo → Bool) (before : Option CreatedRight) (xs ys : List CreatedRight)
    → places_behind claims gone before (xs ++ ys) ≡ places_behind claims gone before xs ++ places_behind claims gone (last_of before xs) ys
behind_append claims gone before [] ys = refl
behind_append claims gone before (x ∷ xs) ys = ap (λ ps. place_behind claims gone before x ∷ ps) (behind_append claims gone (Some x) xs ys)

last_append : (before : Option CreatedRight) (xs ys : List CreatedRight) → last_of before (xs ++ ys) ≡ last_of (last_of before xs) ys
last_append before [] ys = refl
last_append before (x ∷ xs) ys = last_append (Some x) xs ys

past_on : (m k : ℕ) (x : CreatedRight) → is_past m k x ≡ true → is_past m (k + 1) x ≡ true
past_on m k x past = grind (arith, nat_tests, past)

past_own : (m k : ℕ) (x : CreatedRight) → IsOfGroup m k x → is_past m (k + 1) x ≡ true
past_own m k x own = grind (arith, nat_tests, own.0, own.1)

past_filing : (m k : ℕ) (x : CreatedRight) → is_past m k x ≡ true → is_past (m + 1) 1 x ≡ true
past_filing m k x past = grind (arith, nat_tests, past)

group_past : (m k : ℕ) (before : Option CreatedRight) (xs : List CreatedRight) → IsPast m k before → AllByRecursion (IsOfGroup m k) xs → IsPast m (k + 1) (last_of before xs)
group_past m k before xs past all = behind xs before (next before past) all
  where
    next : (o : Option CreatedRight) → IsPast m k o → IsPast m (k + 1) o
    next None is = tt
    next (Some x) is = past_on m k x is

    behind : (ys : List CreatedRight) (o : Option CreatedRight) → IsPast m (k + 1) o → AllByRecursion (IsOfGroup m k) ys → IsPast m (k + 1) (last_of o ys)
    behind [] o is own = is
    behind (y ∷ ys) o is own = behind ys (Some y) (past_own m k y own.0) own.1

-- ---- the groups of a filing

-- What the groups of these numbers leave: they are written out, and the last of them is past.
record Written (claims : RightNo → ℕ) (gone : RightNo → Bool) (m k : ℕ) (before : Option CreatedRight) (rights : List CreatedRight) (in_order : List (List CreatedRight)) : Type 0 where
  places : places_behind claims gone before rights ≡ flat_map (group_places claims gone) in_order
  past : IsPast m k (last_of before rights)

-- the rights of a filing that are of a group
abbrev group_of : List CreatedRight → ℕ → List CreatedRight
group_of rights k = filter (has_group k) rights

of_group : (m k : ℕ) (rights : List CreatedRight) → ((x : CreatedRight) → In x rights → x.id.receipt ≡ m) → AllByRecursion (IsOfGroup m k) (group_of rights k)
of_group m k rights own =
    all_in (IsOfGroup m k) (group_of rights k) (λ x there. (own x (of_filter (has_group k) rights x there).0, (of_filter (has_group k) rights x there).1))

groups_written : (claims : RightNo → ℕ) (gone : RightNo → Bool) (m : ℕ) (rights : List CreatedRight) (from many : ℕ) (before : Option CreatedRight)
    → ((x : CreatedRight) → In x rights → x.id.receipt ≡ m) → IsPast m from before
    → Written claims gone m (from + many) before (flat_map (group_of rights) (range_with_len from many)) (map (group_of rights) (range_with_len from many))
groups_written claims gone m rights from zero before own past =
    let same : from ≡ from + 0 = omega arith in
    record { places = refl; past = subst (λ k. IsPast m k before) same past }
groups_written claims gone m rights from (suc many) before own past =
    let here = group_of rights from in
    let behind = flat_map (group_of rights) (range_with_len (from + 1) many) in
    let of_here = of_group m from rights own in
    let one = one_group claims gone m from before here past of_here in
    let rest = groups_written claims gone m rights (from + 1) many (last_of before here) own (group_past m from before here past of_here) in
    let same : from + 1 + many ≡ from + suc many = omega arith in
    let last : IsPast m (from + 1 + many) (last_of before (here ++ behind)) = subst (IsPast m (from + 1 + many)) (sym (last_append before here behind)) rest.past in
    record {
      places = behind_append claims gone before here behind ∙ (λ i. one i ++ rest.places i);
      past = subst (λ k. IsPast m k (last_of before (here ++ behind))) same last;
    }

-- ---- the groups of all filings

filings_written : (claims : RightNo → ℕ) (gone : RightNo → Bool) (f : ℕ → List CreatedRight) (from many : ℕ) (before : Option CreatedRight)
    → ((m : ℕ) (x : CreatedRight) → In x (f m) → x.id.receipt ≡ m) → IsPast from 1 before
    → places_behind claims gone before (flat_map (λ m. by_group (f m)) (range_with_len from many)) ≡ flat_map (group_places claims gone) (flat_map (λ m. in_groups (f m)) (range_with_len from many))
filings_written claims gone f from zero before own past = refl
filings_written claims gone f from (suc many) before own past =
    let here = by_group (f from) in
    let behind = flat_map (λ m. by_group (f m)) (range_with_len (from + 1) many) in
    let one = groups_written claims gone from (f from) 1 8 before (own from) past in
    let rest = filings_written claims gone f (from + 1) many (last_of before here) own (next (last_of before here) one.past) in
    behind_append claims gone before here behind ∙ (λ i. one.places i ++ rest i)
    ∙ sym (flat_map-append (group_places claims gone) (in_groups (f from)) (flat_map (λ m. in_groups (f m)) (range_with_len (from + 1) many)))
  where
    next : (o : Option CreatedRight) → IsPast from 9 o → IsPast (from + 1) 1 o
    next None is = tt
    next (Some x) is = past_filing from 9 x is

row_written : (claims : RightNo → ℕ) (gone : RightNo → Bool) (f : ℕ → List CreatedRight) (n : ℕ) (ms : List ℕ) → ((m : ℕ) (x : CreatedRight) → In x (f m) → x.id.receipt ≡ m) → ms ≡ range_with_len 1 n
    → places_behind claims gone None (flat_map (λ m. by_group (f m)) ms) ≡ flat_map (group_places claims gone) (flat_map (λ m. in_groups (f m)) ms)
row_written claims gone f n ms own is =
    subst (λ ks. places_behind claims gone None (flat_map (λ m. by_group (f m)) ks) ≡ flat_map (group_places claims gone) (flat_map (λ m. in_groups (f m)) ks)) (sym is)
    (filings_written claims gone f 1 n None own tt)

pub line_written : (claims : RightNo → ℕ) (gone : RightNo → Bool) (holds : RightNo → List Entry → Bool) (at : Key → List Entry) (folio : ℕ)
    → places_behind claims gone None (rights_where holds at folio) ≡ flat_map (group_places claims gone) (groups_where holds at folio)
line_written claims gone holds at folio =
    row_written claims gone (rights_of holds at folio) last_number receipt_numbers (λ m x there. (of_filing holds at folio m x there).filing) numbers_are

-- ---- the groups of what is written out

-- a group of places, where there is one
abbrev lone : List Place → List (List Place)
lone [] = []
lone (p ∷ ps) = (p ∷ ps) ∷ []

begins_none : (claims : RightNo → ℕ) (gone : RightNo → Bool) (gs : List (List CreatedRight)) → joins (flat_map (group_places claims gone) gs) ≡ false
begins_none claims gone [] = refl
begins_none claims gone ([] ∷ gs) = begins_none claims gone gs
begins_none claims gone ((x ∷ xs) ∷ gs) = refl

first_group : (claims : RightNo → ℕ) (gone : RightNo → Bool) (p : Place) (xs : List CreatedRight) (ps : List Place) → joins ps ≡ false
    → groups (p ∷ map (place_on_line claims gone true) xs ++ ps) ≡ (p ∷ map (place_on_line claims gone true) xs) ∷ groups ps
first_group claims gone p [] ps ends = ap (λ b. cond b (with_first p (groups ps)) ((p ∷ []) ∷ groups ps)) ends
first_group claims gone p (x ∷ xs) ps ends = ap (with_first p) (first_group claims gone (place_on_line claims gone true x) xs ps ends)

-- the groups of places that are written out are the groups that have a member
pub groups_back : (claims : RightNo → ℕ) (gone : RightNo → Bool) (gs : List (List CreatedRight))
    → groups (flat_map (group_places claims gone) gs) ≡ flat_map (λ g. lone (group_places claims gone g)) gs
groups_back claims gone [] = refl
groups_back claims gone ([] ∷ gs) = groups_back claims gone gs
groups_back claims gone ((x ∷ xs) ∷ gs) =
    first_group claims gone (place_on_line claims gone false x) xs (flat_map (group_places claims gone) gs) (begins_none claims gone gs)
    ∙ ap (λ rest. group_places claims gone (x ∷ xs) ∷ rest) (groups_back claims gone gs)
