-- The rights that the journal has filed in a folio, and those that are held of it, are all that it ever had.
use Rattle.std.proofs.Common.{◌≡◌, ℕ, zero, suc, ◌+◌, ◌<◌, ◌≤◌, Bool, true, false, cond, nat_lt, List, [], ◌∷◌, filter, take, length, get_or, IfSome, IsSome, IsSomeAnd, Option, Some, None, option_and_then, option_map, inl, inr, refl, sym, subst, arith}
use Rattle.std.specs.List.{AllByRecursion, IsDistinct, position}
use Rattle.std.proofs.lemmas.Bool.{cond-false, false≢true}
use Rattle.std.proofs.lemmas.Bool.Decides.{nat_tests}
use Rattle.std.proofs.lemmas.List.Elements.{recursion_from_All}
use Rattle.std.proofs.lemmas.List.Quantifiers.{position-Some}
use Rattle.gb_base.specs.RightNo.{RightNo, same_right}
use Rattle.gb_base.specs.declared.keys.Key.{Key}
use Rattle.gb_base.specs.declared.keys.Key.TheVariants.{Right}
use Rattle.gb_base.proofs.Members.{In}
use Rattle.gb_base.proofs.SameRights.{right_is, right_self}
use Rattle.act_model.specs.Creations.{creations_in}
use Rattle.act_model.specs.Limits.{most_creations}
use Rattle.act_model.specs.Touches.{act_of_right}
use Rattle.act_model.specs.declared.receipts.Receipt.{Receipt}
use Rattle.act_model.specs.inner.CreationOrder.{is_from, Rises}
use Rattle.act_model.proofs.CreationOrder.{creations_rise}
use Rattle.folio_sections.specs.Fronts.{below}
use Rattle.folio_sections.specs.HeldRights.{held_rights, right_numbers}
use Rattle.folio_sections.specs.Rights.{created}
use Rattle.folio_sections.specs.declared.entries.Created.{Created}
use Rattle.folio_sections.specs.declared.entries.Entry.{Entry}
use Rattle.folio_sections.specs.declared.entries.What.{What}
use Rattle.folio_sections.specs.declared.entries.What.TheVariants as what
use Rattle.folio_sections.proofs.DistinctLists.{distinct_filter}
use Rattle.folio_sections.proofs.FilteredLists.{all_filtered, all_in, any_in, in_all, in_filter, of_any, of_filter}
use Rattle.folio_sections.proofs.HeldRights.{is_up_to, numbers_rise}
use Rattle.folio_sections.proofs.Unchanged.{all_weaker}
use Rattle.kept_registers.specs.Kept.{Kept}
use Rattle.kept_registers.specs.KeptEntries.{IsCreatedInTime}
use Rattle.kept_registers.specs.KeptRights.{EntersAsFiled}
use Rattle.kept_registers.proofs.KeptOrder.{OfCreation, created_has}
use Rattle.folio_line.specs.AllRights.{AreAllRights, AscendByNumber, is_among, is_numbered_before, rights_filed}
use Rattle.folio_line.specs.FolioReading.{read_at, where_held}
use Rattle.folio_line.proofs.CreatedRights.{IsCreatedHere, enters_here}
use Rattle.folio_line.proofs.PlacedFew.{folio_is}

-- ---- lists of numbers in order

behind : (x y z : RightNo) → is_from x.receipt (x.act + 1) y ≡ true → is_from y.receipt (y.act + 1) z ≡ true → is_from x.receipt (x.act + 1) z ≡ true
behind x y z first second = grind (arith, nat_tests, first, second)

all_behind : (x : RightNo) (ys : List RightNo) → Rises x.receipt (x.act + 1) ys → AllByRecursion (λ y. is_from x.receipt (x.act + 1) y ≡ true) ys
all_behind x [] up = tt
all_behind x (y ∷ ys) up = (up.0, all_weaker (λ z. is_from y.receipt (y.act + 1) z ≡ true) (λ z. is_from x.receipt (x.act + 1) z ≡ true) ys (λ z second. behind x y z up.0 second) (all_behind y ys up.1))

before_it : (x y : RightNo) → is_from x.receipt (x.act + 1) y ≡ true → is_numbered_before x y ≡ true
before_it x y from = grind (arith, nat_tests, from)

ascend_of : (m a : ℕ) (ids : List RightNo) → Rises m a ids → AscendByNumber ids
ascend_of m a [] up = tt
ascend_of m a (x ∷ xs) up =
    (all_weaker (λ y. is_from x.receipt (x.act + 1) y ≡ true) (λ y. is_numbered_before x y ≡ true) xs (λ y from. before_it x y from) (all_behind x xs up.1), ascend_of x.receipt (x.act + 1) xs up.1)

-- where y is not up to x, x comes before y
up_to_or_before : (x y : RightNo) → is_up_to x y ≡ false → is_numbered_before x y ≡ true
up_to_or_before x y apart = grind (arith, nat_tests, apart)

ascend_of_distinct : (ids : List RightNo) → IsDistinct is_up_to ids → AscendByNumber ids
unfolding IsDistinct
ascend_of_distinct [] up = tt
ascend_of_distinct (x ∷ xs) up =
    (all_weaker (λ y. is_up_to x y ≡ false) (λ y. is_numbered_before x y ≡ true) xs (λ y apart. up_to_or_before x y apart) up.0, ascend_of_distinct xs up.1)

all_taken : {X : Type 0} (P : X → Type 0) (n : ℕ) (xs : List X) → AllByRecursion P xs → AllByRecursion P (take n xs)
all_taken P zero xs all = tt
all_taken P (suc n) [] all = tt
all_taken P (suc n) (x ∷ xs) all = (all.0, all_taken P n xs all.1)

ascend_taken : (n : ℕ) (ids : List RightNo) → AscendByNumber ids → AscendByNumber (take n ids)
ascend_taken zero ids up = tt
ascend_taken (suc n) [] up = tt
ascend_taken (suc n) (x ∷ xs) up = (all_taken (λ y. is_numbered_before x y ≡ true) n xs up.0, ascend_taken n xs up.1)

ascend_filtered : (p : RightNo → Bool) (ids : List RightNo) → AscendByNumber ids → AscendByNumber (filter p ids)
ascend_filtered p [] up = tt
ascend_filtered p (x ∷ xs) up =
    elim (p x) as (λ b. AscendByNumber (cond b (x ∷ filter p xs) (filter p xs))) [
      | true ↦ (all_filtered (λ y. is_numbered_before x y ≡ true) p xs up.0, ascend_filtered p xs up.1)
      | false ↦ ascend_filtered p xs up.1
    ]

first_ascend : (journal : List Receipt) (folio : ℕ) → AscendByNumber (rights_filed None journal folio)
first_ascend journal folio = ascend_taken most_creations (creations_in journal folio) (ascend_of 0 0 (creations_in journal folio) (creations_rise journal folio))

filed_ascend : (before : Option ℕ) (journal : List Receipt) (folio : ℕ) → AscendByNumber (rights_filed before journal folio)
filed_ascend None journal folio = first_ascend journal folio
filed_ascend (Some n) journal folio = ascend_filtered (λ id. nat_lt id.receipt n) (rights_filed None journal folio) (first_ascend journal folio)

-- ---- a right that was created is among the first

in_taken : (n i : ℕ) (ids : List RightNo) (d : RightNo) → i < length ids → i < n → In (get_or ids i d) (take n ids)
in_taken zero i ids d within less = absurd (omega (arith, less))
in_taken (suc n) i [] d within less = absurd (omega (arith, within))
in_taken (suc n) zero (x ∷ xs) d within less = inl refl
in_taken (suc n) (suc i) (x ∷ xs) d within less = inr (in_taken n i xs d (omega (arith, within)) (omega (arith, less)))

-- a right whose rank is at most n is among the first n
by_rank : (ids : List RightNo) (id : RightNo) (n : ℕ) → IsSomeAnd (option_map (λ k. k + 1) (position (same_right id) ids)) (λ k. k ≤ n) → is_among (take n ids) id ≡ true
by_rank ids id n rank =
    elim (position (same_right id) ids) as (λ o. position (same_right id) ids ≡ o → IsSomeAnd (option_map (λ k. k + 1) o) (λ k. k ≤ n) → is_among (take n ids) id ≡ true) [
      | None ↦ λ _ none. absurd none
      | Some i ↦ λ is few.
          let found = position-Some (same_right id) ids i id is in
          any_in (same_right id) (take n ids) (get_or ids i id) (in_taken n i ids id found.0 (omega (arith, few))) found.1
    ] refl rank

is_among_filed : (journal : List Receipt) (folio : ℕ) (id : RightNo) (made : Created) → IsCreatedHere journal folio id made → is_among (rights_filed None journal folio) id ≡ true
is_among_filed journal folio id made here =
    by_rank (creations_in journal folio) id most_creations
    (subst (λ o. IsSomeAnd (option_and_then (λ f. option_map (λ k. k + 1) (position (same_right id) (creations_in journal f))) o) (λ n. n ≤ most_creations))
    (folio_is folio made (act_of_right journal id) here.filed) here.rank)

-- ---- at each right

-- what holds of each creation at a right holds of the right as it was created
has_created : (P : Created → Type 0) (entries : List Entry) (made : Created) → AllByRecursion (λ e. OfCreation P e.what) entries → created entries ≡ Some made → P made
has_created P entries made all is = subst (λ o. IfSome o P) is (created_has P entries all)

creates_here : (journal : List Receipt) (at : Key → List Entry) (folio : ℕ) (id : RightNo) → Kept journal at → AllByRecursion (λ e. OfCreation (IsCreatedHere journal folio id) e.what) (at (Right folio id))
creates_here journal at folio id kept =
    all_weaker (λ (e : Entry). EntersAsFiled journal at folio id e.receipt e.what) (λ e. OfCreation (IsCreatedHere journal folio id) e.what) (at (Right folio id))
    (λ e enters. enters_here journal at folio id e.receipt e.what enters)
    (recursion_from_All (λ (e : Entry). EntersAsFiled journal at folio id e.receipt e.what) (at (Right folio id)) (kept.created_as_filed.filed folio id))

-- a right whose creation is by a receipt below n is of a filing below n
created_below : (folio n : ℕ) (id : RightNo) (receipt : ℕ) (w : What) → IsCreatedInTime receipt (Right folio id) w → nat_lt receipt n ≡ true → OfCreation (λ made. nat_lt id.receipt n ≡ true) w
created_below folio n id receipt (what.Created made) in_time under = grind (arith, nat_tests, in_time, under)
created_below folio n id receipt other in_time under = tt

creates_below : (journal : List Receipt) (at : Key → List Entry) (folio n : ℕ) (id : RightNo) → Kept journal at → AllByRecursion (λ e. OfCreation (λ made. nat_lt id.receipt n ≡ true) e.what) (below n (at (Right folio id)))
creates_below journal at folio n id kept =
    let key = Right folio id in
    let all = recursion_from_All (λ (e : Entry). IsCreatedInTime e.receipt key e.what) (at key) (kept.receipts_rise.created key) in
    all_in (λ (e : Entry). OfCreation (λ made. nat_lt id.receipt n ≡ true) e.what) (below n (at key))
    (λ e there.
    let from = of_filter (λ (d : Entry). nat_lt d.receipt n) (at key) e there in
    created_below folio n id e.receipt e.what (in_all (λ (d : Entry). IsCreatedInTime d.receipt key d.what) (at key) e all from.0) from.1)

some_made : {P : Type 0} (o : Option Created) → IsSome o → ((made : Created) → o ≡ Some made → P) → P
some_made None some then = absurd (false≢true some)
some_made (Some made) some then = then made refl

-- ---- so these are all the rights

-- the rights that the journal has filed are all
pub filed_are_all : (before : Option ℕ) (journal : List Receipt) (at : Key → List Entry) (folio : ℕ) → Kept journal at → AreAllRights (rights_filed before journal folio) (read_at before at) folio
filed_are_all before journal at folio kept = record {
  ascend = filed_ascend before journal folio;
  all = all_in (λ id. IsSome (created (read_at before at (Right folio id))) → is_among (rights_filed before journal folio) id ≡ true) right_numbers (λ id there. by before id);
}
  where
    whole : (id : RightNo) (made : Created) → IsCreatedHere journal folio id made → is_among (rights_filed None journal folio) id ≡ true
    whole id made here = is_among_filed journal folio id made here

    by : (o : Option ℕ) (id : RightNo) → IsSome (created (read_at o at (Right folio id))) → is_among (rights_filed o journal folio) id ≡ true
    by None id some =
        some_made (created (at (Right folio id))) some
        (λ made is. whole id made (has_created (IsCreatedHere journal folio id) (at (Right folio id)) made (creates_here journal at folio id kept) is))
    by (Some n) id some =
        some_made (created (below n (at (Right folio id)))) some
        (λ made is.
        let entries = at (Right folio id) in
        let first = rights_filed None journal folio in
        let earlier = all_filtered (λ (e : Entry). OfCreation (IsCreatedHere journal folio id) e.what) (λ e. nat_lt e.receipt n) entries (creates_here journal at folio id kept) in
        let among = of_any (same_right id) first (whole id made (has_created (IsCreatedHere journal folio id) (below n entries) made earlier is)) in
        let under = has_created (λ _. nat_lt id.receipt n ≡ true) (below n entries) made (creates_below journal at folio n id kept) is in
        any_in (same_right id) (filter (λ k. nat_lt k.receipt n) first) among.0
        (in_filter (λ (k : RightNo). nat_lt k.receipt n) first among.0 among.1 (subst (λ (k : RightNo). nat_lt k.receipt n ≡ true) (right_is id among.0 among.2) under)) among.2)

pub these_are_all : (o before : Option ℕ) (ids : List RightNo) (journal : List Receipt) (at : Key → List Entry) (folio : ℕ) → before ≡ o → ids ≡ rights_filed o journal folio → Kept journal at
    → AreAllRights ids (read_at before at) folio
these_are_all o before ids journal at folio is same kept =
    subst (λ b. AreAllRights ids (read_at b at) folio) (sym is) (subst (λ xs. AreAllRights xs (read_at o at) folio) (sym same) (filed_are_all o journal at folio kept))

-- the rights that are held are all, where nothing is read elsewhere
pub held_are_all : (before : Option ℕ) (holds : Key → Bool) (at : Key → List Entry) (folio : ℕ) → AreAllRights (held_rights holds folio) (read_at before (where_held holds at)) folio
held_are_all before holds at folio = record {
  ascend = ascend_of_distinct (held_rights holds folio) (distinct_filter is_up_to (λ id. holds (Right folio id)) right_numbers numbers_rise);
  all = all_in (λ id. IsSome (created (read_at before (where_held holds at) (Right folio id))) → is_among (held_rights holds folio) id ≡ true) right_numbers
      (λ id there some. any_in (same_right id) (held_rights holds folio) id (in_filter (λ k. holds (Right folio k)) right_numbers id there (held before id some)) (right_self id));
}
  where
    held : (o : Option ℕ) (id : RightNo) → IsSome (created (read_at o (where_held holds at) (Right folio id))) → holds (Right folio id) ≡ true
    held None id some =
        elim (holds (Right folio id)) as (λ b. IsSome (created (cond b (at (Right folio id)) [])) → b ≡ true) [ true ↦ λ _. refl | false ↦ λ none. absurd (false≢true none) ] some
    held (Some n) id some =
        elim (holds (Right folio id)) as (λ b. IsSome (created (below n (cond b (at (Right folio id)) []))) → b ≡ true) [ true ↦ λ _. refl | false ↦ λ none. absurd (false≢true none) ] some
