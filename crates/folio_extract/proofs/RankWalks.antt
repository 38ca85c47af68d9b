-- Where rights stand in the order of filing and group, the walk finds the rank of each.
use Rattle.std.proofs.Common.{◌≡◌, ℕ, ◌+◌, Bool, true, false, ◌||◌, List, [], ◌∷◌, ◌++◌, filter, flat_map, Some, None, refl, sym, ap, ◌∙◌, ⊎_elim, arith}
use Rattle.std.specs.List.{AllByRecursion, list_any}
use Rattle.std.proofs.lemmas.Bool.{cases_Bool, cond-false, cond-true}
use Rattle.folio_sections.specs.declared.title_places.TitlePlace.{TitlePlace}
use Rattle.folio_sections.proofs.FilteredLists.{filter_alike, filter_none, filter_skips, filter_takes, flat_map_alike, none_left}
use Rattle.folio_sections.proofs.Unchanged.{all_weaker}
use Rattle.folio_line.specs.FolioRights.{has_same_place}
use Rattle.folio_line.specs.RightRanks.{different_places, rank_of, stands_ahead}
use Rattle.folio_extract.specs.RankTables.{rank_line, rank_lines}
use Rattle.folio_line.specs.inner.RightOrder.{Ascends, is_filed_before}
use Rattle.folio_extract.specs.inner.RankWalk.{rank_behind, ranked_lines}
use Rattle.folio_line.specs.declared.folio_rights.CreatedRight.{CreatedRight}
use Rattle.folio_line.proofs.RightOrder.{before_later, before_like, before_not_same, before_on, before_self}

-- how many different places stand before the right
abbrev places_before : List CreatedRight → CreatedRight → ℕ
places_before xs y = different_places (filter (λ x. is_filed_before x y) xs)

one_more_place : (b : CreatedRight) (xs : List CreatedRight) → list_any (has_same_place b) xs ≡ false → different_places (b ∷ xs) ≡ different_places xs + 1
one_more_place b xs fails = cond-false (list_any (has_same_place b) xs) _ _ fails

no_more_place : (b : CreatedRight) (xs : List CreatedRight) → list_any (has_same_place b) xs ≡ true → different_places (b ∷ xs) ≡ different_places xs
no_more_place b xs is = cond-true (list_any (has_same_place b) xs) _ _ is

-- no place stands before the first right
none_before : (x : CreatedRight) (xs : List CreatedRight) → AllByRecursion (λ y. is_filed_before y x ≡ false) xs → places_before (x ∷ xs) x ≡ 0
none_before x xs up = ap different_places (filter_none (λ y. is_filed_before y x) (x ∷ xs) (before_self x, up))

-- a right of the same place before the first changes no rank
place_again : (b x y : CreatedRight) (xs : List CreatedRight) → has_same_place b x ≡ true → places_before (b ∷ x ∷ xs) y ≡ places_before (x ∷ xs) y
place_again b x y xs same =
    let p : CreatedRight → Bool = λ z. is_filed_before z y in
    ⊎_elim
    (λ is.
    let there : is_filed_before x y ≡ true = sym (before_like b x y same) ∙ is in
    let next = filter_takes p x xs there in
    ap different_places (filter_takes p b (x ∷ xs) is ∙ ap (λ ys. b ∷ ys) next)
    ∙ no_more_place b (x ∷ filter p xs) (ap (λ t. t || list_any (has_same_place b) (filter p xs)) same)
    ∙ ap different_places (sym next))
    (λ fails. ap different_places (filter_skips p b (x ∷ xs) fails))
    (cases_Bool (is_filed_before b y))

-- a right of another place before the first adds one place before each further right
place_more : (b x y : CreatedRight) (xs : List CreatedRight) → is_filed_before b x ≡ true → AllByRecursion (λ z. is_filed_before z x ≡ false) xs → is_filed_before y x ≡ false
    → places_before (b ∷ x ∷ xs) y ≡ places_before (x ∷ xs) y + 1
place_more b x y xs before up later =
    let p : CreatedRight → Bool = λ z. is_filed_before z y in
    let others : AllByRecursion (λ z. has_same_place b z ≡ false) xs =
    all_weaker (λ z. is_filed_before z x ≡ false) (λ z. has_same_place b z ≡ false) xs (λ z not_before. before_not_same b z (before_on b x z before not_before)) up in
    ap different_places (filter_takes p b (x ∷ xs) (before_on b x y before later))
    ∙ one_more_place b (filter p (x ∷ xs)) (none_left p (has_same_place b) (x ∷ xs) (before_not_same b x before, others))

-- the rank of a right is the same, computed from the right before the first or from the first
rank_on : (rank : ℕ) (b x y : CreatedRight) (xs : List CreatedRight) → is_filed_before x b ≡ false → AllByRecursion (λ z. is_filed_before z x ≡ false) xs → is_filed_before y x ≡ false
    → rank_behind rank (Some b) x + places_before (x ∷ xs) y ≡ rank + places_before (b ∷ x ∷ xs) y
rank_on rank b x y xs first up later =
    ⊎_elim
    (λ same. ap (λ n. n + places_before (x ∷ xs) y) (cond-true (has_same_place b x) rank (rank + 1) same) ∙ ap (λ n. rank + n) (sym (place_again b x y xs same)))
    (λ other.
    let more = place_more b x y xs (before_later b x first other) up later in
    ap (λ n. n + places_before (x ∷ xs) y) (cond-false (has_same_place b x) rank (rank + 1) other) ∙ omega (arith, more))
    (cases_Bool (has_same_place b x))

-- the walk, from any right on, gives the ranks
walked : (rank : ℕ) (b : CreatedRight) (xs : List CreatedRight) → Ascends (b ∷ xs) → ranked_lines rank (Some b) xs ≡ flat_map (λ y. rank_line (rank + places_before (b ∷ xs) y) y) xs
walked rank b [] up = refl
walked rank b (x ∷ xs) up =
    let next = rank_behind rank (Some b) x in
    let here : next ≡ rank + places_before (b ∷ x ∷ xs) x =
    omega (arith, none_before x xs up.1.0, rank_on rank b x x xs up.0.0 up.1.0 (before_self x)) in
    let same : flat_map (λ y. rank_line (next + places_before (x ∷ xs) y) y) xs ≡ flat_map (λ y. rank_line (rank + places_before (b ∷ x ∷ xs) y) y) xs =
    flat_map_alike (λ y. rank_line (next + places_before (x ∷ xs) y) y) (λ y. rank_line (rank + places_before (b ∷ x ∷ xs) y) y) xs
    (all_weaker (λ y. is_filed_before y x ≡ false) (λ y. rank_line (next + places_before (x ∷ xs) y) y ≡ rank_line (rank + places_before (b ∷ x ∷ xs) y) y) xs
    (λ y later. ap (λ n. rank_line n y) (rank_on rank b x y xs up.0.0 up.1.0 later)) up.1.0) in
    let rest = walked next x xs up.1 ∙ same in
    λ i. rank_line (here i) x ++ rest i

-- the walk over all rights gives the ranks
walked_all : (xs : List CreatedRight) → Ascends xs → ranked_lines 0 None xs ≡ flat_map (λ y. rank_line (1 + places_before xs y) y) xs
walked_all [] up = refl
walked_all (x ∷ xs) up =
    let here : 1 ≡ 1 + places_before (x ∷ xs) x = ap (λ n. 1 + n) (sym (none_before x xs up.0)) in
    let rest = walked 1 x xs up in
    λ i. rank_line (here i) x ++ rest i

-- the walk gives the ranks of the places, where the order of the places is that of filing and group
pub ranks_in_order : (standing : List TitlePlace) (xs : List CreatedRight) → Ascends xs
    → AllByRecursion (λ y. AllByRecursion (λ x. is_filed_before x y ≡ stands_ahead standing x y) xs) xs
    → ranked_lines 0 None xs ≡ rank_lines standing xs
ranks_in_order standing xs up order =
    walked_all xs up
    ∙ flat_map_alike (λ y. rank_line (1 + places_before xs y) y) (λ y. rank_line (rank_of standing xs y) y) xs
    (all_weaker (λ y. AllByRecursion (λ x. is_filed_before x y ≡ stands_ahead standing x y) xs) (λ y. rank_line (1 + places_before xs y) y ≡ rank_line (rank_of standing xs y) y) xs
    (λ y same. ap (λ ys. rank_line (1 + different_places ys) y) (filter_alike (λ x. is_filed_before x y) (λ x. stands_ahead standing x y) xs same)) order)
