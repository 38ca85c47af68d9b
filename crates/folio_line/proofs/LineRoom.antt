-- Room for as many exchanges as those by which one of all rights rises is enough for those that count.
use Rattle.std.proofs.Common.{◌≡◌, ℕ, zero, suc, ◌+◌, ◌≤◌, Bool, true, false, cond, List, [], ◌∷◌, ◌++◌, length, filter, filter_map, flat_map, Option, Some, None, refl, sym, ap, subst, ◌∙◌, arith}
use Rattle.std.specs.List.{cons_option}
use Rattle.std.proofs.lemmas.Bool.Decides.{nat_tests}
use Rattle.std.proofs.lemmas.List.{length-append}
use Rattle.std.proofs.lemmas.List.Concat.{flat_map-append}
use Rattle.gb_base.specs.RightNo.{RightNo}
use Rattle.gb_base.specs.declared.keys.Key.{Key}
use Rattle.gb_base.specs.declared.keys.Key.TheVariants.{Right}
use Rattle.folio_sections.specs.HeldRights.{receipt_numbers}
use Rattle.folio_sections.specs.declared.entries.Entry.{Entry}
use Rattle.folio_line.specs.AllRights.{AreAllRights}
use Rattle.folio_line.specs.Exchanges.{counted_at, keeps_cents}
use Rattle.folio_line.specs.FolioLine.{all_rises, rises_of}
use Rattle.folio_line.specs.FolioRights.{by_group, has_group, is_live_with, live_rights, rights_of}
use Rattle.folio_line.specs.declared.exchanges.Exchange.{Exchange}
use Rattle.folio_line.specs.declared.folio_rights.CreatedRight.{CreatedRight}
use Rattle.folio_line.specs.inner.RightWalk.{right_found}
use Rattle.folio_line.specs.inner.Turns.{has_turn}
use Rattle.folio_line.proofs.GroupedRights.{grouped, passed_group}
use Rattle.folio_line.proofs.RightWalks.{found_at_number, walk_is}

pub filter_few : {X : Type 0} (p : X → Bool) (xs : List X) → length (filter p xs) ≤ length xs
filter_few p [] = omega arith
filter_few p (x ∷ xs) =
    let rest = filter_few p xs in
    elim (p x) as (λ b. length (cond b (x ∷ filter p xs) (filter p xs)) ≤ length (x ∷ xs)) [ true ↦ omega (arith, rest) | false ↦ omega (arith, rest) ]

pub given_few : {X Y : Type 0} (h : X → Option Y) (xs : List X) → length (filter_map h xs) ≤ length xs
given_few h [] = omega arith
given_few h (x ∷ xs) =
    let rest = given_few h xs in
    elim (h x) as (λ o. length (cons_option o (filter_map h xs)) ≤ length (x ∷ xs)) [ None ↦ omega (arith, rest) | Some y ↦ omega (arith, rest) ]

-- ---- the rights by group bring no more exchanges

one_more : {Y : Type 0} (g : CreatedRight → List Y) (x : CreatedRight) (xs : List CreatedRight) (from many : ℕ)
    → length (flat_map g (grouped (x ∷ xs) from many)) ≤ length (g x) + length (flat_map g (grouped xs from many))
one_more g x xs from zero = omega arith
one_more g x xs from (suc many) =
    let here = filter (has_group from) xs in
    let rest = grouped xs (from + 1) many in
    let next = grouped (x ∷ xs) (from + 1) many in
    elim (has_group from x) as (λ b. has_group from x ≡ b → length (flat_map g (cond b (x ∷ here) here ++ next)) ≤ length (g x) + length (flat_map g (here ++ rest))) [
      | true ↦ λ is.
          let same = passed_group x xs (from + 1) many (grind (arith, nat_tests, is)) in
          let whole = length-append (g x) (flat_map g (here ++ rest)) in
          subst (λ ys. length (flat_map g (x ∷ here ++ ys)) ≤ length (g x) + length (flat_map g (here ++ rest))) (sym same) (omega (arith, whole))
      | false ↦ λ is.
          let more = one_more g x xs (from + 1) many in
          let left = ap length (flat_map-append g here next) ∙ length-append (flat_map g here) (flat_map g next) in
          let right = ap length (flat_map-append g here rest) ∙ length-append (flat_map g here) (flat_map g rest) in
          omega (arith, more, left, right)
    ] refl

by_group_few : {Y : Type 0} (g : CreatedRight → List Y) (xs : List CreatedRight) → length (flat_map g (by_group xs)) ≤ length (flat_map g xs)
by_group_few g [] = omega arith
by_group_few g (x ∷ xs) =
    let more = one_more g x xs 1 8 in
    let few = by_group_few g xs in
    let whole = length-append (g x) (flat_map g xs) in
    omega (arith, more, few, whole)

all_by_group_few : {Y : Type 0} (g : CreatedRight → List Y) (f : ℕ → List CreatedRight) (ms : List ℕ) → length (flat_map g (flat_map (λ m. by_group (f m)) ms)) ≤ length (flat_map g (flat_map f ms))
all_by_group_few g f [] = omega arith
all_by_group_few g f (m ∷ ms) =
    let here = by_group_few g (f m) in
    let others = all_by_group_few g f ms in
    let left = ap length (flat_map-append g (by_group (f m)) (flat_map (λ n. by_group (f n)) ms)) ∙ length-append (flat_map g (by_group (f m))) (flat_map g (flat_map (λ n. by_group (f n)) ms)) in
    let right = ap length (flat_map-append g (f m) (flat_map f ms)) ∙ length-append (flat_map g (f m)) (flat_map g (flat_map f ms)) in
    omega (arith, here, others, left, right)

-- ---- the rights that a walk finds bring no more

found_few : {Y : Type 0} (g : RightNo → List Y) (find : RightNo → Option CreatedRight) (ids : List RightNo) → ((id : RightNo) (x : CreatedRight) → find id ≡ Some x → x.id ≡ id)
    → length (flat_map (λ x. g x.id) (filter_map find ids)) ≤ length (flat_map g ids)
found_few g find [] own = omega arith
found_few {Y} g find (id ∷ ids) own =
    let rest = found_few g find ids own in
    let whole = length-append (g id) (flat_map g ids) in
    elim (find id) as (λ o. find id ≡ o → length (flat_map (λ x. g x.id) (cons_option o (filter_map find ids))) ≤ length (flat_map g (id ∷ ids))) [
      | None ↦ λ _. omega (arith, rest, whole)
      | Some x ↦ λ is.
          let here : length (g x.id) ≡ length (g id) = ap (λ k. length (g k)) (own id x is) in
          let first = length-append (g x.id) (flat_map (λ (y : CreatedRight). g y.id) (filter_map find ids)) in
          omega (arith, rest, whole, here, first)
    ] refl

-- each right brings no more exchanges that count than it has
counted_few : (at : Key → List Entry) (folio : ℕ) (xs : List CreatedRight) → length (flat_map (counted_at at folio) xs) ≤ length (flat_map (λ x. rises_of at folio x.id) xs)
counted_few at folio [] = omega arith
counted_few at folio (x ∷ xs) =
    let rest = counted_few at folio xs in
    let here = filter_few (λ (y : Exchange). keeps_cents (at (Right folio y.recede))) (rises_of at folio x.id) in
    let left = length-append (counted_at at folio x) (flat_map (counted_at at folio) xs) in
    let right = length-append (rises_of at folio x.id) (flat_map (λ (y : CreatedRight). rises_of at folio y.id) xs) in
    omega (arith, rest, here, left, right)

-- ---- together

pub exchanges_fit : (at : Key → List Entry) (folio : ℕ) (ids : List RightNo) → AreAllRights ids at folio
    → length (filter has_turn (flat_map (counted_at at folio) (live_rights at folio))) ≤ length (all_rises at folio ids)
exchanges_fit at folio ids all =
    let rises : CreatedRight → List Exchange = λ x. rises_of at folio x.id in
    let few = filter_few has_turn (flat_map (counted_at at folio) (live_rights at folio)) in
    let counted = counted_few at folio (live_rights at folio) in
    let by = all_by_group_few rises (rights_of is_live_with at folio) receipt_numbers in
    let walk = ap (λ xs. length (flat_map rises xs)) (walk_is is_live_with at folio ids all) in
    let found = found_few (rises_of at folio) (right_found is_live_with at folio) ids (found_at_number is_live_with at folio) in
    omega (arith, few, counted, by, walk, found)
