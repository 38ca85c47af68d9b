-- The rights of a folio of which a test holds: all that are created are among them, and they are at most as many as a line has places.
use Rattle.std.proofs.Common.{◌≡◌, ℕ, zero, suc, ◌+◌, ◌<◌, ◌≤◌, Bool, true, cond, List, [], ◌∷◌, filter, filter_map, length, IsSomeAnd, Option, Some, None, is_some, option_and_then, option_map, refl, sym, ap, subst, ◌∙◌, arith}
use Rattle.std.specs.List.{cons_option, position, range_with_len, slice_get}
use Rattle.std.proofs.lemmas.Bool.{eq-eqb}
use Rattle.std.proofs.lemmas.Bool.Decides.{nat_tests}
use Rattle.std.proofs.lemmas.Option.{get_or_from_slice_get, slice_get_within}
use Rattle.std.specs.declared.cmp.Ordering.TheVariants.{Equal}
use Rattle.gb_base.specs.Limits.{most_acts}
use Rattle.gb_base.specs.RightNo.{RightNo, same_right}
use Rattle.gb_base.specs.contracts.ids.RightIdOrd.TheImpl as rights
use Rattle.gb_base.specs.declared.keys.Key.{Key}
use Rattle.gb_base.specs.declared.keys.Key.TheVariants.{Right}
use Rattle.gb_base.proofs.Members.{In, in_flat_map, in_map, in_range}
use Rattle.act_model.specs.Acts.{folio_of}
use Rattle.act_model.specs.Creations.{creations_in, folio_of_creation}
use Rattle.act_model.specs.Limits.{most_groups}
use Rattle.act_model.specs.Receiving.{IsJournal}
use Rattle.act_model.specs.Touches.{new_right, act_of_right}
use Rattle.act_model.specs.declared.filing_acts.Act.{Act}
use Rattle.act_model.specs.declared.receipts.Receipt.{Receipt}
use Rattle.act_model.proofs.CreationOrder.{creations_rise, place_found}
use Rattle.folio_sections.specs.HeldRights.{receipt_numbers, rights_of_filing}
use Rattle.kept_registers.specs.KeptRights.{IsAsFiled}
use Rattle.act_model.specs.Limits.{most_creations}
use Rattle.folio_sections.specs.Rights.{created}
use Rattle.folio_sections.specs.declared.entries.Created.{Created}
use Rattle.folio_sections.specs.declared.entries.Entry.{Entry}
use Rattle.folio_sections.proofs.FilteredLists.{in_filter, in_filter_map}
use Rattle.folio_sections.proofs.ReceiptNumbers.{in_receipt_numbers}
use Rattle.rank_slots.specs.Limits.{most_places}
use Rattle.folio_line.specs.FolioRights.{by_group, has_group, right_where, rights_of, rights_where}
use Rattle.folio_line.proofs.CreatedRights.{IsCreatedHere, IsInRanges}
use Rattle.folio_line.proofs.FiledRights.{placed_creations}
use Rattle.folio_line.proofs.GroupedRights.{all_by_group_few}
use Rattle.folio_line.proofs.PlacedOrder.{placed_at_made, the_right}
use Rattle.folio_line.proofs.RightsInOrder.{RightsInOrder, is_created_here}

-- ---- all of them

-- a right that is created, and of which the test holds, is placed
pub is_placed : (holds : RightNo → List Entry → Bool) (journal : List Receipt) (at : Key → List Entry) (folio : ℕ) (id : RightNo) (made : Created) → IsJournal journal → IsInRanges journal id made → created (at (Right folio id)) ≡ Some made
    → holds id (at (Right folio id)) ≡ true → In (the_right id made) (rights_where holds at folio)
is_placed holds journal at folio id made stands ranges is passes =
    let x = the_right id made in
    let rights = rights_of holds at folio id.receipt in
    let placed : right_where holds at folio id ≡ Some x = ap (λ b. option_map (the_right id) (cond b (created (at (Right folio id))) None)) passes ∙ ap (option_map (the_right id)) is in
    let few = stands.few in
    let receipt = in_receipt_numbers id.receipt ranges.receipt_from (omega (arith, ranges.receipt_to, few)) in
    let act = in_range 1 most_acts id.act ranges.act_from (omega (arith, ranges.act_to)) in
    let group = in_range 1 most_groups made.spec.group ranges.group_from (omega (arith, ranges.group_to)) in
    let of_filing : In x rights = in_filter_map (right_where holds at folio) (rights_of_filing id.receipt) id x (in_map (new_right id.receipt) (range_with_len 1 most_acts) id.act act) placed in
    let grouped : In x (by_group rights) =
    in_flat_map (λ group. filter (has_group group) rights) (range_with_len 1 most_groups) made.spec.group x group (in_filter (has_group made.spec.group) rights x of_filing (eq-eqb made.spec.group made.spec.group refl)) in
    in_flat_map (λ m. by_group (rights_of holds at folio m)) receipt_numbers id.receipt x receipt grouped

-- ---- few

-- where all that elements give stands at indices below n, there are at most n
few_below : {X Y : Type 0} (h : X → Option Y) (xs : List X) (n : ℕ) → ((i : ℕ) (x : X) (y : Y) → slice_get xs i ≡ Some x → h x ≡ Some y → i < n) → length (filter_map h xs) ≤ n
few_below h [] n below = omega arith
few_below h (x ∷ xs) zero below =
    let rest = few_below h xs zero (λ i z y here gives. let less = below (suc i) z y here gives in omega (arith, less)) in
    elim (h x) as (λ o. h x ≡ o → length (cons_option o (filter_map h xs)) ≤ 0) [
      | None ↦ λ _. rest
      | Some y ↦ λ gives. (let less = below 0 x y refl gives in omega (arith, less))
    ] refl
few_below h (x ∷ xs) (suc n) below =
    let rest = few_below h xs n (λ i z y here gives. let less = below (suc i) z y here gives in omega (arith, less)) in
    elim (h x) as (λ o. length (cons_option o (filter_map h xs)) ≤ suc n) [
      | None ↦ omega (arith, rest)
      | Some y ↦ omega (arith, rest)
    ]

-- a number is equal to itself
itself : (x : RightNo) → rights.ghosts.cmp x x ≡ Equal
itself x = grind (arith, nat_tests)

-- the place of a creating act among those of its folio
place_is : (journal : List Receipt) (folio i : ℕ) (id : RightNo) → slice_get (creations_in journal folio) i ≡ Some id → position (same_right id) (creations_in journal folio) ≡ Some i
place_is journal folio i id here =
    let all = creations_in journal folio in
    let same = get_or_from_slice_get all i id id here in
    place_found all id i id (creations_rise journal folio) (slice_get_within all i id here) (subst (λ x. rights.ghosts.cmp x id ≡ Equal) (sym same) (itself id))

-- the creating act is one of the folio
pub folio_is : (folio : ℕ) (made : Created) (o : Option Act) → IsSomeAnd o (IsAsFiled folio made) → option_and_then folio_of_creation o ≡ Some folio
folio_is folio made None filed = absurd filed
folio_is folio made (Some act) filed =
    ap (λ o. cond (is_some o) (Some (folio_of act)) None) filed.spec ∙ ap Some filed.there

-- so its place is below the most creations that a folio may have
below_most : (journal : List Receipt) (folio i : ℕ) (id : RightNo) (made : Created) → slice_get (creations_in journal folio) i ≡ Some id → IsCreatedHere journal folio id made → i < most_creations
below_most journal folio i id made here filed =
    let rank : IsSomeAnd (option_map (λ k. k + 1) (position (same_right id) (creations_in journal folio))) (λ n. n ≤ most_creations) =
    subst (λ o. IsSomeAnd (option_and_then (λ f. option_map (λ k. k + 1) (position (same_right id) (creations_in journal f))) o) (λ n. n ≤ most_creations))
    (folio_is folio made (act_of_right journal id) filed.filed) filed.rank in
    let less : i + 1 ≤ most_creations = subst (λ o. IsSomeAnd (option_map (λ k. k + 1) o) (λ n. n ≤ most_creations)) (place_is journal folio i id here) rank in
    omega (arith, less)

pub placed_few : (holds : RightNo → List Entry → Bool) (journal : List Receipt) (at : Key → List Entry) (folio : ℕ) → RightsInOrder journal at → IsJournal journal → length (rights_where holds at folio) ≤ most_places
placed_few holds journal at folio kept stands =
    let grouped = all_by_group_few (rights_of holds at folio) receipt_numbers in
    let filed = ap length (placed_creations holds journal at folio kept stands) in
    let few = few_below (right_where holds at folio) (creations_in journal folio) most_creations
    (λ i id x here placed. below_most journal folio i id x.made here
    (is_created_here journal at folio id x.made kept (placed_at_made holds at folio id x placed))) in
    omega (arith, grouped, filed, few)
