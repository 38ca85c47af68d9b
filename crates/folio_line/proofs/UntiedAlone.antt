-- An untied right, which shares its group with none, stands alone on any line of its folio.
use Rattle.std.proofs.Common.{◌≡◌, ℕ, Bool, true, false, ◌&&◌, ◌||◌, List, IsSomeAnd, Some, None, refl, ap, ◌∙◌, arith}
use Rattle.std.proofs.lemmas.Bool.Decides.{nat_tests}
use Rattle.gb_base.specs.RightNo.{RightNo, same_right}
use Rattle.gb_base.specs.declared.keys.Key.{Key}
use Rattle.gb_base.specs.declared.keys.Key.TheVariants.{Right}
use Rattle.gb_base.proofs.Members.{In}
use Rattle.gb_base.proofs.SameRights.{right_is, right_self}
use Rattle.act_model.specs.Receiving.{IsJournal}
use Rattle.act_model.specs.declared.receipts.Receipt.{Receipt}
use Rattle.act_model.specs.Groups.{shares_its_group}
use Rattle.kept_registers.specs.KeptRights.{IsUntied, StandsUntied}
use Rattle.folio_sections.specs.Rights.{created}
use Rattle.folio_sections.specs.declared.entries.Created.{Created}
use Rattle.folio_sections.specs.declared.entries.Entry.{Entry}
use Rattle.folio_sections.proofs.DistinctLists.{distinct_weaker}
use Rattle.rank_slots.specs.CanFill.{StandsAlone}
use Rattle.rank_slots.specs.declared.places.Place.{Place}
use Rattle.folio_line.specs.FolioSlots.{stands_on_line}
use Rattle.folio_line.specs.inner.PlaceByPlace.{places_behind}
use Rattle.folio_line.specs.FolioRights.{has_same_place, rights_where}
use Rattle.folio_line.specs.declared.exchanges.Exchange.{Exchange}
use Rattle.folio_line.specs.declared.folio_rights.CreatedRight.{CreatedRight}
use Rattle.folio_line.proofs.CreatedRights.{is_in_ranges}
use Rattle.folio_line.proofs.LoneGroups.{stands_alone}
use Rattle.folio_line.proofs.PlacedDistinct.{has_same_number, placed_distinct}
use Rattle.folio_line.proofs.PlacedFew.{is_placed}
use Rattle.folio_line.proofs.PlacedOrder.{of_placed_rights, the_right}
use Rattle.folio_line.proofs.PlacesBehind.{listed, none_joins, shares_place}
use Rattle.folio_line.proofs.UntiedRights.{untied_apart}
use Rattle.folio_line.proofs.RightsInOrder.{RightsInOrder, is_created_here}

-- the places of the rights of a folio of which a test holds, with these claims
abbrev pub tested_places : (RightNo → ℕ) → (RightNo → Bool) → (RightNo → List Entry → Bool) → (Key → List Entry) → ℕ → List Place
tested_places claims gone holds at folio = places_behind claims gone None (rights_where holds at folio)

-- the places of the rights that stand on the line of a folio with these exchanges
abbrev pub line_places : (RightNo → ℕ) → (RightNo → Bool) → List Exchange → (Key → List Entry) → ℕ → List Place
line_places claims gone exchanges at folio = tested_places claims gone (stands_on_line exchanges) at folio

-- the numbers of two rights differ in either order
numbers_swap : (x y : CreatedRight) → has_same_number x y ≡ false → has_same_number y x ≡ false
numbers_swap x y apart = grind (arith, nat_tests, apart)

places_swap : (x y : CreatedRight) → has_same_place y x ≡ false → has_same_place x y ≡ false
places_swap x y apart = grind (arith, nat_tests, apart)

or_none : (a b same : Bool) → (a ≡ true → same ≡ false) → (b ≡ true → same ≡ false) → ((a || b) && same) ≡ false
or_none true b same first second = first refl
or_none false true same first second = second refl
or_none false false same first second = refl

-- two placed rights of different numbers, one of them alone in its group, have different places
apart_where_alone : (holds : RightNo → List Entry → Bool) (journal : List Receipt) (at : Key → List Entry) (folio : ℕ) (right : RightNo) (x y : CreatedRight) → RightsInOrder journal at → shares_its_group journal right ≡ false
    → In x (rights_where holds at folio) → In y (rights_where holds at folio) → has_same_number x y ≡ false → shares_place right x y ≡ false
apart_where_alone holds journal at folio right x y stands lone here there apart =
    let first = is_created_here journal at folio x.id x.made stands (of_placed_rights holds at folio x here).made in
    let second = is_created_here journal at folio y.id y.made stands (of_placed_rights holds at folio y there).made in
    or_none (same_right x.id right) (same_right y.id right) (has_same_place x y)
    (λ is. untied_apart journal folio x y (ap (shares_its_group journal) (right_is x.id right is) ∙ lone) first second apart)
    (λ is. places_swap x y (untied_apart journal folio y x (ap (shares_its_group journal) (right_is y.id right is) ∙ lone) second first (numbers_swap x y apart)))

-- so a placed right that shares its group with none stands alone
alone : (claims : RightNo → ℕ) (gone : RightNo → Bool) (holds : RightNo → List Entry → Bool) (journal : List Receipt) (at : Key → List Entry) (folio : ℕ) (right : RightNo) (x : CreatedRight) → RightsInOrder journal at → shares_its_group journal right ≡ false → In x (rights_where holds at folio) → same_right x.id right ≡ true
    → StandsAlone (tested_places claims gone holds at folio) right
alone claims gone holds journal at folio right x stands lone there same =
    let rights = rights_where holds at folio in
    stands_alone right (tested_places claims gone holds at folio)
    (none_joins claims gone right rights
    (distinct_weaker has_same_number (shares_place right) rights (placed_distinct holds at folio)
    (λ a b here behind apart. apart_where_alone holds journal at folio right a b stands lone here behind apart)))
    (listed claims gone None rights x right there same)

-- a right that is created, and of which the test holds, is placed and stands alone where it shares its group with none
pub lone_alone : (claims : RightNo → ℕ) (gone : RightNo → Bool) (holds : RightNo → List Entry → Bool) (journal : List Receipt) (at : Key → List Entry) (folio : ℕ) (right : RightNo) (made : Created) → RightsInOrder journal at → IsJournal journal → shares_its_group journal right ≡ false → created (at (Right folio right)) ≡ Some made → holds right (at (Right folio right)) ≡ true
    → StandsAlone (tested_places claims gone holds at folio) right
lone_alone claims gone holds journal at folio right made stands is_journal lone is passes =
    let ranges = is_in_ranges journal folio right made is_journal (is_created_here journal at folio right made stands is) in
    alone claims gone holds journal at folio right (the_right right made) stands lone (is_placed holds journal at folio right made is_journal ranges is passes) (right_self right)

-- so an untied right of which the test holds stands alone
pub untied_alone : (claims : RightNo → ℕ) (gone : RightNo → Bool) (holds : RightNo → List Entry → Bool) (journal : List Receipt) (at : Key → List Entry) (folio : ℕ) (right : RightNo) → RightsInOrder journal at → IsJournal journal → StandsUntied journal at folio right → holds right (at (Right folio right)) ≡ true
    → StandsAlone (tested_places claims gone holds at folio) right
untied_alone claims gone holds journal at folio right stands is_journal plain passes =
    elim (created (at (Right folio right))) as (λ o. created (at (Right folio right)) ≡ o → IsSomeAnd o (IsUntied journal right) → StandsAlone (tested_places claims gone holds at folio) right) [
      | None ↦ λ _ none. absurd none
      | Some made ↦ λ is its. lone_alone claims gone holds journal at folio right made stands is_journal its.alone is passes
    ] refl plain
