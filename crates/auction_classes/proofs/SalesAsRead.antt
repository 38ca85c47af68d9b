-- What is claimed in a sale as it is read is what is claimed in the sale.
use Rattle.std.proofs.Common.{◌≡◌, ℕ, ◌+◌, ◌&&◌, nat_le, All, List, map, sym, ap, subst, ◌∙◌}
use Rattle.std.proofs.lemmas.List.Elements.{All-from_recursion, recursion_from_All}
use Rattle.gb_base.proofs.Members.{In}
use Rattle.gb_base.specs.RightNo.{RightNo}
use Rattle.gb_base.specs.declared.keys.Key.{Key}
use Rattle.gb_base.specs.declared.keys.Key.TheVariants.{Case, Right, Title}
use Rattle.act_model.specs.Receiving.{IsJournal}
use Rattle.act_model.specs.declared.receipts.Receipt.{Receipt}
use Rattle.folio_sections.specs.Fronts.{below}
use Rattle.folio_sections.specs.declared.entries.Entry.{Entry}
use Rattle.folio_sections.proofs.FilteredLists.{all_in, in_all}
use Rattle.kept_registers.specs.Kept.{Kept}
use Rattle.folio_line.specs.FolioRights.{is_live_with, live_rights}
use Rattle.folio_line.specs.declared.folio_rights.CreatedRight.{CreatedRight}
use Rattle.folio_line.proofs.PlacedOrder.{of_placed_rights}
use Rattle.auction_classes.specs.Claims.{at_right, claims_by, in_order, in_row, owners_named, right_found, rights_found}
use Rattle.auction_classes.specs.SaleClaims.{of_class_four, seized_for}
use Rattle.auction_classes.specs.Sales.{Sale, read, registrations_found, sale_at, sale_day, seizures_found, year_seized}
use Rattle.auction_classes.specs.inner.CaseSales.{sale_of_case}
use Rattle.auction_classes.specs.inner.ClaimLists.{AreClaimedIn, AreClaimsOf, items_with, rights_with}
use Rattle.auction_classes.specs.inner.Findings.{finding_of, right_with, seized_with}
use Rattle.auction_classes.specs.inner.Readings.{IsReadAs}
use Rattle.auction_classes.specs.declared.case_items.Seizure.{Seizure}
use Rattle.auction_classes.specs.declared.claim_lists.ClaimLists.{ClaimLists}
use Rattle.auction_classes.specs.declared.claim_items.SeizedFor.{SeizedFor}
use Rattle.auction_classes.specs.declared.rights_found.RightFound.{RightFound}
use Rattle.auction_classes.proofs.KeptSales.{read_as}
use Rattle.auction_classes.proofs.ReadAlike.{ReadAlike, map_alike, same_live, same_right_read, same_standing}

-- These entries stand at the case and at the title, the rights are read alike, and these are the live ones.
pub record IsReadFrom (journal : List Receipt) (at : Key → List Entry) (folio a : ℕ) (entries : List Entry) (reads : Key → List Entry) (title : List Entry) (live : List CreatedRight) : Type 0 where
  pub case : below a (at (Case folio)) ≡ entries
  pub rights : ReadAlike folio (read (sale_at journal at folio a)) reads
  pub owned : read (sale_at journal at folio a) (Title folio) ≡ title
  pub living : live ≡ live_rights reads folio

-- what is found of the sale
pub finding_as_read : (journal : List Receipt) (at : Key → List Entry) (folio a : ℕ) (entries : List Entry) → below a (at (Case folio)) ≡ entries
    → finding_of (sale_of_case journal entries a) ≡ finding_of (sale_at journal at folio a)
finding_as_read journal at folio a entries case = λ i. finding_of (sale_of_case journal (sym case i) a)

-- a right that is read as live is read the same in the sale
same_at_live : (s : Sale) (reads : Key → List Entry) → ReadAlike s.folio (read s) reads → (x : CreatedRight) → In x (live_rights reads s.folio) → at_right s x.id ≡ reads (Right s.folio x.id)
same_at_live s reads alike x there = same_right_read _ _ x.made (alike x.id) (of_placed_rights is_live_with reads s.folio x there).made

-- so a right is found the same in the sale
pub same_rights : (s : Sale) (reads : Key → List Entry) → ReadAlike s.folio (read s) reads
    → rights_with s (λ id. reads (Right s.folio id)) (live_rights reads s.folio) ≡ map (right_found s) (live_rights (read s) s.folio)
same_rights s reads alike =
    let live = live_rights reads s.folio in
    let g : CreatedRight → RightFound = λ x. right_with (finding_of s) (registrations_found s) x (reads (Right s.folio x.id)) in
    let each : (x : CreatedRight) → In x live → g x ≡ right_found s x = λ x there.
    ap (right_with (finding_of s) (registrations_found s) x) (sym (same_at_live s reads alike x there)) in
    map_alike g (right_found s) live (all_in (λ (x : CreatedRight). g x ≡ right_found s x) live each)
    ∙ ap (map (right_found s)) (sym (same_live (read s) reads s.folio alike))

-- a seizure is served as it is read just where it is served in the sale
pub same_seizures : (s : Sale) (reads : Key → List Entry) → ReadAlike s.folio (read s) reads
    → map (seized_with (sale_day s) (λ id. reads (Right s.folio id))) (seizures_found s) ≡ map (seized_for s) (seizures_found s)
same_seizures s reads alike =
    let g : Seizure → SeizedFor = seized_with (sale_day s) (λ id. reads (Right s.folio id)) in
    let each : (z : Seizure) → In z (seizures_found s) → g z ≡ seized_for s z = λ z there.
    λ i. record { basis = z.basis; served = nat_le (z.served + 28) (sale_day s) && sym (same_standing (read s) reads s.folio alike z.basis) i } in
    map_alike g (seized_for s) (seizures_found s) (all_in (λ (z : Seizure). g z ≡ seized_for s z) (seizures_found s) each)

-- the lists that are written of what is read have what is claimed in the sale
pub claimed_as_read : (journal : List Receipt) (at : Key → List Entry) (folio a : ℕ) (entries : List Entry) (reads : Key → List Entry) (title : List Entry) (live : List CreatedRight) (lists : ClaimLists)
    → IsReadFrom journal at folio a entries reads title live → AreClaimedIn (sale_of_case journal entries a) (λ id. reads (Right folio id)) title live lists
    → AreClaimsOf (sale_at journal at folio a) lists
claimed_as_read journal at folio a entries reads title live lists from are =
    let s = sale_at journal at folio a in
    let read_right : RightNo → List Entry = λ id. reads (Right folio id) in
    let case = sym from.case in
    let found = (λ i. rights_with (sale_of_case journal (case i) a) read_right (from.living i)) ∙ same_rights s reads from.rights in
    record {
      items = are.items ∙ (λ i. items_with (sale_of_case journal (case i) a) read_right (from.living i))
          ∙ ap (λ xs. in_row (in_order (claims_by (year_seized s) (registrations_found s) (seizures_found s) xs))) (same_rights s reads from.rights);
      owned = are.owners ∙ ap owners_named (sym from.owned);
      seizures = are.seizures ∙ (λ i. map (seized_with (sale_day (sale_of_case journal (case i) a)) read_right) (seizures_found (sale_of_case journal (case i) a)))
          ∙ same_seizures s reads from.rights;
      rights = are.rights ∙ ap of_class_four found;
      found = are.found ∙ found;
    }

-- In a kept register the live rights are as they are read, with rates in their range.
pub live_as_read : (journal : List Receipt) (at : Key → List Entry) (folio a : ℕ) (entries : List Entry) (reads : Key → List Entry) (title : List Entry) (live : List CreatedRight)
    → IsReadFrom journal at folio a entries reads title live → Kept journal at → IsJournal journal → All (IsReadAs (λ id. reads (Right folio id))) live
live_as_read journal at folio a entries reads title live from kept stands =
    let s = sale_at journal at folio a in
    let found = recursion_from_All (IsReadAs (at_right s)) (rights_found s) (read_as journal at folio a kept stands) in
    let each : (x : CreatedRight) → In x (live_rights reads folio) → IsReadAs (λ id. reads (Right folio id)) x = λ x there.
    record {
      made = (of_placed_rights is_live_with reads folio x there).made;
      rate = (in_all (IsReadAs (at_right s)) (rights_found s) x found (subst (In x) (sym (same_live (read s) reads folio from.rights)) there)).rate;
    } in
    subst (All (IsReadAs (λ id. reads (Right folio id)))) (sym from.living)
    (All-from_recursion (IsReadAs (λ id. reads (Right folio id))) (live_rights reads folio) (all_in (IsReadAs (λ id. reads (Right folio id))) (live_rights reads folio) each))
