-- Rights that are found among live ones.
use Rattle.std.proofs.Common.{◌≡◌, ℕ, true, ◌&&◌, ◌||◌, List, is_some, subst, ap}
use Rattle.std.specs.List.{list_any}
use Rattle.gb_base.specs.RightNo.{RightNo, same_right}
use Rattle.gb_base.specs.declared.keys.Key.{Key}
use Rattle.gb_base.specs.declared.keys.Key.TheVariants.{Right}
use Rattle.gb_base.proofs.Members.{In}
use Rattle.gb_base.proofs.SameRights.{right_is}
use Rattle.folio_sections.specs.Rights.{created, is_live}
use Rattle.folio_sections.specs.declared.entries.Entry.{Entry}
use Rattle.folio_sections.proofs.FilteredLists.{all_in, in_all, of_any}
use Rattle.folio_line.specs.Exchanges.{is_cancellation_by_consent, keeps_cents}
use Rattle.folio_line.specs.FolioRights.{is_live_with, live_rights}
use Rattle.folio_line.specs.declared.folio_rights.CreatedRight.{CreatedRight}
use Rattle.folio_line.specs.inner.LiveLists.{AreLive}
use Rattle.folio_line.proofs.PlacedOrder.{of_placed_rights}

-- the live rights of a folio are live
pub are_live : (at : Key → List Entry) (folio : ℕ) (live : List CreatedRight) → live ≡ live_rights at folio → AreLive at folio live
are_live at folio live is =
    all_in (λ x. is_live (at (Right folio x.id)) ≡ true) live (λ x there. (of_placed_rights is_live_with at folio x (subst (λ xs. In x xs) is there)).stands)

-- a right that is found among live ones is live
found_live : (at : Key → List Entry) (folio : ℕ) (live : List CreatedRight) (id : RightNo) → AreLive at folio live → list_any (λ x. same_right x.id id) live ≡ true → is_live (at (Right folio id)) ≡ true
found_live at folio live id all found =
    let one = of_any (λ (x : CreatedRight). same_right x.id id) live found in
    subst (λ k. is_live (at (Right folio k)) ≡ true) (right_is one.0.id id one.2) (in_all (λ (x : CreatedRight). is_live (at (Right folio x.id)) ≡ true) live one.0 all one.1)

-- the cents of a right that is found among live ones stay
pub found_keeps : (at : Key → List Entry) (folio : ℕ) (live : List CreatedRight) (id : RightNo) → AreLive at folio live → list_any (λ x. same_right x.id id) live ≡ true
    → keeps_cents (at (Right folio id)) ≡ true
found_keeps at folio live id all found =
    let entries = at (Right folio id) in
    ap (λ b. b || (is_some (created entries) && list_any (λ (e : Entry). is_cancellation_by_consent e.what) entries)) (found_live at folio live id all found)
