-- The lists of what is claimed, and what is claimed in a sale as its case and the folio's rights are read.
use Rattle.std.specs.Prelude.{◌≡◌, ℕ, ◌+◌, ◌*◌, ◌≤◌, List, map, vec_capacity}
use Rattle.gb_base.specs.RightNo.{RightNo}
use Rattle.folio_sections.specs.declared.entries.Entry.{Entry}
use Rattle.folio_line.specs.declared.folio_rights.CreatedRight.{CreatedRight}
use Rattle.auction_classes.specs.Claims.{claims, claims_by, former_owners, in_order, in_row, owners_named, right_found, rights_found}
use Rattle.auction_classes.specs.SaleClaims.{of_class_four, seized_for}
use Rattle.auction_classes.specs.Sales.{Sale, registrations_found, sale_day, seizures_found, year_seized}
use Rattle.auction_classes.specs.inner.Findings.{finding_of, right_with, seized_with}
use Rattle.auction_classes.specs.declared.claim_items.ClaimItem.{ClaimItem}
use Rattle.auction_classes.specs.declared.claim_lists.ClaimLists.{ClaimLists}
use Rattle.auction_classes.specs.declared.rights_found.RightFound.{RightFound}

-- the lists have room for the claims of so many rights: 4 of each, 32 registrations and 8 seizures
pub record HaveRoomFor (many : ℕ) (lists : ClaimLists) : Type 0 where
  pub items : 4 * many + 40 ≤ vec_capacity lists.items
  pub owners : 4 ≤ vec_capacity lists.owners
  pub seizures : 8 ≤ vec_capacity lists.seizures
  pub rights : many ≤ vec_capacity lists.rights
  pub found : many ≤ vec_capacity lists.found
  pub claims : 4 * many + 40 ≤ vec_capacity lists.claims
  pub ordered : 4 * many + 40 ≤ vec_capacity lists.ordered

-- how much memory the lists have
abbrev pub lists_capacity : ClaimLists → ℕ
lists_capacity lists =
    vec_capacity lists.items + vec_capacity lists.owners + vec_capacity lists.seizures + vec_capacity lists.rights + vec_capacity lists.found
    + vec_capacity lists.claims + vec_capacity lists.ordered

-- the lists have as much room as before
pub record KeepRoom (before now : ClaimLists) : Type 0 where
  pub items : vec_capacity now.items ≡ vec_capacity before.items
  pub owners : vec_capacity now.owners ≡ vec_capacity before.owners
  pub seizures : vec_capacity now.seizures ≡ vec_capacity before.seizures
  pub rights : vec_capacity now.rights ≡ vec_capacity before.rights
  pub found : vec_capacity now.found ≡ vec_capacity before.found
  pub claims : vec_capacity now.claims ≡ vec_capacity before.claims
  pub ordered : vec_capacity now.ordered ≡ vec_capacity before.ordered

-- these rights with what is claimed of them, where this is read at each
abbrev pub rights_with : Sale → (RightNo → List Entry) → List CreatedRight → List RightFound
rights_with s read live = map (λ x. right_with (finding_of s) (registrations_found s) x (read x.id)) live

-- the claims in their row
abbrev pub items_with : Sale → (RightNo → List Entry) → List CreatedRight → List ClaimItem
items_with s read live =
    in_row (in_order (claims_by (year_seized s) (registrations_found s) (seizures_found s) (rights_with s read live)))

-- The lists have what is claimed in a sale, where these are its live rights, and this is read at each right and at the title.
pub record AreClaimedIn (s : Sale) (read : RightNo → List Entry) (title : List Entry) (live : List CreatedRight) (lists : ClaimLists) : Type 0 where
  pub items : lists.items.items ≡ items_with s read live
  pub owners : lists.owners.items ≡ owners_named title
  pub seizures : lists.seizures.items ≡ map (seized_with (sale_day s) read) (seizures_found s)
  pub rights : lists.rights.items ≡ of_class_four (rights_with s read live)
  pub found : lists.found.items ≡ rights_with s read live

-- The lists have what is claimed in a sale.
pub record AreClaimsOf (s : Sale) (lists : ClaimLists) : Type 0 where
  pub items : lists.items.items ≡ claims s
  pub owned : lists.owners.items ≡ former_owners s
  pub seizures : lists.seizures.items ≡ map (seized_for s) (seizures_found s)
  pub rights : lists.rights.items ≡ of_class_four (map (right_found s) (rights_found s))
  pub found : lists.found.items ≡ map (right_found s) (rights_found s)
