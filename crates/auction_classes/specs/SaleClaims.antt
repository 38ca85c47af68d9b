-- All that a forced sale is computed from, put together (ZVG §§ 10 to 13, 43 to 47).
use Rattle.std.specs.Prelude.{ℕ, ◌+◌, Bool, true, ◌&&◌, ◌==◌, nat_le, if◌then◌else◌, List, [], filter, map}
use Rattle.gb_base.specs.RightNo.{RightNo}
use Rattle.act_model.specs.Acts.{is_in_division_three}
use Rattle.act_model.specs.declared.sales.Basis.{Basis}
use Rattle.act_model.specs.declared.sales.Basis.TheVariants as basis
use Rattle.folio_sections.specs.Rights.{is_full, is_live}
use Rattle.folio_sections.specs.declared.entries.Entry.{Entry}
use Rattle.rank_slots.specs.Filled.{Filled, empty}
use Rattle.auction_classes.specs.Claims.{at_right, claims, former_owners, right_found, rights_found}
use Rattle.auction_classes.specs.ClassLines.{line_of_class}
use Rattle.auction_classes.specs.Sales.{Sale, costs_found, sale_day, seizures_found}
use Rattle.auction_classes.specs.declared.case_items.Seizure.{Seizure}
use Rattle.auction_classes.specs.declared.claim_items.ClaimItem.{ClaimItem}
use Rattle.auction_classes.specs.declared.claim_items.RightClaimed.{RightClaimed}
use Rattle.auction_classes.specs.declared.claim_items.SeizedFor.{SeizedFor}
use Rattle.auction_classes.specs.declared.rights_found.RightFound.{RightFound}

-- a seizure from a right is served only where that right is live and no mere priority notice
abbrev pub is_basis_standing : (RightNo → List Entry) → Basis → Bool
is_basis_standing read (basis.Personal creditor claim) = true
is_basis_standing read (basis.FromRight right) = is_live (read right) && is_full (read right)

-- a seizure is served in time: at least 28 days before the day of the sale (ZVG §§ 43(2), 44(2))
abbrev pub is_served : ℕ → (RightNo → List Entry) → Seizure → Bool
is_served sale read seizure = nat_le (seizure.served + 28) sale && is_basis_standing read seizure.basis

-- The claims in the order of a plan, the costs, the former owners, the seizures in order, the live rights of class 4, and the lines
-- of classes 4 and 6.
pub record SaleClaims : Type 0 where
  pub items : List ClaimItem
  pub costs : ℕ
  pub owners : List ℕ
  pub seizures : List SeizedFor
  pub rights : List RightClaimed
  pub line_four : Filled
  pub line_six : Filled

-- the line of class 4, or of class 6
abbrev pub line_of : ℕ → SaleClaims → Filled
line_of class c = if class == 4 then c.line_four else c.line_six

-- nothing is claimed
abbrev pub no_claims : SaleClaims
no_claims = record { items = []; costs = 0; owners = []; seizures = []; rights = []; line_four = empty; line_six = empty }

-- the claims, with room for those of so many rights and exchanges, and how much memory their lists have
pub record ClaimsState : Type 0 where
  pub right_room : ℕ
  pub exchange_room : ℕ
  pub claimed : SaleClaims
  pub capacity : ℕ

-- a seizure, and whether it is served
abbrev pub seized_for : Sale → Seizure → SeizedFor
seized_for s seizure = record { basis = seizure.basis; served = is_served (sale_day s) (at_right s) seizure }

abbrev pub right_claimed : RightFound → RightClaimed
right_claimed x = record { right = x.right.id; interest = x.interest; in_division_three = is_in_division_three x.right.made.spec.kind }

-- those of these rights that are of class 4
abbrev pub of_class_four : List RightFound → List RightClaimed
of_class_four rights = map right_claimed (filter (λ x. x.class == 4) rights)

-- what is claimed in a sale
abbrev pub claimed_in : Sale → SaleClaims
claimed_in s = record {
  items = claims s;
  costs = costs_found s;
  owners = former_owners s;
  seizures = map (seized_for s) (seizures_found s);
  rights = of_class_four (map (right_found s) (rights_found s));
  line_four = line_of_class s 4;
  line_six = line_of_class s 6;
}
