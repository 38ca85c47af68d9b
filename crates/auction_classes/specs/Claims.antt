-- The claims in a forced sale, class by class (ZVG §§ 10 to 13, 37, 45, 110).
use Rattle.std.specs.Prelude.{ℕ, ◌+◌, ◌-◌, Bool, true, false, not, ◌==◌, ◌&&◌, ◌||◌, nat_le, nat_lt, if◌then◌else◌, List, [], ◌∷◌, ◌++◌, filter, filter_map, flat_map, map, sum_by, Option, Some, None}
use Rattle.std.specs.List.{range_with_len, zip}
use Rattle.std.specs.Option.{option_map_or}
use Rattle.gb_base.specs.Calendar.{date_of}
use Rattle.gb_base.specs.RightNo.{RightNo, same_right}
use Rattle.gb_base.specs.declared.keys.Key.TheVariants.{Right, Title}
use Rattle.act_model.specs.declared.sales.Basis.{Basis}
use Rattle.act_model.specs.declared.sales.Basis.TheVariants as basis
use Rattle.act_model.specs.declared.sales.Registration.{Registration}
use Rattle.act_model.specs.declared.sales.Registration.TheVariants as registration
use Rattle.folio_sections.specs.Rights.{capital, entered_on, holder}
use Rattle.folio_sections.specs.Titles.{owners}
use Rattle.folio_sections.specs.declared.entries.Entry.{Entry}
use Rattle.folio_line.specs.FolioRights.{live_rights}
use Rattle.folio_line.specs.declared.folio_rights.CreatedRight.{CreatedRight}
use Rattle.auction_classes.specs.Interest.{arrears_in_class, current_interest, new_year, old_arrears, rate_of}
use Rattle.auction_classes.specs.Sales.{Sale, number_seized, read, registrations_found, sale_day, seizures_found, year_seized}
use Rattle.auction_classes.specs.declared.accruals.Accrual.{Accrual}
use Rattle.auction_classes.specs.declared.case_items.Registered.{Registered}
use Rattle.auction_classes.specs.declared.case_items.Seizure.{Seizure}
use Rattle.auction_classes.specs.declared.claim_items.Claim.{Claim}
use Rattle.auction_classes.specs.declared.claim_items.ClaimItem.{ClaimItem}
use Rattle.auction_classes.specs.declared.rights_found.RightFound.{RightFound}

-- the entries at a right of the folio
abbrev pub at_right : Sale → RightNo → List Entry
at_right s id = read s (Right s.folio id)

-- both are late, or both are timely
abbrev pub are_both : Bool → Bool → Bool
are_both true late = late
are_both false late = not late

-- ---- rights

-- Rights whose filing was received before the first seizure's, whenever they were entered, are of class 4, others of class 6
-- (ZVG § 10(1) nos. 4 and 6).
abbrev pub class_of_right : Sale → RightNo → ℕ
class_of_right s id = if nat_lt id.receipt (number_seized s) then 4 else 6

-- what the interest of a right is computed from
abbrev pub accrual_of : Sale → CreatedRight → Accrual
accrual_of s x = record {
  capital = option_map_or (λ c. c) (capital (at_right s x.id)) 0;
  rate = rate_of x.made.spec.kind;
  entered = option_map_or (λ day. day) (entered_on (at_right s x.id)) 0;
  sale = sale_day s;
  current_from = new_year (year_seized s - 1);
  arrears_from = new_year (year_seized s - 3);
}

-- the given part of the arrears that a registration names for this right; 0 where it names none of them
abbrev pub arrears_named : (Accrual → ℕ → ℕ → ℕ) → Accrual → RightNo → Registration → ℕ
arrears_named part x id (registration.Arrears right from until) = if same_right right id then part x from until else 0
arrears_named part x id other = 0

-- the given part of all arrears that are registered for a right, in time or late as asked
abbrev pub arrears_found : (Accrual → ℕ → ℕ → ℕ) → Bool → Accrual → RightNo → List Registered → ℕ
arrears_found part late x id registrations =
    sum_by (λ r. if are_both late r.late then arrears_named part x id r.what else 0) registrations

-- the given part of the arrears of a right in the sale, timely or late as asked
abbrev pub arrears_of_right : Sale → CreatedRight → (Accrual → ℕ → ℕ → ℕ) → Bool → ℕ
arrears_of_right s x part late = arrears_found part late (accrual_of s x) x.id (registrations_found s)

-- A right with what is claimed of it. The interest in its class is the current interest and the timely arrears of its class.
abbrev pub right_found : Sale → CreatedRight → RightFound
right_found s x = record {
  right = x;
  class = class_of_right s x.id;
  holder = option_map_or (λ p. p) (holder (at_right s x.id)) 0;
  capital = (accrual_of s x).capital;
  interest = current_interest (accrual_of s x) + arrears_of_right s x arrears_in_class false;
  old_arrears = arrears_of_right s x old_arrears false;
  late_arrears = arrears_of_right s x arrears_in_class true;
  late_old_arrears = arrears_of_right s x old_arrears true;
}

-- the interest of a right in its class
abbrev pub interest_of : Sale → CreatedRight → ℕ
interest_of s x = (right_found s x).interest

-- The live rights of the folio, by filing, group and act. A priority notice counts as its right (ZVG § 48); a filing that waits has no
-- right yet, and an official notice claims nothing for it (the office's own rule).
abbrev pub rights_found : Sale → List CreatedRight
rights_found s = live_rights (read s) s.folio

-- those of a class
abbrev pub rights_of_class : Sale → ℕ → List CreatedRight
rights_of_class s class = filter (λ x. class_of_right s x.id == class) (rights_found s)

-- ---- single claims

-- a claim that is of no right
abbrev pub claim_of_person : ℕ → Bool → ℕ → ℕ → Claim
claim_of_person class late person amount =
    record { class = class; late = late; right = None; group = 0; person = person; interest = 0; capital = amount }

-- A public charge is of class 3 where it fell due on or after 1 January of the third year before the seizure, else of class 7
-- (ZVG § 10(1) nos. 3 and 7).
abbrev pub class_of_charge : ℕ → ℕ → ℕ
class_of_charge year due = if nat_le (year - 3) (date_of due).year then 3 else 7

-- what a registration claims, in time or late: an advance is of class 1 (ZVG § 10(1) no. 1), arrears are claimed with their right
abbrev pub claim_registered : ℕ → Bool → Registration → Option Claim
claim_registered year late (registration.Advance person amount) = Some (claim_of_person 1 late person amount)
claim_registered year late (registration.PublicCharge person amount due) = Some (claim_of_person (class_of_charge year due) late person amount)
claim_registered year late (registration.Arrears right from until) = None

-- the claim of a personal creditor (ZVG § 10(1) no. 5)
abbrev pub personal_claim : Basis → Option Claim
personal_claim (basis.Personal creditor claim) = Some (claim_of_person 5 false creditor claim)
personal_claim (basis.FromRight right) = None

-- a claim of a right, which its holder has
abbrev pub claim_of_right : RightFound → ℕ → Bool → ℕ → ℕ → Claim
claim_of_right x class late interest amount = record {
  class = class;
  late = late;
  right = Some x.right.id;
  group = x.right.made.spec.group;
  person = x.holder;
  interest = interest;
  capital = amount;
}

-- All that a right claims: interest and capital in its class (ZVG § 12), timely arrears of class 8, and the late ones of both. Late
-- arrears of a right's own class are given class 4: a right of class 6 has none, since it was created in the year of the
-- seizure or later.
abbrev pub claims_of_right : RightFound → List Claim
claims_of_right x =
    claim_of_right x x.class false x.interest x.capital ∷ claim_of_right x 8 false 0 x.old_arrears ∷ claim_of_right x 4 true 0 x.late_arrears
    ∷ claim_of_right x 8 true 0 x.late_old_arrears ∷ []

-- ---- all claims

-- a claim of at least one cent
abbrev pub is_claim : Claim → Bool
is_claim c = nat_lt 0 c.interest || nat_lt 0 c.capital

-- All claims of at least one cent: those registered in order, those of personal creditors by seizure, those of the rights.
abbrev pub claims_by : ℕ → List Registered → List Seizure → List RightFound → List Claim
claims_by year registrations seizures rights =
    filter is_claim (filter_map (λ r. claim_registered year r.late r.what) registrations)
    ++ (filter is_claim (filter_map (λ seizure. personal_claim seizure.basis) seizures) ++ filter is_claim (flat_map claims_of_right rights))

-- the claims of a class that are timely, or those that are late
abbrev pub of_class : Bool → List Claim → ℕ → List Claim
of_class late claims class = filter (λ c. are_both late c.late && c.class == class) claims

-- the timely claims, or the late ones, class by class
abbrev pub by_class : Bool → List Claim → List Claim
by_class late claims = flat_map (of_class late claims) (range_with_len 1 8)

-- the timely claims class by class, and then the late ones (ZVG §§ 10, 110)
abbrev pub in_order : List Claim → List Claim
in_order claims = by_class false claims ++ by_class true claims

-- ---- the list

-- two rights are of one filing
abbrev pub are_of_one_filing : Option RightNo → Option RightNo → Bool
are_of_one_filing (Some x) (Some y) = x.receipt == y.receipt
are_of_one_filing x y = false

-- The claim ranks equally with the one before it: both are of one class, both timely or both late, and of rights of one group of one
-- filing (GBO § 45(1), (3)).
abbrev pub ranks_with : Option Claim → Claim → Bool
ranks_with None c = false
ranks_with (Some before) c =
    before.class == c.class && (are_both before.late c.late && (are_of_one_filing before.right c.right && before.group == c.group))

-- a claim in its row after the one before it, with whether the two rank equally
abbrev pub claim_after : Option Claim → Claim → ClaimItem
claim_after before c = record {
  class = c.class;
  late = c.late;
  right = c.right;
  person = c.person;
  interest = c.interest;
  capital = c.capital;
  with_previous = ranks_with before c;
}

-- these claims in their row, each after the one just before it; the first has none before it
abbrev pub in_row : List Claim → List ClaimItem
in_row cs = map (λ pair. claim_after pair.0 pair.1) (zip (None ∷ map Some cs) cs)

-- all claims of a sale
abbrev pub claims_found : Sale → List Claim
claims_found s = claims_by (year_seized s) (registrations_found s) (seizures_found s) (map (right_found s) (rights_found s))

-- the claims of at least one cent, in the order in which a plan has them
abbrev pub claims : Sale → List ClaimItem
claims s = in_row (in_order (claims_found s))

-- the owners whom a title with these entries names, in the order in which they were named
abbrev pub owners_named : List Entry → List ℕ
owners_named entries = option_map_or (λ people. people) (owners entries) []

-- the former owners
abbrev pub former_owners : Sale → List ℕ
former_owners s = owners_named (read s (Title s.folio))
