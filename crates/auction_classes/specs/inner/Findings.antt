-- What is found of a sale before its claims, and what is claimed of a right or a seizure with entries that are at hand.
use Rattle.std.specs.Prelude.{ℕ, ◌+◌, ◌-◌, Bool, true, false, nat_le, nat_lt, if◌then◌else◌, List, Option}
use Rattle.std.specs.Option.{option_map_or}
use Rattle.gb_base.specs.RightNo.{RightNo}
use Rattle.folio_sections.specs.Rights.{capital, entered_on, holder}
use Rattle.folio_sections.specs.declared.entries.Entry.{Entry}
use Rattle.folio_line.specs.declared.folio_rights.CreatedRight.{CreatedRight}
use Rattle.auction_classes.specs.Claims.{arrears_found}
use Rattle.auction_classes.specs.Interest.{arrears_in_class, current_interest, new_year, old_arrears, rate_of}
use Rattle.auction_classes.specs.SaleClaims.{is_served}
use Rattle.auction_classes.specs.Sales.{Sale, costs_found, number_seized, read_before, sale_day, year_seized}
use Rattle.auction_classes.specs.declared.accruals.Accrual.{Accrual}
use Rattle.auction_classes.specs.declared.case_items.Registered.{Registered}
use Rattle.auction_classes.specs.declared.case_items.Seizure.{Seizure}
use Rattle.auction_classes.specs.declared.claim_items.SeizedFor.{SeizedFor}
use Rattle.auction_classes.specs.declared.findings.Finding.{Finding}
use Rattle.auction_classes.specs.declared.rights_found.RightFound.{RightFound}

-- the numbers and days of a sale together
abbrev pub finding_of : Sale → Finding
finding_of s = record {
  costs = costs_found s;
  sale = sale_day s;
  seized = number_seized s;
  year = year_seized s;
  current_from = new_year (year_seized s - 1);
  arrears_from = new_year (year_seized s - 3);
  before = read_before s;
}

-- receipt n is late, where this is the call
abbrev pub is_late_by : Option ℕ → ℕ → Bool
is_late_by called n = option_map_or (λ call. nat_le call n) called true

-- the class of a right, where the first seizure has this number
abbrev pub class_by : ℕ → RightNo → ℕ
class_by seized id = if nat_lt id.receipt seized then 4 else 6

-- what the interest of a right with these entries is computed from
abbrev pub accrual_by : Finding → CreatedRight → List Entry → Accrual
accrual_by f x entries = record {
  capital = option_map_or (λ c. c) (capital entries) 0;
  rate = rate_of x.made.spec.kind;
  entered = option_map_or (λ day. day) (entered_on entries) 0;
  sale = f.sale;
  current_from = f.current_from;
  arrears_from = f.arrears_from;
}

-- a right with what is claimed of it
abbrev pub right_by : Accrual → ℕ → ℕ → List Registered → CreatedRight → RightFound
right_by a class holder registrations x = record {
  right = x;
  class = class;
  holder = holder;
  capital = a.capital;
  interest = current_interest a + arrears_found arrears_in_class false a x.id registrations;
  old_arrears = arrears_found old_arrears false a x.id registrations;
  late_arrears = arrears_found arrears_in_class true a x.id registrations;
  late_old_arrears = arrears_found old_arrears true a x.id registrations;
}

-- a right with these entries, and what is claimed of it
abbrev pub right_with : Finding → List Registered → CreatedRight → List Entry → RightFound
right_with f registrations x entries =
    right_by (accrual_by f x entries) (class_by f.seized x.id) (option_map_or (λ p. p) (holder entries) 0) registrations x

-- a seizure, where the sale is on this day, and this is read at each right
abbrev pub seized_with : ℕ → (RightNo → List Entry) → Seizure → SeizedFor
seized_with sale read seizure = record { basis = seizure.basis; served = is_served sale read seizure }
