-- The interest that a live right of a sale bears in its class is bounded.
use Rattle.std.proofs.Common.{ℕ, ◌*◌, ◌≤◌, Bool, true, false, cond, List, [], ◌∷◌, filter, length, option_and_then, arith}
use Rattle.std.specs.List.{AllByRecursion}
use Rattle.std.proofs.Math.Nat.{div-le_of_le-mul}
use Rattle.std.proofs.lemmas.Nat.{mul-le}
use Rattle.std.proofs.lemmas.List.{length-map}
use Rattle.std.proofs.lemmas.List.Elements.{All-from_recursion, recursion_from_All}
use Rattle.std.proofs.lemmas.List.Sums.{length-filter, sum_by-le}
use Rattle.gb_base.specs.Interest.{interest}
use Rattle.gb_base.specs.Limits.{most_cents, most_rate}
use Rattle.gb_base.specs.RightNo.{RightNo, same_right}
use Rattle.gb_base.specs.declared.keys.Key.{Key}
use Rattle.gb_base.specs.declared.keys.Key.TheVariants.{Case}
use Rattle.gb_base.proofs.Members.{In}
use Rattle.act_model.specs.Receiving.{IsJournal, day_of, item_at}
use Rattle.act_model.specs.declared.receipts.Receipt.{Receipt}
use Rattle.act_model.specs.declared.sales.Registration.{Registration}
use Rattle.act_model.specs.declared.sales.Registration.TheVariants as registration
use Rattle.folio_sections.specs.Cases.{case, is_registration, registration_numbers}
use Rattle.folio_sections.specs.Fronts.{below}
use Rattle.folio_sections.specs.declared.entries.Entry.{Entry}
use Rattle.folio_sections.proofs.FilteredLists.{in_all}
use Rattle.folio_line.specs.FolioSlots.{capital_at}
use Rattle.folio_line.specs.declared.folio_rights.CreatedRight.{CreatedRight}
use Rattle.kept_registers.specs.Kept.{Kept}
use Rattle.auction_classes.specs.Claims.{are_both, arrears_found, arrears_named, at_right, interest_of, rights_found}
use Rattle.auction_classes.specs.Interest.{arrears_in_class, current_interest}
use Rattle.auction_classes.specs.Sales.{Sale, is_late, number_seized, read, registered_by, registrations_found, sale_at, year_seized}
use Rattle.auction_classes.specs.inner.Findings.{accrual_by, finding_of}
use Rattle.auction_classes.specs.declared.accruals.Accrual.{Accrual}
use Rattle.auction_classes.specs.declared.case_items.Registered.{Registered}
use Rattle.auction_classes.specs.inner.InterestLimits.{most_of_term}
use Rattle.auction_classes.specs.inner.Readings.{IsReadAs}
use Rattle.auction_classes.proofs.BoundedLists.{few_found}
use Rattle.auction_classes.proofs.CommercialDays.{arrears_days, days_at_most, year_at_most}
use Rattle.auction_classes.proofs.KeptSales.{read_as}

-- ---- the interest on an amount

pub any_interest : (capital rate days : ℕ) → capital ≤ most_cents → rate ≤ most_rate → days ≤ 82830 → interest capital rate days ≤ most_of_term
any_interest capital rate days amount most few =
    let first : capital * rate ≤ 20000000000000000 = mul-le capital rate 10000000000000 2000 amount most in
    let second : capital * rate * days ≤ 1656600000000000000000 = mul-le (capital * rate) days 20000000000000000 82830 first few in
    div-le_of_le-mul 3600000 {n = most_of_term} (omega (arith, second))

-- the interest of three years
interest_of_years : (capital rate days : ℕ) → capital ≤ most_cents → rate ≤ most_rate → days ≤ 1079 → interest capital rate days ≤ 6000000000000
interest_of_years capital rate days amount most few =
    let first : capital * rate ≤ 20000000000000000 = mul-le capital rate 10000000000000 2000 amount most in
    let second : capital * rate * days ≤ 21580000000000000000 = mul-le (capital * rate) days 20000000000000000 1079 first few in
    div-le_of_le-mul 3600000 {n = 6000000000000} (omega (arith, second))

-- ---- the interest of a right

-- The capital is an amount, the rate one of those that there are, and the days are those of a year of the range.
pub record IsBounded (a : Accrual) : Type 0 where
  pub capital : a.capital ≤ most_cents
  pub rate : a.rate ≤ most_rate
  pub days : (from until : ℕ) → arrears_in_class a from until ≤ 6000000000000

named_at_most : (a : Accrual) (id : RightNo) (w : Registration) → IsBounded a → arrears_named arrears_in_class a id w ≤ 6000000000000
named_at_most a id (registration.Arrears right from until) bounded =
    elim (same_right right id) as (λ b. cond b (arrears_in_class a from until) 0 ≤ 6000000000000) [ true ↦ bounded.days from until | false ↦ omega arith ]
named_at_most a id other bounded = omega arith

each_at_most : (late : Bool) (a : Accrual) (id : RightNo) (r : Registered) → IsBounded a → cond (are_both late r.late) (arrears_named arrears_in_class a id r.what) 0 ≤ 6000000000000
each_at_most late a id r bounded =
    elim (are_both late r.late) as (λ b. cond b (arrears_named arrears_in_class a id r.what) 0 ≤ 6000000000000) [ true ↦ named_at_most a id r.what bounded | false ↦ omega arith ]

all_at_most : (late : Bool) (a : Accrual) (id : RightNo) (rs : List Registered) → IsBounded a → AllByRecursion (λ (r : Registered). cond (are_both late r.late) (arrears_named arrears_in_class a id r.what) 0 ≤ 6000000000000) rs
all_at_most late a id [] bounded = tt
all_at_most late a id (r ∷ rs) bounded = (each_at_most late a id r bounded, all_at_most late a id rs bounded)

pub found_at_most : (late : Bool) (a : Accrual) (id : RightNo) (rs : List Registered) → IsBounded a → length rs ≤ 32 → arrears_found arrears_in_class late a id rs ≤ 192000000000000
found_at_most late a id rs bounded few =
    let each : Registered → ℕ = λ r. cond (are_both late r.late) (arrears_named arrears_in_class a id r.what) 0 in
    let sum = sum_by-le each 6000000000000 rs (All-from_recursion (λ (r : Registered). each r ≤ 6000000000000) rs (all_at_most late a id rs bounded)) in
    omega (arith, sum, few)

-- ---- the live rights of a sale

pub few_registrations : (journal : List Receipt) (at : Key → List Entry) (folio a : ℕ) → Kept journal at → length (registrations_found (sale_at journal at folio a)) ≤ 32
few_registrations journal at folio a kept =
    let s = sale_at journal at folio a in
    let entries = case (below a (at (Case folio))) in
    let found = few_found (λ n. option_and_then (registered_by (is_late s n)) (item_at journal n)) (registration_numbers (below a (at (Case folio)))) in
    let size = length-map (filter (λ (e : Entry). is_registration e.what) entries) (λ (e : Entry). e.receipt) in
    let counted = length-filter (λ (e : Entry). is_registration e.what) entries in
    omega (arith, found, size, counted, kept.case_in_order.registrations folio a)

-- how a live right of the sale accrues interest
abbrev pub accrues : Sale → CreatedRight → Accrual
accrues s x = accrual_by (finding_of s) x (at_right s x.id)

pub is_bounded : (s : Sale) (x : CreatedRight) → IsReadAs (at_right s) x → capital_at (read s) s.folio x.id ≤ most_cents → IsBounded (accrues s x)
is_bounded s x own amount =
    let a = accrues s x in
    record {
      capital = amount;
      rate = own.rate;
      days = λ from until. interest_of_years a.capital a.rate _ amount own.rate (arrears_days from until a.entered (year_seized s) (year_at_most (day_of s.journal (number_seized s))));
    }

-- the interest in its class of a live right whose capital is an amount
pub interest_at_most : (journal : List Receipt) (at : Key → List Entry) (folio a : ℕ) (x : CreatedRight) → Kept journal at → IsJournal journal → In x (rights_found (sale_at journal at folio a))
    → capital_at (read (sale_at journal at folio a)) folio x.id ≤ most_cents → interest_of (sale_at journal at folio a) x ≤ 660000000000000
interest_at_most journal at folio a x kept stands there amount =
    let s = sale_at journal at folio a in
    let own = in_all (IsReadAs (at_right s)) (rights_found s) x (recursion_from_All (IsReadAs (at_right s)) (rights_found s) (read_as journal at folio a kept stands)) there in
    let it = accrues s x in
    let bounded = is_bounded s x own amount in
    let current : current_interest it ≤ most_of_term = any_interest it.capital it.rate _ amount own.rate (days_at_most _ _) in
    let arrears = found_at_most false it x.id (registrations_found s) bounded (few_registrations journal at folio a kept) in
    omega (arith, current, arrears)
