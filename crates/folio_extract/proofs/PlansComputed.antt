-- The plan of a distribution, computed from what is claimed and from the money.
use Rattle.std.proofs.Common.{◌≡◌, ℕ, ◌≤◌, List, [], IsSomeAnd, sym, ap, subst}
use Rattle.std.specs.Option.{option_map_or}
use Rattle.auction_classes.specs.LowestBid.{lowest_bid}
use Rattle.auction_classes.specs.SaleClaims.{SaleClaims, claimed_in}
use Rattle.auction_classes.specs.Sales.{Sale}
use Rattle.sale_rules.specs.SaleGrounds.{lowest}
use Rattle.sale_rules.specs.SaleMoney.{money}
use Rattle.proceeds_split.specs.Plan.{plan_of}
use Rattle.proceeds_split.specs.declared.plan_lines.PlanLine.{PlanLine}
use Rattle.folio_extract.specs.PlanCsv.{csv_of_lines}
use Rattle.folio_extract.specs.PlanTexts.{plan_with}
use Rattle.folio_extract.specs.Plans.{plan_in_csv, plan_in_words, plan_lines}

pub plan_as_computed : (s : Sale) (claimed : SaleClaims) (cents : ℕ) → claimed ≡ claimed_in s → cents ≡ money s
    → option_map_or (λ least. plan_of claimed least cents) (lowest_bid claimed) [] ≡ plan_lines s
plan_as_computed s claimed cents same whole = λ i. option_map_or (λ least. plan_of (same i) least (whole i)) (lowest_bid (same i)) []

pub covered_as_computed : (s : Sale) (claimed : SaleClaims) (cents : ℕ) → claimed ≡ claimed_in s → cents ≡ money s
    → IsSomeAnd (lowest s) (λ least. least.cash ≤ money s) → IsSomeAnd (lowest_bid claimed) (λ least. least.cash ≤ cents)
covered_as_computed s claimed cents same whole covered =
    subst (λ c. IsSomeAnd (lowest_bid c) (λ least. least.cash ≤ cents)) (sym same)
    (subst (λ m. IsSomeAnd (lowest s) (λ least. least.cash ≤ m)) (sym whole) covered)

pub words_as_computed : (s : Sale) (cents : ℕ) (lines : List PlanLine) → cents ≡ money s → lines ≡ plan_lines s → plan_with s.folio s.item cents lines ≡ plan_in_words s
unfolding plan_in_words
words_as_computed s cents lines whole same = λ i. plan_with s.folio s.item (whole i) (same i)

pub list_as_computed : (s : Sale) (lines : List PlanLine) → lines ≡ plan_lines s → csv_of_lines lines ≡ plan_in_csv s
unfolding plan_in_csv
list_as_computed s lines same = ap csv_of_lines same
