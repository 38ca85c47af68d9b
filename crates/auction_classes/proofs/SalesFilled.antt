-- What is written of a sale is what is claimed in it, and can be computed with.
use Rattle.std.proofs.Common.{◌≡◌, ℕ, ◌<◌, ◌≤◌, IsSome, List, length, slice_get, sym, ap, subst, ◌∙◌}
use Rattle.gb_base.specs.Limits.{most_sum}
use Rattle.gb_base.specs.declared.keys.Key.{Key}
use Rattle.gb_base.specs.declared.keys.Key.TheVariants.{Right}
use Rattle.folio_sections.specs.Cases.{seizure_numbers}
use Rattle.folio_sections.specs.Titles.{owners}
use Rattle.folio_sections.specs.declared.entries.Entry.{Entry}
use Rattle.folio_line.specs.FolioLine.{IsLineOf, LineState}
use Rattle.rank_slots.specs.CanFill.{CanFill}
use Rattle.auction_classes.specs.ClassLines.{line_of_class}
use Rattle.auction_classes.specs.PayableClaims.{IsPayable}
use Rattle.auction_classes.specs.SaleClaims.{SaleClaims, claimed_in}
use Rattle.auction_classes.specs.inner.CaseSales.{sale_of_case}
use Rattle.auction_classes.specs.inner.ClaimLists.{AreClaimedIn, AreClaimsOf}
use Rattle.auction_classes.specs.inner.Findings.{finding_of}
use Rattle.auction_classes.specs.inner.LinesRead.{line_read}
use Rattle.auction_classes.specs.Computable.{AreOnLine, CanCoverServed, IsComputable, filled_of}
use Rattle.auction_classes.specs.declared.claim_lists.ClaimLists.{ClaimLists}
use Rattle.auction_classes.specs.declared.class_lines.ClassLine.{ClassLine}
use Rattle.auction_classes.specs.declared.findings.Finding.{Finding}
use Rattle.auction_classes.proofs.BoundedLists.{KeepWithin}
use Rattle.auction_classes.proofs.ClassFills.{class_can_fill}
use Rattle.auction_classes.proofs.LinesAsRead.{line_as_read}
use Rattle.auction_classes.proofs.OwnedCases.{owners_found}
use Rattle.auction_classes.proofs.RightsOnLine.{rights_on_line, served_on_line}
use Rattle.auction_classes.proofs.SalesAsRead.{claimed_as_read, finding_as_read}
use Rattle.auction_classes.proofs.SalesPayable.{sale_payable}
use Rattle.auction_classes.proofs.SalesHeld.{IsSaleRead, SaleReading, case_is, reads_in, sale_in, sale_read_alike, sale_read_from}

-- the claims in these lists
abbrev pub written : ℕ → ClaimLists → ClassLine → ClassLine → SaleClaims
written costs lists four six = record {
  items = lists.items.items;
  costs = costs;
  owners = lists.owners.items;
  seizures = lists.seizures.items;
  rights = lists.rights.items;
  line_four = filled_of four;
  line_six = filled_of six;
}

-- The lists are written from the line of the folio as it is read, and from what is found of the sale.
pub record AreWritten (r : SaleReading) (line : LineState) (finding : Finding) (costs : ℕ) (lists : ClaimLists) (four six : ClassLine) : Type 0 where
  pub of_line : IsLineOf (reads_in r) r.folio line
  pub found : finding ≡ finding_of (sale_of_case r.journal r.entries r.item)
  pub named : costs ≡ finding.costs
  pub claimed : AreClaimedIn (sale_of_case r.journal r.entries r.item) (λ id. reads_in r (Right r.folio id)) r.title line.live lists
  pub in_four : filled_of four ≡ line_read (record { seized = finding.seized; number = 4 }) (reads_in r) r.folio lists.found.items line
  pub in_six : filled_of six ≡ line_read (record { seized = finding.seized; number = 6 }) (reads_in r) r.folio lists.found.items line

-- ---- what is claimed

pub found_is : (r : SaleReading) (register : Key → List Entry) (finding : Finding) → IsSaleRead r register → finding ≡ finding_of (sale_of_case r.journal r.entries r.item) → finding ≡ finding_of (sale_in r register)
found_is r register finding is found = found ∙ finding_as_read r.journal register r.folio r.item r.entries (case_is r register is)

pub lists_are : (r : SaleReading) (register : Key → List Entry) (line : LineState) (lists : ClaimLists) → IsSaleRead r register → IsLineOf (reads_in r) r.folio line
    → AreClaimedIn (sale_of_case r.journal r.entries r.item) (λ id. reads_in r (Right r.folio id)) r.title line.live lists → AreClaimsOf (sale_in r register) lists
lists_are r register line lists is of_line claimed =
    claimed_as_read r.journal register r.folio r.item r.entries (reads_in r) r.title line.live lists (sale_read_from r register line is of_line) claimed

-- the line of a class that is written is that of the sale
line_is : (r : SaleReading) (register : Key → List Entry) (line : LineState) (finding : Finding) (costs : ℕ) (lists : ClaimLists) (four six own : ClassLine) (class : ℕ) → IsSaleRead r register
    → AreWritten r line finding costs lists four six → filled_of own ≡ line_read (record { seized = finding.seized; number = class }) (reads_in r) r.folio lists.found.items line
    → filled_of own ≡ line_of_class (sale_in r register) class
line_is r register line finding costs lists four six own class is are written_so =
    let found = found_is r register finding is are.found in
    written_so ∙ (λ i. line_read (record { seized = ap (λ (f : Finding). f.seized) found i; number = class }) (reads_in r) r.folio lists.found.items line)
    ∙ line_as_read (sale_in r register) (reads_in r) class line lists.found.items (sale_read_alike r register is) are.of_line (lists_are r register line lists is are.of_line are.claimed).found

pub written_is : (r : SaleReading) (register : Key → List Entry) (line : LineState) (finding : Finding) (costs : ℕ) (lists : ClaimLists) (four six : ClassLine) → IsSaleRead r register → AreWritten r line finding costs lists four six
    → written costs lists four six ≡ claimed_in (sale_in r register)
written_is r register line finding costs lists four six is are =
    let claims = lists_are r register line lists is are.of_line are.claimed in
    let costs_are = are.named ∙ ap (λ (f : Finding). f.costs) (found_is r register finding is are.found) in
    let of_four = line_is r register line finding costs lists four six four 4 is are are.in_four in
    let of_six = line_is r register line finding costs lists four six six 6 is are are.in_six in
    λ i. record {
      items = claims.items i;
      costs = costs_are i;
      owners = claims.owned i;
      seizures = claims.seizures i;
      rights = claims.rights i;
      line_four = of_four i;
      line_six = of_six i;
    }

-- ---- it can be computed with

pub written_computable : (r : SaleReading) (register : Key → List Entry) (line : LineState) (finding : Finding) (costs : ℕ) (lists : ClaimLists) (four six : ClassLine) → IsSaleRead r register → AreWritten r line finding costs lists four six
    → costs < most_sum → KeepWithin lists → IsComputable (written costs lists four six)
written_computable r register line finding costs lists four six is are few within =
    let same = sym (written_is r register line finding costs lists four six is are) in
    let of_four = line_is r register line finding costs lists four six four 4 is are are.in_four in
    let of_six = line_is r register line finding costs lists four six six 6 is are are.in_six in
    record {
      four = subst CanFill (sym of_four) (class_can_fill r.journal register r.folio r.item 4 is.kept is.received);
      six = subst CanFill (sym of_six) (class_can_fill r.journal register r.folio r.item 6 is.kept is.received);
      costs = few;
      ahead = within.ahead;
      personal = within.personal;
      seized = subst (λ (c : SaleClaims). CanCoverServed c.line_four c.seizures) same (served_on_line r.journal register r.folio r.item is.kept is.received);
      rights = subst (λ (c : SaleClaims). AreOnLine c.line_four c.rights) same (rights_on_line r.journal register r.folio r.item is.kept is.received);
    }

-- ---- and it can be paid

-- the register names owners for the sale where it has a seizure
pub written_owned : (r : SaleReading) (register : Key → List Entry) (line : LineState) → IsSaleRead r register → IsLineOf (reads_in r) r.folio line → IsSome (slice_get (seizure_numbers r.entries) 0) → IsSome (owners r.title)
written_owned r register line is of_line runs =
    let case = case_is r register is in
    let found = owners_found r.journal register r.folio r.item is.kept (subst (λ es. IsSome (slice_get (seizure_numbers es) 0)) (sym case) runs) in
    subst (λ es. IsSome (owners es)) (sale_read_from r register line is of_line).owned found

pub written_payable : (r : SaleReading) (register : Key → List Entry) (line : LineState) (finding : Finding) (costs : ℕ) (lists : ClaimLists) (four six : ClassLine) → IsSaleRead r register → AreWritten r line finding costs lists four six
    → 1 ≤ length lists.owners.items → IsPayable (written costs lists four six)
written_payable r register line finding costs lists four six is are owned =
    let same = written_is r register line finding costs lists four six is are in
    let some : 1 ≤ length (claimed_in (sale_in r register)).owners = subst (λ (c : SaleClaims). 1 ≤ length c.owners) same owned in
    subst IsPayable (sym same) (sale_payable r.journal register r.folio r.item is.kept is.received some)
