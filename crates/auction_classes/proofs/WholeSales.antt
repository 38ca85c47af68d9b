-- A sale whose live rights are read, and no exchange: what is found of it, its sums, and its lowest bid.
use Rattle.std.proofs.Common.{◌≡◌, ℕ, ◌+◌, ◌*◌, ◌<◌, ◌≤◌, true, List, All, IsSome, length, map, slice_get, sum_by, refl, sym, ap, subst, ◌∙◌, arith}
use Rattle.gb_base.specs.Limits.{most_sum}
use Rattle.gb_base.specs.declared.keys.Key.{Key}
use Rattle.gb_base.specs.declared.keys.Key.TheVariants.{Right}
use Rattle.folio_sections.specs.Cases.{seizure_numbers}
use Rattle.folio_sections.specs.declared.entries.Entry.{Entry}
use Rattle.rank_slots.specs.CanFill.{CanFill}
use Rattle.rank_slots.specs.Filled.{Filled}
use Rattle.folio_line.specs.Exchanges.{counted_exchanges, counted_exercises}
use Rattle.folio_line.specs.FolioLine.{IsLineOf, LineState}
use Rattle.folio_line.specs.FolioRights.{live_rights, rights_where}
use Rattle.folio_line.specs.FolioSlots.{stands_on_line}
use Rattle.folio_line.specs.declared.folio_rights.CreatedRight.{CreatedRight}
use Rattle.auction_classes.specs.LowestBid.{lowest_bid}
use Rattle.auction_classes.specs.SaleClaims.{claimed_in}
use Rattle.auction_classes.specs.Sales.{sale_day, seizures_found}
use Rattle.auction_classes.specs.inner.CaseSales.{sale_of_case}
use Rattle.auction_classes.specs.inner.ClaimLists.{AreClaimedIn}
use Rattle.auction_classes.specs.inner.Findings.{finding_of, seized_with}
use Rattle.auction_classes.specs.inner.LinesRead.{HasLowInterest}
use Rattle.auction_classes.specs.inner.WholeBids.{HaveWholeBid, are_personal, claim_in_four, whole_bid}
use Rattle.auction_classes.specs.declared.claim_lists.ClaimLists.{ClaimLists}
use Rattle.auction_classes.specs.declared.findings.Finding.{Finding}
use Rattle.auction_classes.proofs.BoundedLists.{lists_within}
use Rattle.auction_classes.proofs.ClassFills.{class_can_fill}
use Rattle.auction_classes.proofs.EarlierRights.{filed_at_most}
use Rattle.auction_classes.proofs.SalesAsRead.{same_seizures}
use Rattle.auction_classes.proofs.SalesFilled.{found_is, lists_are}
use Rattle.auction_classes.proofs.SalesHeld.{IsSaleRead, SaleReading, can_find_case, case_is, reads_in, sale_in, sale_live_few, sale_read_alike}
use Rattle.auction_classes.proofs.WholeBids.{whole_is_lowest}
use Rattle.auction_classes.proofs.WholeLines.{IsWholeLine, four_within}

-- ---- the live rights

-- the line of a folio, where these are its live rights
abbrev pub line_with : (Key → List Entry) → ℕ → List CreatedRight → LineState
line_with at folio live = record {
  rights = rights_where (stands_on_line (counted_exchanges at folio)) at folio;
  live = live;
  exchanges = counted_exchanges at folio;
  exercises = counted_exercises at folio;
  right_room = 0;
  exchange_room = 0;
  capacity = 0;
}

pub is_line_with : (at : Key → List Entry) (folio : ℕ) (live : List CreatedRight) → live ≡ live_rights at folio → IsLineOf at folio (line_with at folio live)
is_line_with at folio live is = record { rights = refl; live = is; exchanges = refl; exercises = refl }

-- ---- the seizures

-- the seizures as they are read, with whether each is served, are those of the sale
pub seized_as_read : (r : SaleReading) (register : Key → List Entry) → IsSaleRead r register
    → map (seized_with (sale_day (sale_of_case r.journal r.entries r.item)) (λ id. reads_in r (Right r.folio id))) (seizures_found (sale_of_case r.journal r.entries r.item)) ≡ (claimed_in (sale_in r register)).seizures
seized_as_read r register is =
    let case = case_is r register is in
    (λ i. map (seized_with (sale_day (sale_of_case r.journal (sym case i) r.item)) (λ id. reads_in r (Right r.folio id))) (seizures_found (sale_of_case r.journal (sym case i) r.item)))
    ∙ same_seizures (sale_in r register) (reads_in r) (sale_read_alike r register is)

-- ---- what is found

-- The lists have what is claimed by these live rights.
pub record IsFoundWhole (r : SaleReading) (live : List CreatedRight) (finding : Finding) (lists : ClaimLists) : Type 0 where
  pub living : live ≡ live_rights (reads_in r) r.folio
  pub found : finding ≡ finding_of (sale_of_case r.journal r.entries r.item)
  pub claimed : AreClaimedIn (sale_of_case r.journal r.entries r.item) (λ id. reads_in r (Right r.folio id)) r.title live lists

-- the sums of these lists are in range
pub whole_sums : (r : SaleReading) (register : Key → List Entry) (live : List CreatedRight) (finding : Finding) (lists : ClaimLists) → IsSaleRead r register → IsFoundWhole r live finding lists
    → IsSome (slice_get (seizure_numbers r.entries) 0) → length lists.items.items ≤ 4 * length live + 40 → All HasLowInterest lists.found.items → HaveWholeBid lists
whole_sums r register live finding lists is whole runs few low =
    let of_line = is_line_with (reads_in r) r.folio live whole.living in
    let some = sale_live_few r register (line_with (reads_in r) r.folio live) is of_line in
    let most = filed_at_most r.journal r.folio r.before in
    let within =
    lists_within r.journal r.entries r.item (λ id. reads_in r (Right r.folio id)) r.title live lists is.received (can_find_case r register is runs) whole.claimed few (omega (arith, some, most)) in
    let found = (lists_are r register (line_with (reads_in r) r.folio live) lists is of_line whole.claimed).found in
    record {
      ahead = within.ahead;
      personal = within.personal;
      four = subst (λ xs. sum_by claim_in_four xs < most_sum) (sym found) (four_within r.journal register r.folio r.item is.kept is.received);
      interest = low;
    }

-- the lowest bid by these lists is that of the sale
pub whole_lowest : (r : SaleReading) (register : Key → List Entry) (live : List CreatedRight) (finding : Finding) (costs : ℕ) (lists : ClaimLists) → IsSaleRead r register → IsFoundWhole r live finding lists
    → costs ≡ finding.costs → ((filled : Filled) → CanFill filled → IsWholeLine filled) → are_personal (claimed_in (sale_in r register)).seizures ≡ true
    → whole_bid costs lists.items.items lists.seizures.items lists.found.items ≡ lowest_bid (claimed_in (sale_in r register))
whole_lowest r register live finding costs lists is whole named law personal =
    let of_line = is_line_with (reads_in r) r.folio live whole.living in
    let are = lists_are r register (line_with (reads_in r) r.folio live) lists is of_line whole.claimed in
    let costs_are = named ∙ ap (λ (f : Finding). f.costs) (found_is r register finding is whole.found) in
    (λ i. whole_bid (costs_are i) (are.items i) (are.seizures i) (are.found i))
    ∙ whole_is_lowest r.journal register r.folio r.item is.kept is.received (law _ (class_can_fill r.journal register r.folio r.item 4 is.kept is.received)) personal
