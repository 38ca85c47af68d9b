-- The lowest bid that is computed without the line is that of the sale.
use Rattle.std.proofs.Common.{◌≡◌, ℕ, ◌+◌, ◌-◌, true, List, Some, None, length, map, min, option_map, sum_by, refl, sym, ap, ◌∙◌, arith}
use Rattle.std.proofs.Math.Nat.{min-eq_right}
use Rattle.gb_base.specs.declared.keys.Key.{Key}
use Rattle.act_model.specs.Receiving.{IsJournal}
use Rattle.act_model.specs.declared.receipts.Receipt.{Receipt}
use Rattle.kept_registers.specs.Kept.{Kept}
use Rattle.folio_sections.specs.declared.entries.Entry.{Entry}
use Rattle.rank_slots.specs.Filled.{line}
use Rattle.auction_classes.specs.Claims.{claims, right_found, rights_found}
use Rattle.auction_classes.specs.ClassLines.{line_of_class}
use Rattle.auction_classes.specs.LowestBid.{bid_by, cents_ahead, lowest_bid, remaining_of}
use Rattle.auction_classes.specs.SaleClaims.{claimed_in}
use Rattle.auction_classes.specs.Sales.{costs_found, sale_at}
use Rattle.auction_classes.specs.inner.WholeBids.{are_personal, before_served, claim_in_four, whole_bid, whole_bid_by}
use Rattle.auction_classes.proofs.WholeCovers.{whole_cover}
use Rattle.auction_classes.proofs.WholeLines.{IsWholeLine, four_kept, four_remain}

-- the bid, where personal creditors seized for so much before the base
bid_is : (journal : List Receipt) (at : Key → List Entry) (folio a before : ℕ) → Kept journal at → IsJournal journal → IsWholeLine (line_of_class (sale_at journal at folio a) 4)
    → whole_bid_by (costs_found (sale_at journal at folio a)) (claims (sale_at journal at folio a)) (map (right_found (sale_at journal at folio a)) (rights_found (sale_at journal at folio a))) before
    ≡ bid_by (claimed_in (sale_at journal at folio a)) (length (line (line_of_class (sale_at journal at folio a) 4)) + before)
bid_is journal at folio a before kept stands whole =
    let s = sale_at journal at folio a in
    let c = claimed_in s in
    let found = map (right_found s) (rights_found s) in
    let long = length (line c.line_four) in
    let ahead = sum_by cents_ahead c.items in
    let same : sum_by claim_in_four found ≡ long = four_kept s ∙ sym whole.long in
    let on_line : long ≡ min (long + before) long = sym (min-eq_right {n = long} {m = long + before} (omega arith)) in
    let remain = four_remain journal at folio a kept stands whole ∙ ap (λ n. sum_by (remaining_of c.line_four n) c.rights) on_line in
    λ i. record {
      total = c.costs + (ahead + (same i + before));
      cash = c.costs + (ahead + (same i + before)) - remain i;
      cover = (same ∙ on_line) i;
    }

pub whole_is_lowest : (journal : List Receipt) (at : Key → List Entry) (folio a : ℕ) → Kept journal at → IsJournal journal → IsWholeLine (line_of_class (sale_at journal at folio a) 4)
    → are_personal (claimed_in (sale_at journal at folio a)).seizures ≡ true
    → whole_bid (costs_found (sale_at journal at folio a)) (claims (sale_at journal at folio a)) (claimed_in (sale_at journal at folio a)).seizures (map (right_found (sale_at journal at folio a)) (rights_found (sale_at journal at folio a)))
    ≡ lowest_bid (claimed_in (sale_at journal at folio a))
whole_is_lowest journal at folio a kept stands whole personal =
    let s = sale_at journal at folio a in
    let c = claimed_in s in
    let found = map (right_found s) (rights_found s) in
    let long = length (line c.line_four) in
    elim (before_served 0 c.seizures) as (λ o. option_map (whole_bid_by c.costs c.items found) o ≡ option_map (bid_by c) (option_map (λ n. long + n) o)) [
      | None ↦ refl
      | Some before ↦ ap Some (bid_is journal at folio a before kept stands whole)
    ]
    ∙ ap (option_map (bid_by c)) (sym (whole_cover c.line_four c.seizures personal))
