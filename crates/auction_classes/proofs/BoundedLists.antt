-- The lists of what is claimed keep within the range of sums.
use Rattle.std.proofs.Common.{ℕ, ◌+◌, ◌*◌, ◌<◌, ◌≤◌, List, [], ◌∷◌, Option, Some, None, filter_map, length, option_and_then, sum_by, ap, ◌∙◌, arith}
use Rattle.std.specs.List.{cons_option}
use Rattle.std.proofs.lemmas.List.{length-map}
use Rattle.gb_base.specs.Limits.{most_sum}
use Rattle.gb_base.specs.RightNo.{RightNo}
use Rattle.act_model.specs.Receiving.{IsJournal, item_at}
use Rattle.act_model.specs.declared.receipts.Receipt.{Receipt}
use Rattle.folio_sections.specs.Cases.{registration_numbers, seizure_numbers}
use Rattle.folio_sections.specs.declared.entries.Entry.{Entry}
use Rattle.folio_line.specs.declared.folio_rights.CreatedRight.{CreatedRight}
use Rattle.auction_classes.specs.LowestBid.{cents_ahead, personal_amount}
use Rattle.auction_classes.specs.Sales.{is_late, registrations_found, sale_day, seizure_by, seizures_found, year_seized}
use Rattle.auction_classes.specs.inner.CaseSales.{CanFind, sale_of_case}
use Rattle.auction_classes.specs.inner.ClaimLists.{AreClaimedIn}
use Rattle.auction_classes.specs.inner.Findings.{finding_of, seized_with}
use Rattle.auction_classes.specs.declared.claim_lists.ClaimLists.{ClaimLists}
use Rattle.auction_classes.proofs.BoundedClaims.{ahead_within, amounts_within, personal_within, seized_within}

pub few_found : {X Y : Type 0} (f : X → Option Y) (xs : List X) → length (filter_map f xs) ≤ length xs
few_found f [] = omega arith
few_found f (x ∷ xs) =
    let few = few_found f xs in
    elim (f x) as (λ o. length (cons_option o (filter_map f xs)) ≤ length (x ∷ xs)) [ None ↦ omega (arith, few) | Some y ↦ omega (arith, few) ]

-- the timely claims of classes 1 and 3, and the claims of personal creditors
pub record KeepWithin (lists : ClaimLists) : Type 0 where
  pub ahead : sum_by cents_ahead lists.items.items < most_sum
  pub personal : sum_by (λ z. personal_amount z.basis) lists.seizures.items < most_sum

pub lists_within : (journal : List Receipt) (entries : List Entry) (a : ℕ) (read : RightNo → List Entry) (title : List Entry) (live : List CreatedRight) (lists : ClaimLists)
    → IsJournal journal → CanFind (sale_of_case journal entries a) → AreClaimedIn (sale_of_case journal entries a) read title live lists
    → length lists.items.items ≤ 4 * length live + 40 → length live ≤ 256 → KeepWithin lists
lists_within journal entries a read title live lists stands can are few lives =
    let s = sale_of_case journal entries a in
    let found = few_found (λ n. option_and_then seizure_by (item_at journal n)) (seizure_numbers entries) in
    let size = ap length are.seizures ∙ length-map (seizures_found s) (seized_with (sale_day s) read) in
    record {
      ahead =
          ahead_within (year_seized s) (registrations_found s) (seizures_found s) (finding_of s) read live lists.items.items
          (amounts_within (is_late s) journal (registration_numbers entries) stands) are.items few lives;
      personal =
          personal_within (sale_day s) read (seizures_found s) lists.seizures.items (seized_within journal (seizure_numbers entries) stands) are.seizures
          (omega (arith, size, found, can.seizures));
    }
