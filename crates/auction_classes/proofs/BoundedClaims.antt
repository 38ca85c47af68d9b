-- The sums of what is claimed do not overflow.
use Rattle.std.proofs.Common.{◌≡◌, ℕ, zero, suc, ◌+◌, ◌-◌, ◌*◌, ◌<◌, ◌≤◌, eqb, Bool, true, false, cond, ◌||◌, nat_lt, List, [], ◌∷◌, ◌++◌, All, IfSome, IsTrue, filter_map, flat_map, length, map, slice_get, sum_by, Option, Some, None, option_and_then, option_map, sym, subst, ◌∙◌, arith}
use Rattle.std.specs.List.{AllByRecursion, cons_option, range_with_len}
use Rattle.std.proofs.lemmas.Bool.Decides.{nat_tests}
use Rattle.std.proofs.lemmas.List.Elements.{All-from_recursion, All-head, All-tail}
use Rattle.std.proofs.lemmas.List.Sums.{sum_by-le}
use Rattle.gb_base.specs.Limits.{most_cents, most_sum}
use Rattle.gb_base.specs.RightNo.{RightNo}
use Rattle.act_model.specs.Receiving.{IsJournal, item_at}
use Rattle.act_model.specs.WellFormed.{well_formed}
use Rattle.act_model.specs.declared.items.Item.{Item}
use Rattle.act_model.specs.declared.items.Item.TheVariants as item
use Rattle.act_model.specs.declared.receipts.Receipt.{Receipt}
use Rattle.act_model.specs.declared.sales.Basis.{Basis}
use Rattle.act_model.specs.declared.sales.Basis.TheVariants as basis
use Rattle.act_model.specs.declared.sales.Registration.{Registration}
use Rattle.act_model.specs.declared.sales.Registration.TheVariants as registration
use Rattle.folio_sections.specs.declared.entries.Entry.{Entry}
use Rattle.folio_sections.proofs.FilteredLists.{all_filtered}
use Rattle.folio_line.specs.declared.folio_rights.CreatedRight.{CreatedRight}
use Rattle.auction_classes.specs.Claims.{claim_after, claim_registered, claims_by, claims_of_right, in_order, in_row, is_claim, of_class, personal_claim}
use Rattle.auction_classes.specs.LowestBid.{cents_ahead, personal_amount}
use Rattle.auction_classes.specs.Sales.{registered_by, seizure_by}
use Rattle.auction_classes.specs.inner.Findings.{right_with, seized_with}
use Rattle.auction_classes.specs.declared.case_items.Registered.{Registered}
use Rattle.auction_classes.specs.declared.case_items.Seizure.{Seizure}
use Rattle.auction_classes.specs.declared.claim_items.Claim.{Claim}
use Rattle.auction_classes.specs.declared.claim_items.ClaimItem.{ClaimItem}
use Rattle.auction_classes.specs.declared.claim_items.SeizedFor.{SeizedFor}
use Rattle.auction_classes.specs.declared.findings.Finding.{Finding}
use Rattle.auction_classes.specs.inner.ClaimRows.{row_after}
use Rattle.auction_classes.proofs.ClaimsInRow.{row_is}

-- ---- what the items of a journal say

-- the amount that is registered
abbrev pub amount_of : Registration → ℕ
amount_of (registration.Advance person amount) = amount
amount_of (registration.PublicCharge person amount due) = amount
amount_of (registration.Arrears right from until) = 0

-- an item that is there is well formed
got_well : (rs : List Receipt) (k : ℕ) → All (λ r. IsTrue (well_formed r.item)) rs → IfSome (option_map (λ (r : Receipt). r.item) (slice_get rs k)) (λ i. IsTrue (well_formed i))
got_well [] k well = tt
got_well (r ∷ rs) zero well = All-head (λ q. IsTrue (well_formed q.item)) r rs well
got_well (r ∷ rs) (suc k) well = got_well rs k (All-tail (λ q. IsTrue (well_formed q.item)) r rs well)

item_well : (journal : List Receipt) (n : ℕ) → IsJournal journal → IfSome (item_at journal n) (λ i. IsTrue (well_formed i))
item_well journal n stands =
    elim (eqb n 0) as (λ b. IfSome (option_map (λ (r : Receipt). r.item) (cond b None (slice_get journal (n - 1)))) (λ i. IsTrue (well_formed i))) [
      | true ↦ tt
      | false ↦ got_well journal (n - 1) stands.items
    ]

amount_well : (late : Bool) (i : Item) → IsTrue (well_formed i) → IfSome (registered_by late i) (λ r. amount_of r.what ≤ most_cents)
amount_well late (item.Register folio (registration.Advance person amount)) well = grind (arith, nat_tests, well)
amount_well late (item.Register folio (registration.PublicCharge person amount due)) well = grind (arith, nat_tests, well)
amount_well late (item.Register folio (registration.Arrears right from until)) well = omega arith
amount_well late other well = tt

claim_well : (i : Item) → IsTrue (well_formed i) → IfSome (seizure_by i) (λ z. personal_amount z.basis ≤ most_cents)
claim_well (item.Seize folio (basis.Personal creditor claim) served) well = grind (arith, nat_tests, well)
claim_well (item.Seize folio (basis.FromRight right) served) well = omega arith
claim_well other well = tt

-- what is made of each item that is there has what each has that is made of a well-formed item
all_made : {X : Type 0} (P : X → Type 0) (make : ℕ → Item → Option X) (journal : List Receipt) (ns : List ℕ) → IsJournal journal
    → ((n : ℕ) (i : Item) → IsTrue (well_formed i) → IfSome (make n i) P)
    → AllByRecursion P (filter_map (λ n. option_and_then (make n) (item_at journal n)) ns)
all_made P make journal [] stands each = tt
all_made P make journal (n ∷ ns) stands each =
    let rest = filter_map (λ m. option_and_then (make m) (item_at journal m)) ns in
    elim (item_at journal n) as (λ o. IfSome o (λ i. IsTrue (well_formed i)) → AllByRecursion P (cons_option (option_and_then (make n) o) rest)) [
      | None ↦ λ _. all_made P make journal ns stands each
      | Some i ↦ λ well.
          elim (make n i) as (λ o. IfSome o P → AllByRecursion P (cons_option o rest)) [
            | None ↦ λ _. all_made P make journal ns stands each
            | Some x ↦ λ has. (has, all_made P make journal ns stands each)
          ] (each n i well)
    ] (item_well journal n stands)

pub amounts_within : (late : ℕ → Bool) (journal : List Receipt) (ns : List ℕ) → IsJournal journal
    → AllByRecursion (λ (r : Registered). amount_of r.what ≤ most_cents) (filter_map (λ n. option_and_then (registered_by (late n)) (item_at journal n)) ns)
amounts_within late journal ns stands =
    all_made (λ (r : Registered). amount_of r.what ≤ most_cents) (λ n. registered_by (late n)) journal ns stands (λ n i well. amount_well (late n) i well)

pub seized_within : (journal : List Receipt) (ns : List ℕ) → IsJournal journal
    → AllByRecursion (λ (z : Seizure). personal_amount z.basis ≤ most_cents) (filter_map (λ n. option_and_then seizure_by (item_at journal n)) ns)
seized_within journal ns stands =
    all_made (λ (z : Seizure). personal_amount z.basis ≤ most_cents) (λ n. seizure_by) journal ns stands (λ n i well. claim_well i well)

-- ---- the claims ahead of the rights

-- what a claim adds to those of classes 1 and 3 is an amount
abbrev IsAmountAhead : Claim → Type 0
IsAmountAhead c = cents_ahead (claim_after None c) ≤ most_cents

part_within : (b : Bool) (amount : ℕ) → amount ≤ most_cents → cond b amount 0 ≤ most_cents
part_within true amount within = within
part_within false amount within = omega arith

pub all_both : {X : Type 0} (P : X → Type 0) (xs ys : List X) → AllByRecursion P xs → AllByRecursion P ys → AllByRecursion P (xs ++ ys)
all_both P [] ys all rest = rest
all_both P (x ∷ xs) ys all rest = (all.0, all_both P xs ys all.1 rest)

registered_ahead : (year : ℕ) (rs : List Registered) → AllByRecursion (λ (r : Registered). amount_of r.what ≤ most_cents) rs
    → AllByRecursion IsAmountAhead (filter_map (λ (r : Registered). claim_registered year r.late r.what) rs)
registered_ahead year [] all = tt
registered_ahead year (r ∷ rs) all = step r.what all.0 _ (registered_ahead year rs all.1)
  where
    step : (w : Registration) → amount_of w ≤ most_cents → (rest : List Claim) → AllByRecursion IsAmountAhead rest → AllByRecursion IsAmountAhead (cons_option (claim_registered year r.late w) rest)
    step (registration.Advance person amount) within rest more = (part_within _ amount within, more)
    step (registration.PublicCharge person amount due) within rest more = (part_within _ amount within, more)
    step (registration.Arrears right from until) within rest more = more

personal_ahead : (zs : List Seizure) → AllByRecursion IsAmountAhead (filter_map (λ (z : Seizure). personal_claim z.basis) zs)
personal_ahead [] = tt
personal_ahead (z ∷ zs) =
    let rest = filter_map (λ (y : Seizure). personal_claim y.basis) zs in
    elim (personal_claim z.basis) as (λ o. IfSome o IsAmountAhead → AllByRecursion IsAmountAhead (cons_option o rest)) [
      | None ↦ λ _. personal_ahead zs
      | Some c ↦ λ is. (is, personal_ahead zs)
    ] (one z.basis)
  where
    one : (b : Basis) → IfSome (personal_claim b) IsAmountAhead
    one (basis.Personal creditor claim) = omega arith
    one (basis.FromRight right) = tt

-- a right claims nothing ahead of the rights
rights_ahead : (f : Finding) (rs : List Registered) (read : RightNo → List Entry) (xs : List CreatedRight)
    → AllByRecursion IsAmountAhead (flat_map claims_of_right (map (λ x. right_with f rs x (read x.id)) xs))
rights_ahead f rs read [] = tt
rights_ahead f rs read (x ∷ xs) =
    let rest = rights_ahead f rs read xs in
    let capital = (right_with f rs x (read x.id)).capital in
    let class : cond (eqb (cond (nat_lt x.id.receipt f.seized) 4 6) 1 || eqb (cond (nat_lt x.id.receipt f.seized) 4 6) 3) capital 0 ≤ most_cents =
    elim (nat_lt x.id.receipt f.seized) as (λ b. cond (eqb (cond b 4 6) 1 || eqb (cond b 4 6) 3) capital 0 ≤ most_cents) [ true ↦ omega arith | false ↦ omega arith ] in
    (class, (omega arith, (omega arith, (omega arith, rest))))

all_ahead : (late : Bool) (cs : List Claim) (ks : List ℕ) → AllByRecursion IsAmountAhead cs → AllByRecursion IsAmountAhead (flat_map (of_class late cs) ks)
all_ahead late cs [] all = tt
all_ahead late cs (k ∷ ks) all = all_both IsAmountAhead (of_class late cs k) (flat_map (of_class late cs) ks) (all_filtered IsAmountAhead _ cs all) (all_ahead late cs ks all)

row_ahead : (before : Option Claim) (cs : List Claim) → AllByRecursion IsAmountAhead cs → AllByRecursion (λ (c : ClaimItem). cents_ahead c ≤ most_cents) (row_after before cs)
row_ahead before [] all = tt
row_ahead before (c ∷ cs) all = (all.0, row_ahead (Some c) cs all.1)

-- the timely claims of classes 1 and 3 are in the range of sums, where they are so many
pub ahead_within : (year : ℕ) (rs : List Registered) (zs : List Seizure) (f : Finding) (read : RightNo → List Entry) (live : List CreatedRight) (items : List ClaimItem)
    → AllByRecursion (λ (r : Registered). amount_of r.what ≤ most_cents) rs
    → items ≡ in_row (in_order (claims_by year rs zs (map (λ x. right_with f rs x (read x.id)) live)))
    → length items ≤ 4 * length live + 40 → length live ≤ 256 → sum_by cents_ahead items < most_sum
ahead_within year rs zs f read live items amounts are few lives =
    let own = all_filtered IsAmountAhead is_claim _ (registered_ahead year rs amounts) in
    let persons = all_filtered IsAmountAhead is_claim _ (personal_ahead zs) in
    let rights = all_filtered IsAmountAhead is_claim _ (rights_ahead f rs read live) in
    let all = all_both IsAmountAhead _ _ own (all_both IsAmountAhead _ _ persons rights) in
    let order = all_both IsAmountAhead _ _ (all_ahead false _ (range_with_len 1 8) all) (all_ahead true _ (range_with_len 1 8) all) in
    let each = subst (AllByRecursion (λ (c : ClaimItem). cents_ahead c ≤ most_cents)) (sym (are ∙ row_is (in_order (claims_by year rs zs (map (λ x. right_with f rs x (read x.id)) live))))) (row_ahead None _ order) in
    let sum = sum_by-le cents_ahead most_cents items (All-from_recursion (λ (c : ClaimItem). cents_ahead c ≤ most_cents) items each) in
    omega (arith, sum, few, lives)

-- what personal creditors seize for is in the range of sums, where the seizures are so many
pub personal_within : (sale : ℕ) (read : RightNo → List Entry) (zs : List Seizure) (list : List SeizedFor)
    → AllByRecursion (λ (z : Seizure). personal_amount z.basis ≤ most_cents) zs → list ≡ map (seized_with sale read) zs → length list ≤ 8
    → sum_by (λ (z : SeizedFor). personal_amount z.basis) list < most_sum
personal_within sale read zs list amounts are few =
    let each = subst (AllByRecursion (λ (z : SeizedFor). personal_amount z.basis ≤ most_cents)) (sym are) (mapped zs amounts) in
    let sum = sum_by-le (λ (z : SeizedFor). personal_amount z.basis) most_cents list (All-from_recursion (λ (z : SeizedFor). personal_amount z.basis ≤ most_cents) list each) in
    omega (arith, sum, few)
  where
    mapped : (ys : List Seizure) → AllByRecursion (λ (z : Seizure). personal_amount z.basis ≤ most_cents) ys
        → AllByRecursion (λ (z : SeizedFor). personal_amount z.basis ≤ most_cents) (map (seized_with sale read) ys)
    mapped [] all = tt
    mapped (y ∷ ys) all = (all.0, mapped ys all.1)
