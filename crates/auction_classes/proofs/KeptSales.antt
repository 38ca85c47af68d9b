-- What a kept register gives of a sale: it can be found, and its rights are read as they were filed.
use Rattle.std.proofs.Common.{◌≡◌, ℕ, ◌<◌, ◌≤◌, nat_lt, true, false, cond, List, [], ◌∷◌, All, filter, fold, map, slice_get, IfSome, IsSome, IsSomeAnd, Option, Some, None, option_map, refl, sym, ap, subst, ◌∙◌, arith}
use Rattle.std.specs.List.{AllByRecursion}
use Rattle.std.specs.Option.{option_map_or}
use Rattle.std.proofs.lemmas.Bool.{false≢true}
use Rattle.std.proofs.lemmas.Bool.Decides.{nat_tests}
use Rattle.std.proofs.lemmas.List.{length-map}
use Rattle.std.proofs.lemmas.List.Elements.{All-drop, All-filter, All-from_recursion, recursion_from_All}
use Rattle.std.proofs.lemmas.List.Sums.{length-filter}
use Rattle.gb_base.proofs.Members.{In}
use Rattle.gb_base.specs.Limits.{most_rate}
use Rattle.gb_base.specs.RightNo.{RightNo}
use Rattle.gb_base.specs.declared.keys.Key.{Key}
use Rattle.gb_base.specs.declared.keys.Key.TheVariants.{Case, Right}
use Rattle.act_model.specs.Receiving.{IsJournal, item_at, receipt_at}
use Rattle.act_model.specs.WellFormed.{is_right_kind}
use Rattle.act_model.specs.declared.receipts.Receipt.{Receipt}
use Rattle.act_model.specs.declared.rights.RightKind.{RightKind}
use Rattle.act_model.specs.declared.rights.RightKind.TheVariants as kind
use Rattle.folio_sections.specs.Cases.{award_by, case, is_registration, is_seizure, seizure_numbers}
use Rattle.folio_sections.specs.Fronts.{below}
use Rattle.folio_sections.specs.Rights.{created}
use Rattle.folio_sections.specs.declared.entries.Created.{Created}
use Rattle.folio_sections.specs.declared.entries.Entry.{Entry}
use Rattle.folio_sections.specs.declared.entries.What.{What}
use Rattle.folio_sections.specs.declared.entries.What.TheVariants as what
use Rattle.folio_sections.proofs.FilteredLists.{all_in}
use Rattle.folio_sections.proofs.Unchanged.{all_weaker}
use Rattle.kept_registers.specs.Kept.{Kept}
use Rattle.kept_registers.specs.KeptCases.{IsItsItem, StandsByItem}
use Rattle.kept_registers.specs.KeptRights.{EntersAsFiled}
use Rattle.kept_registers.proofs.KeptOrder.{OfCreation, created_has}
use Rattle.folio_line.specs.FolioRights.{is_live_with}
use Rattle.folio_line.specs.declared.folio_rights.CreatedRight.{CreatedRight}
use Rattle.folio_line.proofs.CreatedRights.{IsCreatedHere, enters_here, is_in_ranges}
use Rattle.folio_line.proofs.PlacedOrder.{of_placed_rights}
use Rattle.auction_classes.specs.Claims.{at_right, rights_found}
use Rattle.auction_classes.specs.Interest.{rate_of}
use Rattle.auction_classes.specs.Sales.{read, read_before, sale_at}
use Rattle.auction_classes.specs.inner.CaseSales.{CanFind}
use Rattle.auction_classes.specs.inner.Readings.{IsReadAs}

-- ---- the case

-- what all entries have, all entries of the case have
pub all_of_case : (P : Entry → Type 0) (entries : List Entry) → All P entries → All P (case entries)
all_of_case P entries all = All-drop P _ entries all

-- a content that seizes has its receipt in the journal
abbrev SeizesByReceipt : List Receipt → Entry → Type 0
SeizesByReceipt journal e = is_seizure e.what ≡ true → IsSome (receipt_at journal e.receipt)

received_by : (journal : List Receipt) (folio n : ℕ) → IsSomeAnd (item_at journal n) (IsItsItem folio what.Seized) → IsSome (receipt_at journal n)
received_by journal folio n there = elim (receipt_at journal n) as (λ o. IsSomeAnd (option_map (λ r. r.item) o) (IsItsItem folio what.Seized) → IsSome o) [
  | None ↦ λ none. absurd none
  | Some r ↦ λ _. refl
] there

by_receipt : (journal : List Receipt) (folio : ℕ) (receipt : ℕ) (w : What) → StandsByItem journal folio receipt w → is_seizure w ≡ true → IsSome (receipt_at journal receipt)
by_receipt journal folio receipt what.Seized stands is = received_by journal folio receipt stands
by_receipt journal folio receipt other stands is = absurd (false≢true is)

-- the first of these entries that seizes has its receipt in the journal
first_received : (journal : List Receipt) (entries : List Entry) → AllByRecursion (SeizesByReceipt journal) entries
    → IsSome (slice_get (map (λ (e : Entry). e.receipt) (filter (λ e. is_seizure e.what) entries)) 0)
    → IsSomeAnd (slice_get (map (λ (e : Entry). e.receipt) (filter (λ e. is_seizure e.what) entries)) 0) (λ n. IsSome (receipt_at journal n))
first_received journal [] all some = absurd (false≢true some)
first_received journal (e ∷ es) all some =
    let numbers : List Entry → List ℕ = λ (xs : List Entry). map (λ (d : Entry). d.receipt) xs in
    let rest = filter (λ d. is_seizure d.what) es in
    elim (is_seizure e.what) as (λ b. is_seizure e.what ≡ b → IsSome (slice_get (numbers (cond b (e ∷ rest) rest)) 0)
    → IsSomeAnd (slice_get (numbers (cond b (e ∷ rest) rest)) 0) (λ n. IsSome (receipt_at journal n))) [
      | true ↦ λ is _. all.0 is
      | false ↦ λ _ more. first_received journal es all.1 more
    ] refl some

-- In a kept register a sale of a case that has a seizure can be found.
pub can_find : (journal : List Receipt) (at : Key → List Entry) (folio a : ℕ) → Kept journal at
    → IsSome (slice_get (seizure_numbers (below a (at (Case folio)))) 0) → CanFind (sale_at journal at folio a)
can_find journal at folio a kept runs =
    let entries = case (below a (at (Case folio))) in
    let stands = all_of_case (λ e. StandsByItem journal folio e.receipt e.what) (below a (at (Case folio)))
    (All-filter (λ e. nat_lt e.receipt a) (λ e. StandsByItem journal folio e.receipt e.what) (at (Case folio)) (kept.case_in_order.items folio)) in
    let by = all_weaker (λ (e : Entry). StandsByItem journal folio e.receipt e.what) (SeizesByReceipt journal) entries
    (λ e stand is. by_receipt journal folio e.receipt e.what stand is) (recursion_from_All (λ (e : Entry). StandsByItem journal folio e.receipt e.what) entries stands) in
    let seized = length-map (filter (λ e. is_seizure e.what) entries) (λ (e : Entry). e.receipt) ∙ length-filter (λ e. is_seizure e.what) entries in
    let registered = length-map (filter (λ e. is_registration e.what) entries) (λ (e : Entry). e.receipt) ∙ length-filter (λ e. is_registration e.what) entries in
    record {
      seized = first_received journal entries by runs;
      seizures = omega (arith, seized, kept.case_in_order.seizures folio a);
      registrations = omega (arith, registered, kept.case_in_order.registrations folio a);
    }

-- ---- as of when the folio is read

-- an award below a number
abbrev IsBelow : ℕ → Option ℕ → Type 0
IsBelow a o = IfSome o (λ n. n < a)

award_step : (a receipt : ℕ) (before : Option ℕ) (w : What) → receipt < a → IsBelow a before → IsBelow a (award_by receipt before w)
award_step a receipt before (what.Awarded buyer bid) below_a is = below_a
award_step a receipt before other below_a is = is

award_below : (a : ℕ) (before : Option ℕ) (entries : List Entry) → IsBelow a before → AllByRecursion (λ (e : Entry). e.receipt < a) entries
    → IsBelow a (fold (λ b (e : Entry). award_by e.receipt b e.what) before entries)
award_below a before [] is all = is
award_below a before (e ∷ es) is all = award_below a (award_by e.receipt before e.what) es (award_step a e.receipt before e.what all.0 is) all.1

pub all_below : (a : ℕ) (entries : List Entry) → AllByRecursion (λ (e : Entry). e.receipt < a) (below a entries)
all_below a [] = tt
all_below a (e ∷ es) = elim (nat_lt e.receipt a) as (λ b. nat_lt e.receipt a ≡ b → AllByRecursion (λ (d : Entry). d.receipt < a) (cond b (e ∷ below a es) (below a es))) [
  | true ↦ λ is. (grind (arith, nat_tests, is), all_below a es)
  | false ↦ λ _. all_below a es
] refl

-- a folio is read as of no later than the item
pub read_within : (journal : List Receipt) (at : Key → List Entry) (folio a : ℕ) → read_before (sale_at journal at folio a) ≤ a
read_within journal at folio a =
    let entries = below a (at (Case folio)) in
    let all = recursion_from_All (λ (e : Entry). e.receipt < a) (case entries)
    (all_of_case (λ e. e.receipt < a) entries (All-from_recursion (λ (e : Entry). e.receipt < a) entries (all_below a (at (Case folio))))) in
    let award = fold (λ b (e : Entry). award_by e.receipt b e.what) None (case entries) in
    elim award as (λ o. IsBelow a o → option_map_or (λ n. n) o a ≤ a) [
      | None ↦ λ _. omega arith
      | Some n ↦ λ is. omega (arith, is)
    ] (award_below a None (case entries) tt all)

-- what stood before a receipt stood before a later one too
pub below_twice : (n a : ℕ) (entries : List Entry) → n ≤ a → below n (below a entries) ≡ below n entries
below_twice n a [] within = refl
below_twice n a (e ∷ es) within =
    elim (nat_lt e.receipt a) as (λ b. nat_lt e.receipt a ≡ b → below n (cond b (e ∷ below a es) (below a es)) ≡ cond (nat_lt e.receipt n) (e ∷ below n es) (below n es)) [
      | true ↦ λ _. ap (λ rest. cond (nat_lt e.receipt n) (e ∷ rest) rest) (below_twice n a es within)
      | false ↦ λ late.
          let later : nat_lt e.receipt n ≡ false = grind (arith, nat_tests, late, within) in
          below_twice n a es within ∙ sym (ap (λ b. cond b (e ∷ below n es) (below n es)) later)
    ] refl

-- ---- the rights

rate_within : (k : RightKind) → is_right_kind k ≡ true → rate_of k ≤ most_rate
rate_within (kind.Mortgage rate) well = grind (arith, nat_tests, well)
rate_within (kind.LandCharge rate) well = grind (arith, nat_tests, well)
rate_within other well = omega arith

-- a right that stood before a receipt is as it was filed
pub created_here : (journal : List Receipt) (at : Key → List Entry) (folio n a : ℕ) (id : RightNo) (made : Created) → Kept journal at
    → created (below n (below a (at (Right folio id)))) ≡ Some made → IsCreatedHere journal folio id made
created_here journal at folio n a id made kept is =
    let entries = below n (below a (at (Right folio id))) in
    let filed = All-filter (λ e. nat_lt e.receipt n) (λ e. EntersAsFiled journal at folio id e.receipt e.what) (below a (at (Right folio id)))
    (All-filter (λ e. nat_lt e.receipt a) (λ e. EntersAsFiled journal at folio id e.receipt e.what) (at (Right folio id)) (kept.created_as_filed.filed folio id)) in
    let creates = all_weaker (λ (e : Entry). EntersAsFiled journal at folio id e.receipt e.what) (λ (e : Entry). OfCreation (IsCreatedHere journal folio id) e.what) entries
    (λ e enters. enters_here journal at folio id e.receipt e.what enters) (recursion_from_All (λ (e : Entry). EntersAsFiled journal at folio id e.receipt e.what) entries filed) in
    subst (λ o. IfSome o (IsCreatedHere journal folio id)) is (created_has (IsCreatedHere journal folio id) entries creates)

-- In a kept register the live rights of a sale are as they are read, with rates in their range.
pub read_as : (journal : List Receipt) (at : Key → List Entry) (folio a : ℕ) → Kept journal at → IsJournal journal
    → All (IsReadAs (at_right (sale_at journal at folio a))) (rights_found (sale_at journal at folio a))
read_as journal at folio a kept stands =
    let s = sale_at journal at folio a in
    let each : (x : CreatedRight) → In x (rights_found s) → IsReadAs (at_right s) x = λ x there.
    let made = (of_placed_rights is_live_with (read s) folio x there).made in
    let here = created_here journal at folio (read_before s) a x.id x.made kept made in
    record { made = made; rate = rate_within x.made.spec.kind (is_in_ranges journal folio x.id x.made stands here).kind } in
    All-from_recursion (IsReadAs (at_right s)) (rights_found s) (all_in (IsReadAs (at_right s)) (rights_found s) each)
