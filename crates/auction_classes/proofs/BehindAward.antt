-- The lowest bid after an award is the one that the award found: nothing that counts in it comes to a case after its award.
use Rattle.std.proofs.Common.{◌≡◌, ℕ, ◌-◌, ◌<◌, Bool, true, false, List, [], ◌∷◌, ◌++◌, filter, filter_map, fold, map, slice_get, IfSome, Option, Some, None, option_and_then, refl, sym, ap, subst, ◌∙◌, arith}
use Rattle.std.specs.List.{AllByRecursion, cons_option}
use Rattle.std.specs.Option.{option_map_or}
use Rattle.std.proofs.lemmas.Bool.{false≢true}
use Rattle.std.proofs.lemmas.Bool.Decides.{nat_tests}
use Rattle.std.proofs.lemmas.List.{append-nil, map-append}
use Rattle.std.proofs.lemmas.List.Elements.{filter-append, filter_map-append}
use Rattle.std.proofs.lemmas.List.Sums.{fold-append}
use Rattle.gb_base.specs.Calendar.{date_of}
use Rattle.gb_base.specs.declared.keys.Key.{Key}
use Rattle.gb_base.specs.declared.keys.Key.TheVariants.{Case}
use Rattle.act_model.specs.Receiving.{day_of, item_at}
use Rattle.act_model.specs.declared.items.Item.{Item}
use Rattle.act_model.specs.declared.items.Item.TheVariants as item
use Rattle.act_model.specs.declared.receipts.Receipt.{Receipt}
use Rattle.folio_sections.specs.Cases.{award, call, call_by, case, is_registration, is_seizure, registration_numbers, seizure_numbers}
use Rattle.folio_sections.specs.Fronts.{below}
use Rattle.folio_sections.specs.declared.entries.Entry.{Entry}
use Rattle.folio_sections.specs.declared.entries.What.{What}
use Rattle.folio_sections.specs.declared.entries.What.TheVariants as what
use Rattle.folio_sections.proofs.FilteredLists.{all_filtered, filter_none, filter_skips}
use Rattle.folio_sections.proofs.Unchanged.{all_weaker}
use Rattle.auction_classes.specs.Interest.{new_year}
use Rattle.auction_classes.specs.LowestBid.{lowest_bid}
use Rattle.auction_classes.specs.SaleClaims.{claimed_in}
use Rattle.auction_classes.specs.Sales.{costs_found, costs_named, number_called, read, read_before, registered_by, registrations_found, sale_at, seizure_by, seizures_found}
use Rattle.auction_classes.specs.inner.Findings.{finding_of, is_late_by}
use Rattle.auction_classes.specs.declared.case_items.Registered.{Registered}
use Rattle.auction_classes.proofs.ClaimsStay.{call_below, case_is_below}
use Rattle.auction_classes.proofs.KeptSales.{below_twice}
use Rattle.auction_classes.proofs.LateClaims.{AllLate, lowest_behind_late}

-- a content neither seizes the land, calls to bid nor awards
abbrev pub leaves_award : What → Bool
leaves_award what.Seized = false
leaves_award (what.Bids costs) = false
leaves_award (what.Awarded buyer bid) = false
leaves_award other = true

-- The case of these entries has its award by receipt a: ahead of it stands what stood before that receipt, with no award, and behind it
-- entries of the case by later receipts that neither seize, call nor award.
pub record IsAwardedIn (entries : List Entry) (a : ℕ) : Type 0 where
  pub before : List Entry
  pub entry : Entry
  pub after : List Entry
  pub buyer : ℕ
  pub bid : ℕ
  pub is : entries ≡ before ++ entry ∷ after
  pub case_is : case entries ≡ case before ++ entry ∷ after
  pub by : entry.receipt ≡ a
  pub awards : entry.what ≡ what.Awarded buyer bid
  pub found : below a entries ≡ before
  pub none_yet : award before ≡ None
  pub later : AllByRecursion (λ (e : Entry). (a < e.receipt) × (leaves_award e.what ≡ true)) after

no_seizure : (w : What) → leaves_award w ≡ true → is_seizure w ≡ false
no_seizure what.Seized leaves = sym leaves
no_seizure other leaves = refl

no_call : (receipt : ℕ) (b : Option ℕ) (w : What) → leaves_award w ≡ true → call_by receipt b w ≡ b
no_call receipt b (what.Bids costs) leaves = absurd (false≢true leaves)
no_call receipt b other leaves = refl

-- ---- what the case says

abbrev seizes : Entry → Bool
seizes e = is_seizure e.what

abbrev registers : Entry → Bool
registers e = is_registration e.what

abbrev numbers : List Entry → List ℕ
numbers entries = map (λ (e : Entry). e.receipt) entries

call_stays : (a : ℕ) (b : Option ℕ) (xs : List Entry) → AllByRecursion (λ (e : Entry). (a < e.receipt) × (leaves_award e.what ≡ true)) xs
    → fold (λ c (e : Entry). call_by e.receipt c e.what) b xs ≡ b
call_stays a b [] all = refl
call_stays a b (x ∷ xs) all = ap (λ c. fold (λ d (e : Entry). call_by e.receipt d e.what) c xs) (no_call x.receipt b x.what all.0.1) ∙ call_stays a b xs all.1

numbers_later : (a : ℕ) (xs : List Entry) → AllByRecursion (λ (e : Entry). (a < e.receipt) × (leaves_award e.what ≡ true)) xs → AllByRecursion (λ m. a < m) (numbers xs)
numbers_later a [] all = tt
numbers_later a (x ∷ xs) all = (all.0.0, numbers_later a xs all.1)

module _ (entries : List Entry) (a : ℕ) (awarded : IsAwardedIn entries a) where
  seizures_are : seizure_numbers entries ≡ seizure_numbers awarded.before
  seizures_are =
      let rest = awarded.entry ∷ awarded.after in
      let none = filter_none seizes rest (ap is_seizure awarded.awards, all_weaker (λ (e : Entry). (a < e.receipt) × (leaves_award e.what ≡ true)) (λ e. seizes e ≡ false) awarded.after (λ e is. no_seizure e.what is.1) awarded.later) in
      ap (λ xs. numbers (filter seizes xs)) awarded.case_is
      ∙ ap numbers (filter-append seizes (case awarded.before) rest ∙ ap (λ xs. filter seizes (case awarded.before) ++ xs) none ∙ append-nil (filter seizes (case awarded.before)))

  pub call_is : call entries ≡ call awarded.before
  call_is =
      let walk : Option ℕ → Entry → Option ℕ = λ b e. call_by e.receipt b e.what in
      ap (fold walk None) awarded.case_is ∙ fold-append walk None (case awarded.before) (awarded.entry ∷ awarded.after)
      ∙ ap (λ b. fold walk b awarded.after) (ap (call_by awarded.entry.receipt (call awarded.before)) awarded.awards) ∙ call_stays a (call awarded.before) awarded.after awarded.later

  -- registrations after the award come behind those before it
  registrations_are : registration_numbers entries ≡ registration_numbers awarded.before ++ numbers (filter registers awarded.after)
  registrations_are =
      let rest = awarded.entry ∷ awarded.after in
      ap (λ xs. numbers (filter registers xs)) awarded.case_is ∙ ap numbers (filter-append registers (case awarded.before) rest)
      ∙ map-append (λ (e : Entry). e.receipt) (filter registers (case awarded.before)) (filter registers rest)
      ∙ ap (λ xs. registration_numbers awarded.before ++ numbers xs) (filter_skips registers awarded.entry awarded.after (ap is_registration awarded.awards))

  -- registrations after the award are late
  behind_call : (m : ℕ) → a < m → is_late_by (call awarded.before) m ≡ true
  behind_call m later =
      elim (call awarded.before) as (λ o. IfSome o (λ c. c < a) → is_late_by o m ≡ true) [
        | None ↦ λ _. refl
        | Some c ↦ λ less. grind (arith, nat_tests, less, later)
      ] (subst (λ xs. IfSome (call xs) (λ c. c < a)) awarded.found (call_below a None (case (below a entries)) tt (case_is_below a entries)))

-- ---- late registrations

registers_late : (late : Bool) → late ≡ true → (o : Option Item) → IfSome (option_and_then (registered_by late) o) (λ (r : Registered). r.late ≡ true)
registers_late late is None = tt
registers_late late is (Some (item.Register folio what)) = is
registers_late late is (Some other) = tt

all_late : (journal : List Receipt) (called : Option ℕ) (ms : List ℕ) → AllByRecursion (λ m. is_late_by called m ≡ true) ms
    → AllLate (filter_map (λ m. option_and_then (registered_by (is_late_by called m)) (item_at journal m)) ms)
all_late journal called [] behind = tt
all_late journal called (m ∷ ms) behind =
    let found = filter_map (λ k. option_and_then (registered_by (is_late_by called k)) (item_at journal k)) ms in
    elim (option_and_then (registered_by (is_late_by called m)) (item_at journal m)) as (λ o. IfSome o (λ (r : Registered). r.late ≡ true) → AllLate (cons_option o found)) [
      | None ↦ λ _. all_late journal called ms behind.1
      | Some r ↦ λ is. (is, all_late journal called ms behind.1)
    ] (registers_late (is_late_by called m) behind.0 (item_at journal m))

-- ---- the sale after the award

module _ (journal : List Receipt) (stands : Key → List Entry) (folio n a : ℕ) (less : a < n) (awarded : IsAwardedIn (below n (stands (Case folio))) a)
    (award_is : award (below n (stands (Case folio))) ≡ Some a) (no_call_n : option_and_then costs_named (item_at journal n) ≡ None) (no_call_a : option_and_then costs_named (item_at journal a) ≡ None) where
  -- what the award finds at the case
  case_then : below a (stands (Case folio)) ≡ awarded.before
  case_then = sym (below_twice a n (stands (Case folio)) (omega (arith, less))) ∙ awarded.found

  pub called : number_called (sale_at journal stands folio n) ≡ number_called (sale_at journal stands folio a)
  called =
      ap (λ o. option_map_or (λ costs. Some n) o (call (below n (stands (Case folio))))) no_call_n ∙ call_is (below n (stands (Case folio))) a awarded
      ∙ sym (ap (λ o. option_map_or (λ costs. Some a) o (call (below a (stands (Case folio))))) no_call_a ∙ ap call case_then)

  called_then : number_called (sale_at journal stands folio a) ≡ call awarded.before
  called_then = ap (λ o. option_map_or (λ costs. Some a) o (call (below a (stands (Case folio))))) no_call_a ∙ ap call case_then

  seizures_then : seizure_numbers (below n (stands (Case folio))) ≡ seizure_numbers (below a (stands (Case folio)))
  seizures_then = seizures_are (below n (stands (Case folio))) a awarded ∙ sym (ap seizure_numbers case_then)

  read_now : read_before (sale_at journal stands folio n) ≡ a
  read_now = ap (λ o. option_map_or (λ (m : ℕ). m) o n) award_is

  read_then : read_before (sale_at journal stands folio a) ≡ a
  read_then = ap (λ o. option_map_or (λ (m : ℕ). m) o a) (ap award case_then ∙ awarded.none_yet)

  same_reads : read (sale_at journal stands folio n) ≡ read (sale_at journal stands folio a)
  same_reads = λ j k. (
      ap (λ m. below m (below n (stands k))) read_now ∙ below_twice a n (stands k) (omega (arith, less))
      ∙ sym (ap (λ m. below m (below a (stands k))) read_then ∙ below_twice a a (stands k) (omega arith))) j

  costs_are : costs_found (sale_at journal stands folio n) ≡ costs_found (sale_at journal stands folio a)
  costs_are = λ j. option_map_or (λ costs. costs) (option_and_then (λ m. option_and_then costs_named (item_at journal m)) (called j)) 0

  same_finding : finding_of (sale_at journal stands folio n) ≡ finding_of (sale_at journal stands folio a)
  same_finding = λ j.
      let seized = option_map_or (λ (m : ℕ). m) (slice_get (seizures_then j) 0) 0 in
      let year = (date_of (day_of journal seized)).year in
      record {
        costs = costs_are j;
        sale = option_map_or (day_of journal) (called j) 0;
        seized = seized;
        year = year;
        current_from = new_year (year - 1);
        arrears_from = new_year (year - 3);
        before = (read_now ∙ sym read_then) j;
      }

  same_seizures : seizures_found (sale_at journal stands folio n) ≡ seizures_found (sale_at journal stands folio a)
  same_seizures = λ j. filter_map (λ m. option_and_then seizure_by (item_at journal m)) (seizures_then j)

  -- the registrations are those that the award found, and others that are late
  with_late : (more : List Registered) × (registrations_found (sale_at journal stands folio n) ≡ registrations_found (sale_at journal stands folio a) ++ more) × AllLate more
  with_late =
      let now = below n (stands (Case folio)) in
      let found : Option ℕ → ℕ → Option Registered = λ o m. option_and_then (registered_by (is_late_by o m)) (item_at journal m) in
      let then_called = number_called (sale_at journal stands folio a) in
      let ms = numbers (filter registers awarded.after) in
      let all_behind = all_weaker (λ m. a < m) (λ m. is_late_by then_called m ≡ true) ms (λ m later. ap (λ o. is_late_by o m) called_then ∙ behind_call now a awarded m later)
      (numbers_later a (filter registers awarded.after) (all_filtered (λ (e : Entry). (a < e.receipt) × (leaves_award e.what ≡ true)) registers awarded.after awarded.later)) in (
        filter_map (found then_called) ms,
        (λ j. filter_map (found (called j)) (registrations_are now a awarded j)) ∙ filter_map-append (found then_called) (registration_numbers awarded.before) ms
            ∙ ap (λ xs. filter_map (found then_called) (registration_numbers xs) ++ filter_map (found then_called) ms) (sym case_then),
        all_late journal then_called ms all_behind,
      )

  -- the lowest bid is the one that the award found
  pub lowest_behind_award : lowest_bid (claimed_in (sale_at journal stands folio n)) ≡ lowest_bid (claimed_in (sale_at journal stands folio a))
  lowest_behind_award =
      lowest_behind_late (sale_at journal stands folio a) (sale_at journal stands folio n) with_late.0 refl same_reads same_finding same_seizures with_late.1 with_late.2
