-- What is claimed in a sale of a kept register can be paid by a plan.
use Rattle.std.proofs.Common.{◌≡◌, ℕ, ◌+◌, ◌*◌, ◌<◌, ◌≤◌, Bool, true, false, cond, ◌==◌, List, [], ◌∷◌, All, filter, length, map, sum_by, Some, option_and_then, refl, sym, ap, subst, ◌∙◌, arith}
use Rattle.std.specs.List.{AllByRecursion, IsDistinct}
use Rattle.std.proofs.lemmas.List.{length-map}
use Rattle.std.proofs.lemmas.List.Elements.{All-from_recursion, recursion_from_All}
use Rattle.std.proofs.lemmas.List.Sums.{length-filter, sum_by-cons, sum_by-le}
use Rattle.std.proofs.lemmas.Map.Keys.{IsDistinct-cons, IsDistinct-head, IsDistinct-tail}
use Rattle.gb_base.specs.Limits.{most_sum}
use Rattle.gb_base.specs.RightNo.{RightNo, same_right}
use Rattle.gb_base.specs.declared.keys.Key.{Key}
use Rattle.gb_base.specs.declared.keys.Key.TheVariants.{Case}
use Rattle.gb_base.proofs.Members.{In, of_map}
use Rattle.gb_base.proofs.SameRights.{right_is}
use Rattle.act_model.specs.Receiving.{IsJournal, item_at}
use Rattle.act_model.specs.declared.receipts.Receipt.{Receipt}
use Rattle.act_model.specs.declared.sales.Registration.{Registration}
use Rattle.act_model.specs.declared.sales.Registration.TheVariants as registration
use Rattle.folio_sections.specs.Cases.{case, is_seizure, registration_numbers, seizure_numbers}
use Rattle.folio_sections.specs.Fronts.{below}
use Rattle.folio_sections.specs.declared.entries.Entry.{Entry}
use Rattle.folio_sections.proofs.FilteredLists.{all_in, in_all, of_filter}
use Rattle.folio_sections.proofs.Unchanged.{all_weaker}
use Rattle.kept_registers.specs.Kept.{Kept}
use Rattle.rank_slots.specs.Groups.{keeps_place}
use Rattle.folio_line.specs.FolioRights.{is_live_with}
use Rattle.folio_line.specs.declared.folio_rights.CreatedRight.{CreatedRight}
use Rattle.folio_line.proofs.FolioFills.{is_amount}
use Rattle.folio_line.proofs.PlacedFew.{placed_few}
use Rattle.folio_line.proofs.PlacedDistinct.{has_same_number, placed_distinct}
use Rattle.folio_line.proofs.PlacedOrder.{of_placed_rights}
use Rattle.auction_classes.specs.Claims.{are_both, arrears_found, arrears_named, at_right, claims, claims_by, class_of_right, former_owners, right_found, rights_found}
use Rattle.auction_classes.specs.ClassLines.{line_of_class}
use Rattle.auction_classes.specs.Interest.{old_arrears}
use Rattle.auction_classes.specs.PayableClaims.{AreOfRights, IsPayable, claims_in}
use Rattle.auction_classes.specs.SaleClaims.{claimed_in, right_claimed}
use Rattle.auction_classes.specs.Sales.{Sale, at_case, is_late, read, registrations_found, sale_at, seizure_by, seizures_found, year_seized}
use Rattle.auction_classes.specs.declared.case_items.Registered.{Registered}
use Rattle.auction_classes.specs.declared.claim_items.RightClaimed.{RightClaimed}
use Rattle.auction_classes.specs.declared.rights_found.RightFound.{RightFound}
use Rattle.auction_classes.specs.inner.InterestLimits.{most_of_term}
use Rattle.auction_classes.specs.inner.Readings.{IsReadAs}
use Rattle.auction_classes.proofs.BoundedClaims.{amounts_within, seized_within}
use Rattle.auction_classes.proofs.BoundedInterest.{accrues, any_interest, few_registrations, found_at_most, interest_at_most, is_bounded}
use Rattle.auction_classes.proofs.BoundedLists.{few_found}
use Rattle.auction_classes.proofs.ClassFills.{read_in_order}
use Rattle.auction_classes.proofs.CommercialDays.{days_at_most}
use Rattle.auction_classes.proofs.FewOfClass.{few_of_class}
use Rattle.auction_classes.proofs.KeptSales.{read_as}
use Rattle.auction_classes.proofs.PayableAmounts.{IsOfRights, claims_weigh, items_are_amounts, items_are_whole, items_weigh, right_weight, weight}
use Rattle.auction_classes.proofs.RightsClaimed.{class_is_of_rights, class_no}
use Rattle.auction_classes.proofs.RightsOnLine.{live_on_line}

-- ---- older arrears: each is of one right at most

-- what a registration claims for a right in class 8
abbrev older_of : Sale → Bool → CreatedRight → Registered → ℕ
older_of s late x r = cond (are_both late r.late) (arrears_named old_arrears (accrues s x) x.id r.what) 0

-- the older arrears of the right, from any day up to any other, are at most the interest of one term
abbrev HasAmount : Sale → CreatedRight → Type 0
HasAmount s x = (from until : ℕ) → old_arrears (accrues s x) from until ≤ most_of_term

-- a registration for another right claims nothing of this one
none_older : (s : Sale) (right : RightNo) (from until : ℕ) (xs : List CreatedRight) → AllByRecursion (λ (x : CreatedRight). same_right right x.id ≡ false) xs
    → sum_by (λ (x : CreatedRight). arrears_named old_arrears (accrues s x) x.id (registration.Arrears right from until)) xs ≡ 0
none_older s right from until [] others = refl
none_older s right from until (x ∷ xs) others =
    let f : CreatedRight → ℕ = λ y. arrears_named old_arrears (accrues s y) y.id (registration.Arrears right from until) in
    let own : f x ≡ 0 = ap (λ b. cond b (old_arrears (accrues s x) from until) 0) others.0 in
    let whole = sum_by-cons f x xs in
    let rest = none_older s right from until xs others.1 in
    omega (arith, own, whole, rest)

others_differ : (right : RightNo) (x : CreatedRight) (xs : List CreatedRight) → same_right right x.id ≡ true → AllByRecursion (λ y. has_same_number x y ≡ false) xs
    → AllByRecursion (λ (y : CreatedRight). same_right right y.id ≡ false) xs
others_differ right x xs own = subst (λ id. AllByRecursion (λ (y : CreatedRight). same_right id y.id ≡ false) xs → AllByRecursion (λ (y : CreatedRight). same_right right y.id ≡ false) xs) (right_is right x.id own) (λ all. all)

one_older : (s : Sale) (right : RightNo) (from until : ℕ) (xs : List CreatedRight) → IsDistinct has_same_number xs → AllByRecursion (HasAmount s) xs
    → sum_by (λ (x : CreatedRight). arrears_named old_arrears (accrues s x) x.id (registration.Arrears right from until)) xs ≤ most_of_term
one_older s right from until [] differ all = omega arith
one_older s right from until (x ∷ xs) differ all =
    let f : CreatedRight → ℕ = λ y. arrears_named old_arrears (accrues s y) y.id (registration.Arrears right from until) in
    let whole = sum_by-cons f x xs in
    let rest = one_older s right from until xs (IsDistinct-tail has_same_number x xs differ) all.1 in
    let sum : f x + sum_by f xs ≤ most_of_term =
    elim (same_right right x.id) as (λ b. same_right right x.id ≡ b → cond b (old_arrears (accrues s x) from until) 0 + sum_by f xs ≤ most_of_term) [
      | true ↦ λ own.
          let none = none_older s right from until xs (others_differ right x xs own (IsDistinct-head has_same_number x xs differ)) in
          let most = all.0 from until in omega (arith, none, most)
      | false ↦ λ _. omega (arith, rest)
    ] refl in
    omega (arith, whole, sum)

named_older : (s : Sale) (w : Registration) (xs : List CreatedRight) → IsDistinct has_same_number xs → AllByRecursion (HasAmount s) xs
    → sum_by (λ (x : CreatedRight). arrears_named old_arrears (accrues s x) x.id w) xs ≤ most_of_term
named_older s (registration.Arrears right from until) xs differ all = one_older s right from until xs differ all
named_older s other xs differ all = zeros xs
  where
    zeros : (ys : List CreatedRight) → sum_by (λ (x : CreatedRight). 0) ys ≤ most_of_term
    zeros [] = omega arith
    zeros (y ∷ ys) = let whole = sum_by-cons (λ (x : CreatedRight). 0) y ys in omega (arith, whole, zeros ys)

sum_zeros : {X : Type 0} (xs : List X) → sum_by (λ x. 0) xs ≡ 0
sum_zeros [] = refl
sum_zeros (x ∷ xs) = let whole = sum_by-cons (λ y. 0) x xs in omega (arith, whole, sum_zeros xs)

sum_both : {X : Type 0} (f g : X → ℕ) (xs : List X) → sum_by (λ x. f x + g x) xs ≡ sum_by f xs + sum_by g xs
sum_both f g [] = refl
sum_both f g (x ∷ xs) =
    let both = sum_by-cons (λ y. f y + g y) x xs in
    let first = sum_by-cons f x xs in
    let second = sum_by-cons g x xs in
    omega (arith, both, first, second, sum_both f g xs)

sum_mapped : {X Y : Type 0} (w : Y → ℕ) (f : X → Y) (xs : List X) → sum_by w (map f xs) ≡ sum_by (λ x. w (f x)) xs
sum_mapped w f [] = refl
sum_mapped w f (x ∷ xs) =
    let left = sum_by-cons w (f x) (map f xs) in
    let right = sum_by-cons (λ y. w (f y)) x xs in
    omega (arith, left, right, sum_mapped w f xs)

-- one registration claims at most the interest of one term for all rights together
each_older : (s : Sale) (late : Bool) (r : Registered) (xs : List CreatedRight) → IsDistinct has_same_number xs → AllByRecursion (HasAmount s) xs → sum_by (λ (x : CreatedRight). older_of s late x r) xs ≤ most_of_term
each_older s late r xs differ all =
    elim (are_both late r.late) as (λ b. sum_by (λ (x : CreatedRight). cond b (arrears_named old_arrears (accrues s x) x.id r.what) 0) xs ≤ most_of_term) [
      | true ↦ named_older s r.what xs differ all
      | false ↦ let none = sum_zeros xs in omega (arith, none)
    ]

older_in_all : (s : Sale) (late : Bool) (rs : List Registered) (xs : List CreatedRight) → IsDistinct has_same_number xs → AllByRecursion (HasAmount s) xs
    → sum_by (λ (x : CreatedRight). arrears_found old_arrears late (accrues s x) x.id rs) xs ≤ most_of_term * length rs
older_in_all s late [] xs differ all = let none = sum_zeros xs in omega (arith, none)
older_in_all s late (r ∷ rs) xs differ all =
    let parts = ap (λ (f : CreatedRight → ℕ). sum_by f xs) (λ i x. sum_by-cons (older_of s late x) r rs i) in
    let both = sum_both (λ (x : CreatedRight). older_of s late x r) (λ (x : CreatedRight). arrears_found old_arrears late (accrues s x) x.id rs) xs in
    let here = each_older s late r xs differ all in
    let rest = older_in_all s late rs xs differ all in
    omega (arith, parts, both, here, rest)

-- ---- what the live rights claim

-- what holds of each live right
record IsLiveIn (s : Sale) (x : CreatedRight) : Type 0 where
  some : 1 ≤ (right_found s x).capital
  own : (right_found s x).interest + (right_found s x).capital ≤ 670000000000000
  late : (right_found s x).late_arrears ≤ 192000000000000
  older : HasAmount s x

live_in : (journal : List Receipt) (at : Key → List Entry) (folio a : ℕ) (x : CreatedRight) → Kept journal at → IsJournal journal → In x (rights_found (sale_at journal at folio a)) → IsLiveIn (sale_at journal at folio a) x
live_in journal at folio a x kept stands there =
    let s = sale_at journal at folio a in
    let made = (of_placed_rights is_live_with (read s) folio x there).made in
    let amount = is_amount journal (read s) folio x (read_in_order journal at folio a kept) stands made in
    let own = in_all (IsReadAs (at_right s)) (rights_found s) x (recursion_from_All (IsReadAs (at_right s)) (rights_found s) (read_as journal at folio a kept stands)) there in
    let it = accrues s x in
    let interest = interest_at_most journal at folio a x kept stands there amount.1 in
    record {
      some = amount.0;
      own = omega (arith, interest, amount.1);
      late = found_at_most true it x.id (registrations_found s) (is_bounded s x own amount.1) (few_registrations journal at folio a kept);
      older = λ from until. any_interest it.capital it.rate _ amount.1 own.rate (days_at_most _ _);
    }

all_live_in : (journal : List Receipt) (at : Key → List Entry) (folio a : ℕ) → Kept journal at → IsJournal journal → AllByRecursion (IsLiveIn (sale_at journal at folio a)) (rights_found (sale_at journal at folio a))
all_live_in journal at folio a kept stands = all_in (IsLiveIn (sale_at journal at folio a)) (rights_found (sale_at journal at folio a)) (λ x there. live_in journal at folio a x kept stands there)

rights_few : (journal : List Receipt) (at : Key → List Entry) (folio a : ℕ) → Kept journal at → IsJournal journal → length (rights_found (sale_at journal at folio a)) ≤ 256
rights_few journal at folio a kept stands = placed_few is_live_with journal (read (sale_at journal at folio a)) folio (read_in_order journal at folio a kept) stands

rights_weigh_less : (journal : List Receipt) (at : Key → List Entry) (folio a : ℕ) → Kept journal at → IsJournal journal
    → sum_by right_weight (map (right_found (sale_at journal at folio a)) (rights_found (sale_at journal at folio a))) ≤ 300000000000000000
rights_weigh_less journal at folio a kept stands =
    let s = sale_at journal at folio a in
    let xs = rights_found s in
    let rs = registrations_found s in
    let live = all_live_in journal at folio a kept stands in
    let few = rights_few journal at folio a kept stands in
    let less = few_registrations journal at folio a kept in
    let own : CreatedRight → ℕ = λ x. (right_found s x).interest + (right_found s x).capital in
    let old : CreatedRight → ℕ = λ x. (right_found s x).old_arrears in
    let late : CreatedRight → ℕ = λ x. (right_found s x).late_arrears in
    let late_old : CreatedRight → ℕ = λ x. (right_found s x).late_old_arrears in
    let differ = placed_distinct is_live_with (read s) folio in
    let amounts = all_weaker (IsLiveIn s) (HasAmount s) xs (λ x is. is.older) live in
    let mapped = sum_mapped right_weight (right_found s) xs in
    let first = sum_both own (λ x. old x + (late x + late_old x)) xs in
    let second = sum_both old (λ x. late x + late_old x) xs in
    let third = sum_both late late_old xs in
    let one = sum_by-le own 670000000000000 xs (All-from_recursion (λ x. own x ≤ 670000000000000) xs (all_weaker (IsLiveIn s) (λ x. own x ≤ 670000000000000) xs (λ x is. is.own) live)) in
    let two = older_in_all s false rs xs differ amounts in
    let three = sum_by-le late 192000000000000 xs (All-from_recursion (λ x. late x ≤ 192000000000000) xs (all_weaker (IsLiveIn s) (λ x. late x ≤ 192000000000000) xs (λ x is. is.late) live)) in
    let four = older_in_all s true rs xs differ amounts in
    omega (arith, mapped, first, second, third, one, two, three, four, few, less)

-- ---- the rights of a class

-- the class of a right that was found
abbrev has_class : Bool → RightFound → Bool
has_class four x = x.class == class_no four

abbrev number_of : RightFound → RightNo
number_of x = x.right.id

-- the numbers of the rights of the class
abbrev ids_of : Sale → Bool → List RightNo
ids_of s four = map number_of (filter (has_class four) (map (right_found s) (rights_found s)))

some_mapped : (xs : List RightFound) → map (λ (y : RightFound). Some y.right.id) xs ≡ map (λ id. Some id) (map number_of xs)
some_mapped [] = refl
some_mapped (x ∷ xs) = ap (λ ys. Some x.right.id ∷ ys) (some_mapped xs)

-- the numbers of different rights differ
numbers_differ : (x : CreatedRight) (s : Sale) (four : Bool) (ys : List CreatedRight) → AllByRecursion (λ y. has_same_number x y ≡ false) ys
    → AllByRecursion (λ id. same_right x.id id ≡ false) (map number_of (filter (has_class four) (map (right_found s) ys)))
numbers_differ x s four [] all = tt
numbers_differ x s four (y ∷ ys) all =
    let rest = filter (has_class four) (map (right_found s) ys) in
    elim (has_class four (right_found s y)) as (λ b. AllByRecursion (λ id. same_right x.id id ≡ false) (map number_of (cond b (right_found s y ∷ rest) rest))) [
      | true ↦ (all.0, numbers_differ x s four ys all.1)
      | false ↦ numbers_differ x s four ys all.1
    ]

none_distinct : IsDistinct same_right []
unfolding IsDistinct
none_distinct = tt

ids_differ : (s : Sale) (four : Bool) (xs : List CreatedRight) → IsDistinct has_same_number xs → IsDistinct same_right (map number_of (filter (has_class four) (map (right_found s) xs)))
ids_differ s four [] differ = none_distinct
ids_differ s four (x ∷ xs) differ =
    let rest = filter (has_class four) (map (right_found s) xs) in
    let later = ids_differ s four xs (IsDistinct-tail has_same_number x xs differ) in
    elim (has_class four (right_found s x)) as (λ b. IsDistinct same_right (map number_of (cond b (right_found s x ∷ rest) rest))) [
      | true ↦ IsDistinct-cons same_right x.id (map number_of rest) (numbers_differ x s four xs (IsDistinct-head has_same_number x xs differ)) later
      | false ↦ later
    ]

ids_kept : (journal : List Receipt) (at : Key → List Entry) (folio a : ℕ) (four : Bool) → Kept journal at → IsJournal journal
    → All (λ id. keeps_place (line_of_class (sale_at journal at folio a) (class_no four)).places id ≡ true) (ids_of (sale_at journal at folio a) four)
ids_kept journal at folio a four kept stands =
    let s = sale_at journal at folio a in
    let P : RightNo → Type 0 = λ id. keeps_place (line_of_class s (class_no four)).places id ≡ true in
    let found = map (right_found s) (rights_found s) in
    let each : (id : RightNo) → In id (ids_of s four) → P id = λ id there.
    let numbered = of_map number_of (filter (has_class four) found) id there in
    let own = of_filter (has_class four) found numbered.0 numbered.1 in
    let right = of_map (right_found s) (rights_found s) numbered.0 own.0 in
    let live = (of_placed_rights is_live_with (read s) folio right.0 right.1).stands in
    let class : (class_of_right s right.0.id == class_no four) ≡ true = subst (λ (x : RightFound). has_class four x ≡ true) (sym right.2) own.1 in
    subst P numbered.2 (subst (λ (x : RightFound). P (number_of x)) right.2 (live_on_line journal at folio a (class_no four) right.0.id kept stands class live)) in
    All-from_recursion P (ids_of s four) (all_in P (ids_of s four) each)

of_rights : (journal : List Receipt) (at : Key → List Entry) (folio a : ℕ) (four : Bool) → Kept journal at → IsJournal journal
    → AreOfRights (line_of_class (sale_at journal at folio a) (class_no four)) (claims_in false (class_no four) (claims (sale_at journal at folio a))) (ids_of (sale_at journal at folio a) four)
of_rights journal at folio a four kept stands =
    let s = sale_at journal at folio a in
    let found = map (right_found s) (rights_found s) in
    let some = all_mapped s (rights_found s) (all_live_in journal at folio a kept stands) in
    record {
      are = class_is_of_rights four (year_seized s) (registrations_found s) (seizures_found s) found some ∙ some_mapped (filter (has_class four) found);
      differ = ids_differ s four (rights_found s) (placed_distinct is_live_with (read s) folio);
      kept = ids_kept journal at folio a four kept stands;
    }
  where
    all_mapped : (t : Sale) (xs : List CreatedRight) → AllByRecursion (IsLiveIn t) xs → AllByRecursion (λ (x : RightFound). 1 ≤ x.capital) (map (right_found t) xs)
    all_mapped t [] all = tt
    all_mapped t (x ∷ xs) all = (all.0.some, all_mapped t xs all.1)

four_numbers : (xs : List RightFound) → map number_of xs ≡ map (λ (x : RightClaimed). x.right) (map right_claimed xs)
four_numbers [] = refl
four_numbers (x ∷ xs) = ap (λ ys. x.right.id ∷ ys) (four_numbers xs)

-- each right is of class 4 or 6
all_of_rights : (s : Sale) (xs : List CreatedRight) → AllByRecursion IsOfRights (map (right_found s) xs)
all_of_rights s [] = tt
all_of_rights s (x ∷ xs) = ((_, refl), all_of_rights s xs)

seizures_few : (journal : List Receipt) (at : Key → List Entry) (folio a : ℕ) → Kept journal at → length (seizures_found (sale_at journal at folio a)) ≤ 8
seizures_few journal at folio a kept =
    let s = sale_at journal at folio a in
    let entries = case (below a (at (Case folio))) in
    let found = few_found (λ n. option_and_then seizure_by (item_at journal n)) (seizure_numbers (below a (at (Case folio)))) in
    let size = length-map (filter (λ (e : Entry). is_seizure e.what) entries) (λ (e : Entry). e.receipt) in
    let counted = length-filter (λ (e : Entry). is_seizure e.what) entries in
    omega (arith, found, size, counted, kept.case_in_order.seizures folio a)

-- ---- all claims of a sale

-- what is claimed in a sale of a kept register can be paid, where owners are named
pub sale_payable : (journal : List Receipt) (at : Key → List Entry) (folio a : ℕ) → Kept journal at → IsJournal journal → 1 ≤ length (former_owners (sale_at journal at folio a)) → IsPayable (claimed_in (sale_at journal at folio a))
sale_payable journal at folio a kept stands owned =
    let s = sale_at journal at folio a in
    let found = map (right_found s) (rights_found s) in
    let regs = registrations_found s in
    let zs = seizures_found s in
    let few = few_registrations journal at folio a kept in
    let fewer = seizures_few journal at folio a kept in
    let many = rights_few journal at folio a kept stands in
    let size = length-map (rights_found s) (right_found s) in
    let weigh = claims_weigh (year_seized s) regs zs found (amounts_within (is_late s) journal (registration_numbers (at_case s)) stands) (seized_within journal (seizure_numbers (at_case s)) stands) few fewer in
    let rights = rights_weigh_less journal at folio a kept stands in
    let sum : sum_by weight (claims_by (year_seized s) regs zs found) < most_sum = omega (arith, weigh, rights) in
    let items = items_weigh (claims_by (year_seized s) regs zs found) in
    record {
      each = items_are_amounts (year_seized s) regs zs found sum;
      whole = items_are_whole (year_seized s) regs zs found (all_of_rights s (rights_found s));
      few = λ late class. few_of_class late class (year_seized s) regs zs found (all_of_rights s (rights_found s)) few fewer (omega (arith, size, many));
      sum = omega (arith, items, sum);
      four = subst (AreOfRights (line_of_class s 4) (claims_in false 4 (claims s))) (four_numbers (filter (has_class true) found)) (of_rights journal at folio a true kept stands);
      six = (ids_of s false, of_rights journal at folio a false kept stands);
      owned = λ _. owned;
    }
