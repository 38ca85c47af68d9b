-- What is claimed in a sale stays when more receipts come: a sale looks at receipts up to its item alone.
use Rattle.std.proofs.Common.{◌≡◌, ℕ, ◌+◌, ◌-◌, ◌<◌, ◌≤◌, Bool, ◌||◌, List, [], ◌∷◌, ◌++◌, IfSome, filter, filter_map, find, fold, length, map, slice_get, Option, Some, None, option_and_then, option_map, refl, ap, ◌∙◌, arith}
use Rattle.std.specs.List.{AllByRecursion, cons_option, list_any}
use Rattle.std.specs.Option.{option_map_or}
use Rattle.std.proofs.lemmas.List.Elements.{All-from_recursion, recursion_from_All}
use Rattle.gb_base.specs.Calendar.{date_of}
use Rattle.gb_base.specs.RightNo.{same_right}
use Rattle.gb_base.specs.declared.keys.Key.{Key}
use Rattle.gb_base.specs.declared.keys.Key.TheVariants.{Case}
use Rattle.act_model.proofs.KeysStay.{receipt_stays}
use Rattle.act_model.specs.Receiving.{day_of, item_at}
use Rattle.act_model.specs.declared.receipts.Receipt.{Receipt}
use Rattle.folio_line.specs.FolioSlots.{capital_at, filled_by, is_gone}
use Rattle.folio_sections.specs.Cases.{call, call_by, case, is_registration, is_seizure}
use Rattle.folio_sections.specs.Fronts.{below}
use Rattle.folio_sections.specs.declared.entries.Entry.{Entry}
use Rattle.folio_sections.specs.declared.entries.What.{What}
use Rattle.folio_sections.specs.declared.entries.What.TheVariants as what
use Rattle.folio_sections.proofs.FilteredLists.{all_filtered}
use Rattle.rank_slots.specs.Filled.{Filled}
use Rattle.auction_classes.specs.Claims.{at_right, claims_by, former_owners, in_order, in_row, rights_found, rights_of_class}
use Rattle.auction_classes.specs.ClassLines.{exchanges_of_class, exercises_of_class, groups_of_class}
use Rattle.auction_classes.specs.Interest.{new_year}
use Rattle.auction_classes.specs.SaleClaims.{SaleClaims, claimed_in, of_class_four}
use Rattle.auction_classes.specs.Sales.{Sale, costs_found, costs_named, costs_named_by, number_called, number_seized, read, registered_by, registrations_found, sale_at, sale_day, seizure_by, seizures_found, year_seized}
use Rattle.auction_classes.specs.inner.Findings.{finding_of, is_late_by, right_with, seized_with}
use Rattle.auction_classes.specs.declared.case_items.Registered.{Registered}
use Rattle.auction_classes.specs.declared.case_items.Seizure.{Seizure}
use Rattle.auction_classes.specs.declared.findings.Finding.{Finding}
use Rattle.auction_classes.proofs.KeptSales.{all_below, all_of_case}

-- ---- lists whose elements are read alike

same_found : {X : Type 0} (f g : ℕ → Option X) (ns : List ℕ) → AllByRecursion (λ n. f n ≡ g n) ns → filter_map f ns ≡ filter_map g ns
same_found f g [] each = refl
same_found f g (n ∷ ns) each = λ j. cons_option (each.0 j) (same_found f g ns each.1 j)

pub same_any : (p q : ℕ → Bool) (ns : List ℕ) → AllByRecursion (λ n. p n ≡ q n) ns → list_any p ns ≡ list_any q ns
same_any p q [] each = refl
same_any p q (n ∷ ns) each = λ j. each.0 j || same_any p q ns each.1 j

-- numbers of entries below a receipt are below it
pub numbers_below : (p : Entry → Bool) (a : ℕ) (xs : List Entry) → AllByRecursion (λ (e : Entry). e.receipt < a) xs → AllByRecursion (λ n. n < a) (map (λ (e : Entry). e.receipt) (filter p xs))
numbers_below p a xs all = mapped (filter p xs) (all_filtered (λ (e : Entry). e.receipt < a) p xs all)
  where
    mapped : (ys : List Entry) → AllByRecursion (λ (e : Entry). e.receipt < a) ys → AllByRecursion (λ n. n < a) (map (λ (e : Entry). e.receipt) ys)
    mapped [] each = tt
    mapped (y ∷ ys) each = (each.0, mapped ys each.1)

pub case_is_below : (a : ℕ) (entries : List Entry) → AllByRecursion (λ (e : Entry). e.receipt < a) (case (below a entries))
case_is_below a entries =
    recursion_from_All (λ (e : Entry). e.receipt < a) (case (below a entries))
    (all_of_case (λ e. e.receipt < a) (below a entries) (All-from_recursion (λ (e : Entry). e.receipt < a) (below a entries) (all_below a entries)))

-- the number of the last call is below the receipt too
call_step : (a receipt : ℕ) (before : Option ℕ) (w : What) → receipt < a → IfSome before (λ n. n < a) → IfSome (call_by receipt before w) (λ n. n < a)
call_step a receipt before (what.Bids costs) within is = within
call_step a receipt before other within is = is

pub call_below : (a : ℕ) (before : Option ℕ) (xs : List Entry) → IfSome before (λ n. n < a) → AllByRecursion (λ (e : Entry). e.receipt < a) xs
    → IfSome (fold (λ b (e : Entry). call_by e.receipt b e.what) before xs) (λ n. n < a)
call_below a before [] is all = is
call_below a before (x ∷ xs) is all = call_below a (call_by x.receipt before x.what) xs (call_step a x.receipt before x.what all.0 is) all.1

-- ---- the sale as the item finds it

-- all that is claimed, by what is found of the case
abbrev claimed_by : Sale → Finding → List Registered → List Seizure → SaleClaims
claimed_by s f rs zs =
    let line : ℕ → Filled = λ class.
    filled_by (λ id. option_map_or (λ x. (right_with f rs x (at_right s x.id)).interest) (find (λ x. same_right x.id id) (rights_of_class s class)) 0 + capital_at (read s) s.folio id)
    (is_gone (read s) s.folio) (groups_of_class s class) (exchanges_of_class s class) (exercises_of_class s class) in
    record {
      items = in_row (in_order (claims_by f.year rs zs (map (λ x. right_with f rs x (at_right s x.id)) (rights_found s))));
      costs = f.costs;
      owners = former_owners s;
      seizures = map (seized_with f.sale (at_right s)) zs;
      rights = of_class_four (map (λ x. right_with f rs x (at_right s x.id)) (rights_found s));
      line_four = line 4;
      line_six = line 6;
    }

-- the receipts of such entries of the case, as item i finds it
abbrev pub numbers_of : (Key → List Entry) → ℕ → ℕ → (Entry → Bool) → List ℕ
numbers_of stands folio i p = map (λ (e : Entry). e.receipt) (filter p (case (below i (stands (Case folio)))))

module _ (journal more : List Receipt) (stands : Key → List Entry) (folio i : ℕ) (within : i ≤ length journal) where
  same_day : (n : ℕ) → n ≤ length journal → day_of (journal ++ more) n ≡ day_of journal n
  same_day n inside = ap (λ o. option_map_or (λ r. r.stamp.day) o 0) (receipt_stays journal more n inside)

  pub item_stays : (n : ℕ) → n ≤ length journal → item_at (journal ++ more) n ≡ item_at journal n
  item_stays n inside = ap (option_map (λ r. r.item)) (receipt_stays journal more n inside)

  pub all_inside : (ns : List ℕ) → AllByRecursion (λ n. n < i) ns → AllByRecursion (λ n. item_at (journal ++ more) n ≡ item_at journal n) ns
  all_inside [] all = tt
  all_inside (n ∷ ns) all = (item_stays n (let less = all.0 in omega (arith, less, within)), all_inside ns all.1)

  called_stays : number_called (sale_at (journal ++ more) stands folio i) ≡ number_called (sale_at journal stands folio i)
  called_stays = ap (λ o. option_map_or (λ costs. Some i) (option_and_then costs_named o) (call (below i (stands (Case folio))))) (item_stays i within)

  called_inside : IfSome (number_called (sale_at journal stands folio i)) (λ n. n ≤ length journal)
  called_inside =
      elim (option_and_then costs_named (item_at journal i)) as (λ o. IfSome (option_map_or (λ costs. Some i) o (call (below i (stands (Case folio))))) (λ n. n ≤ length journal)) [
        | Some costs ↦ within
        | None ↦ weaker (call (below i (stands (Case folio)))) (call_below i None (case (below i (stands (Case folio)))) tt (case_is_below i (stands (Case folio))))
      ]
    where
      weaker : (o : Option ℕ) → IfSome o (λ n. n < i) → IfSome o (λ n. n ≤ length journal)
      weaker None is = tt
      weaker (Some n) is = omega (arith, is, within)

  costs_stay : costs_found (sale_at (journal ++ more) stands folio i) ≡ costs_found (sale_at journal stands folio i)
  costs_stay =
      ap (λ o. option_map_or (λ costs. costs) (option_and_then (costs_named_by (sale_at (journal ++ more) stands folio i)) o) 0) called_stays
      ∙ by (number_called (sale_at journal stands folio i)) called_inside
    where
      by : (o : Option ℕ) → IfSome o (λ n. n ≤ length journal)
          → option_map_or (λ (costs : ℕ). costs) (option_and_then (costs_named_by (sale_at (journal ++ more) stands folio i)) o) 0
          ≡ option_map_or (λ (costs : ℕ). costs) (option_and_then (costs_named_by (sale_at journal stands folio i)) o) 0
      by None inside = refl
      by (Some n) inside = ap (λ o. option_map_or (λ (costs : ℕ). costs) (option_and_then costs_named o) 0) (item_stays n inside)

  sale_day_stays : sale_day (sale_at (journal ++ more) stands folio i) ≡ sale_day (sale_at journal stands folio i)
  sale_day_stays =
      ap (λ o. option_map_or (day_of (journal ++ more)) o 0) called_stays ∙ by (number_called (sale_at journal stands folio i)) called_inside
    where
      by : (o : Option ℕ) → IfSome o (λ n. n ≤ length journal) → option_map_or (day_of (journal ++ more)) o 0 ≡ option_map_or (day_of journal) o 0
      by None inside = refl
      by (Some n) inside = same_day n inside

  year_stays : year_seized (sale_at (journal ++ more) stands folio i) ≡ year_seized (sale_at journal stands folio i)
  year_stays =
      let least = by (numbers_of stands folio i (λ e. is_seizure e.what)) (numbers_below (λ e. is_seizure e.what) i (case (below i (stands (Case folio)))) (case_is_below i (stands (Case folio)))) in
      ap (λ day. (date_of day).year) (same_day (number_seized (sale_at journal stands folio i)) least)
    where
      by : (ns : List ℕ) → AllByRecursion (λ n. n < i) ns → option_map_or (λ (n : ℕ). n) (slice_get ns 0) 0 ≤ length journal
      by [] all = omega arith
      by (n ∷ ns) all = let less = all.0 in omega (arith, less, within)

  finding_stays : finding_of (sale_at (journal ++ more) stands folio i) ≡ finding_of (sale_at journal stands folio i)
  finding_stays = λ j. record {
    costs = costs_stay j;
    sale = sale_day_stays j;
    seized = number_seized (sale_at journal stands folio i);
    year = year_stays j;
    current_from = new_year (year_stays j - 1);
    arrears_from = new_year (year_stays j - 3);
    before = (finding_of (sale_at journal stands folio i)).before;
  }

  seizures_stay : seizures_found (sale_at (journal ++ more) stands folio i) ≡ seizures_found (sale_at journal stands folio i)
  seizures_stay =
      same_found (λ n. option_and_then seizure_by (item_at (journal ++ more) n)) (λ n. option_and_then seizure_by (item_at journal n)) (numbers_of stands folio i (λ e. is_seizure e.what))
      (each (numbers_of stands folio i (λ e. is_seizure e.what))
      (all_inside (numbers_of stands folio i (λ e. is_seizure e.what)) (numbers_below (λ e. is_seizure e.what) i (case (below i (stands (Case folio)))) (case_is_below i (stands (Case folio))))))
    where
      each : (ns : List ℕ) → AllByRecursion (λ n. item_at (journal ++ more) n ≡ item_at journal n) ns
          → AllByRecursion (λ n. option_and_then seizure_by (item_at (journal ++ more) n) ≡ option_and_then seizure_by (item_at journal n)) ns
      each [] all = tt
      each (n ∷ ns) all = (ap (option_and_then seizure_by) all.0, each ns all.1)

  registrations_stay : registrations_found (sale_at (journal ++ more) stands folio i) ≡ registrations_found (sale_at journal stands folio i)
  registrations_stay =
      ap (λ called. filter_map (λ n. option_and_then (registered_by (is_late_by called n)) (item_at (journal ++ more) n)) (numbers_of stands folio i (λ e. is_registration e.what))) called_stays
      ∙ same_found (λ n. option_and_then (registered_by (late n)) (item_at (journal ++ more) n)) (λ n. option_and_then (registered_by (late n)) (item_at journal n)) (numbers_of stands folio i (λ e. is_registration e.what))
      (each (numbers_of stands folio i (λ e. is_registration e.what))
      (all_inside (numbers_of stands folio i (λ e. is_registration e.what)) (numbers_below (λ e. is_registration e.what) i (case (below i (stands (Case folio)))) (case_is_below i (stands (Case folio))))))
    where
      late : ℕ → Bool
      late n = is_late_by (number_called (sale_at journal stands folio i)) n

      each : (ns : List ℕ) → AllByRecursion (λ n. item_at (journal ++ more) n ≡ item_at journal n) ns
          → AllByRecursion (λ n. option_and_then (registered_by (late n)) (item_at (journal ++ more) n) ≡ option_and_then (registered_by (late n)) (item_at journal n)) ns
      each [] all = tt
      each (n ∷ ns) all = (ap (option_and_then (registered_by (late n))) all.0, each ns all.1)

  -- all that is claimed stays
  pub claimed_stays : claimed_in (sale_at (journal ++ more) stands folio i) ≡ claimed_in (sale_at journal stands folio i)
  claimed_stays = λ j. claimed_by (sale_at journal stands folio i) (finding_stays j) (registrations_stay j) (seizures_stay j)
