-- A folio whose case has a seizure was open before it, so that it has owners as its sale reads it.
use Rattle.std.proofs.Common.{◌≡◌, ℕ, ◌<◌, ◌≤◌, true, false, cond, nat_lt, List, [], ◌∷◌, filter, fold, map, slice_get, IfSome, IsSome, IsTrue, Option, Some, None, drop, is_some, length, refl, ap, ◌∙◌, zero, suc, arith}
use Rattle.std.specs.Prelude.{slice_index_or}
use Rattle.std.specs.List.{AllByRecursion}
use Rattle.std.specs.Option.{option_map_or}
use Rattle.std.proofs.lemmas.Bool.{false≢true}
use Rattle.std.proofs.lemmas.Bool.Decides.{nat_tests}
use Rattle.std.proofs.lemmas.List.Elements.{All-filter, All-from_recursion, recursion_from_All}
use Rattle.std.proofs.lemmas.List.Kept.{AllPairs-filter}
use Rattle.gb_base.specs.declared.keys.Key.{Key}
use Rattle.gb_base.specs.declared.keys.Key.TheVariants.{Case, Title}
use Rattle.act_model.specs.declared.receipts.Receipt.{Receipt}
use Rattle.folio_sections.specs.Cases.{award_by, case, is_seizure, seizure_numbers}
use Rattle.folio_sections.specs.Fronts.{NeverFall, below}
use Rattle.folio_sections.specs.Titles.{is_opening, owners, owners_by}
use Rattle.folio_sections.specs.declared.entries.Entry.{Entry}
use Rattle.folio_sections.specs.declared.entries.What.{What}
use Rattle.folio_sections.specs.declared.entries.What.TheVariants as what
use Rattle.kept_registers.specs.Kept.{Kept}
use Rattle.kept_registers.specs.KeptCases.{IsOpenedBefore}
use Rattle.auction_classes.specs.Sales.{read, read_before, sale_at}
use Rattle.auction_classes.proofs.KeptSales.{all_below, all_of_case, below_twice, read_within}

-- ---- owners

-- where somebody was named, somebody stays named
still_named : (before : Option (List ℕ)) (w : What) → is_some before ≡ true → is_some (owners_by before w) ≡ true
still_named before (what.Opened inventory people) some = refl
still_named before (what.Owner people) some = refl
still_named before (what.AwardOwner buyer) some = refl
still_named before other some = some

named_from : (before : Option (List ℕ)) (es : List Entry) → is_some before ≡ true → is_some (fold (λ b (e : Entry). owners_by b e.what) before es) ≡ true
named_from before [] some = some
named_from before (e ∷ es) some = named_from (owners_by before e.what) es (still_named before e.what some)

opening_names : (before : Option (List ℕ)) (w : What) → is_opening w ≡ true → is_some (owners_by before w) ≡ true
opening_names before (what.Opened inventory people) is = refl
opening_names before other is = absurd (false≢true is)

-- where an opening stands below the number, somebody is named there
named_below : (m : ℕ) (before : Option (List ℕ)) (es : List Entry) (k : ℕ) (x : Entry) → k < length es → slice_index_or es k x ≡ x → is_opening x.what ≡ true → nat_lt x.receipt m ≡ true
    → is_some (fold (λ b (e : Entry). owners_by b e.what) before (below m es)) ≡ true
named_below m before [] k x within is opens early = absurd (omega arith)
named_below m before (e ∷ es) zero x within is opens early =
    let own : nat_lt e.receipt m ≡ true = ap (λ (d : Entry). nat_lt d.receipt m) is ∙ early in
    let opening : is_opening e.what ≡ true = ap (λ (d : Entry). is_opening d.what) is ∙ opens in
    ap (λ b. is_some (fold (λ b (d : Entry). owners_by b d.what) before (cond b (e ∷ below m es) (below m es)))) own ∙ named_from (owners_by before e.what) (below m es) (opening_names before e.what opening)
named_below m before (e ∷ es) (suc k) x within is opens early =
    elim (nat_lt e.receipt m) as (λ b. is_some (fold (λ b (d : Entry). owners_by b d.what) before (cond b (e ∷ below m es) (below m es))) ≡ true) [
      | true ↦ named_below m (owners_by before e.what) es k x (omega (arith, within)) is opens early
      | false ↦ named_below m before es k x (omega (arith, within)) is opens early
    ]

opened_names : (n m : ℕ) (title : List Entry) → IsOpenedBefore n title → n ≤ m → is_some (owners (below m title)) ≡ true
opened_names n m title (k, x, within, is, both) less =
    let early = both.1 in
    let below_m : nat_lt x.receipt m ≡ true = grind (arith, nat_tests, early, less) in
    named_below m None title k x within is both.0 below_m

-- ---- the receipts of a case rise

abbrev Rise : List Entry → Type 0
Rise [] = Unit {0}
Rise (e ∷ es) = AllByRecursion (λ (d : Entry). e.receipt ≤ d.receipt) es × Rise es

rise : (es : List Entry) → NeverFall es → Rise es
rise [] fall = tt
rise (e ∷ es) fall = (
  recursion_from_All (λ (d : Entry). e.receipt ≤ d.receipt) es (λ i d within. fall 0 (suc i) d (omega arith) (omega (arith, within))),
  rise es (λ i j d less within. fall (suc i) (suc j) d (omega (arith, less)) (omega (arith, within))),
)

rise_behind : (n : ℕ) (es : List Entry) → Rise es → Rise (drop n es)
rise_behind zero es up = up
rise_behind (suc n) [] up = tt
rise_behind (suc n) (e ∷ es) up = rise_behind n es up.1

-- so an award of the case is not below its first entry
award_step : (low receipt : ℕ) (before : Option ℕ) (w : What) → low ≤ receipt → IfSome before (λ n. low ≤ n) → IfSome (award_by receipt before w) (λ n. low ≤ n)
award_step low receipt before (what.Awarded buyer bid) from is = from
award_step low receipt before other from is = is

award_from : (low : ℕ) (before : Option ℕ) (es : List Entry) → IfSome before (λ n. low ≤ n) → AllByRecursion (λ (e : Entry). low ≤ e.receipt) es
    → IfSome (fold (λ b (e : Entry). award_by e.receipt b e.what) before es) (λ n. low ≤ n)
award_from low before [] is all = is
award_from low before (e ∷ es) is all = award_from low (award_by e.receipt before e.what) es (award_step low e.receipt before e.what all.0 is) all.1

-- ---- a case that begins with a seizure

case_owned : (title : List Entry) (a : ℕ) (cs : List Entry) → IsSome (slice_get (map (λ (e : Entry). e.receipt) (filter (λ (e : Entry). is_seizure e.what) cs)) 0)
    → IfSome (slice_get cs 0) (λ e. IsTrue (is_seizure e.what)) → AllByRecursion (λ (e : Entry). IsTrue (is_seizure e.what) → IsOpenedBefore e.receipt title) cs
    → AllByRecursion (λ (e : Entry). e.receipt < a) cs → Rise cs
    → is_some (owners (below (option_map_or (λ n. n) (fold (λ b (e : Entry). award_by e.receipt b e.what) None cs) a) title)) ≡ true
case_owned title a [] runs begins opened early up = absurd (false≢true runs)
case_owned title a (e ∷ es) runs begins opened early up =
    let before = award_by e.receipt None e.what in
    let last : Option ℕ = fold (λ b (d : Entry). award_by d.receipt b d.what) before es in
    let from = award_from e.receipt before es (award_step e.receipt e.receipt None e.what (omega arith) tt) up.0 in
    let within : e.receipt ≤ option_map_or (λ n. n) last a =
    elim last as (λ o. IfSome o (λ n. e.receipt ≤ n) → e.receipt ≤ option_map_or (λ n. n) o a) [ None ↦ λ _. omega (arith, early.0) | Some n ↦ λ h. h ] from in
    opened_names e.receipt (option_map_or (λ n. n) last a) title (opened.0 begins) within

-- the owners whom a kept register names, as a sale with a seizure reads them
pub owners_found : (journal : List Receipt) (at : Key → List Entry) (folio a : ℕ) → Kept journal at → IsSome (slice_get (seizure_numbers (below a (at (Case folio)))) 0)
    → is_some (owners (read (sale_at journal at folio a) (Title folio))) ≡ true
owners_found journal at folio a kept runs =
    let entries = below a (at (Case folio)) in
    let title = at (Title folio) in
    let Opens : Entry → Type 0 = λ e. IsTrue (is_seizure e.what) → IsOpenedBefore e.receipt title in
    let opened = recursion_from_All Opens (case entries) (all_of_case Opens entries (All-filter (λ e. nat_lt e.receipt a) Opens (at (Case folio)) (kept.case_in_order.opened folio))) in
    let early = recursion_from_All (λ (e : Entry). e.receipt < a) (case entries) (all_of_case (λ e. e.receipt < a) entries (All-from_recursion (λ (e : Entry). e.receipt < a) entries (all_below a (at (Case folio))))) in
    let up = rise_behind _ entries (rise entries (AllPairs-filter (λ (e later : Entry). e.receipt ≤ later.receipt) (λ (e : Entry). nat_lt e.receipt a) (at (Case folio)) (kept.receipts_rise.never_fall (Case folio)))) in
    let before = read_before (sale_at journal at folio a) in
    ap (λ es. is_some (owners es)) (below_twice before a title (read_within journal at folio a)) ∙ case_owned title a (case entries) runs (kept.case_in_order.begins folio a) opened early up
