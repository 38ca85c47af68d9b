-- A forced sale that is in order stays in order with one entry more that goes with its case.
use Rattle.std.proofs.Common.{◌≡◌, ⊎_elim, ◌⊎◌, ℕ, ◌+◌, ◌<◌, ◌≤◌, nat_lt, true, false, cond, List, [], ◌∷◌, ◌++◌, All, AllPairs, count_by, slice_get, IfSome, IsSome, IsTrue, refl, sym, ap, subst, ◌∙◌, arith}
use Rattle.std.specs.List.{AllByRecursion}
use Rattle.std.proofs.lemmas.Bool.{false≢true}
use Rattle.std.proofs.lemmas.Bool.Decides.{nat_tests}
use Rattle.std.proofs.lemmas.List.{append-nil}
use Rattle.std.proofs.lemmas.List.Elements.{All-from_recursion, All-push, filter-append}
use Rattle.act_model.specs.declared.receipts.Receipt.{Receipt}
use Rattle.folio_sections.specs.Cases.{case, case_below, is_distribution, is_registration, is_seizure}
use Rattle.folio_sections.specs.Fronts.{below}
use Rattle.folio_sections.specs.Limits.{most_registrations, most_seizures}
use Rattle.folio_sections.specs.declared.entries.Entry.{Entry}
use Rattle.folio_sections.proofs.Cases.{behind_another, behind_more, count_push}
use Rattle.kept_registers.specs.KeptCases.{IsOpenedBefore, SeizesFromOlder, StandsByItem, register_same_arrears}
use Rattle.registrar.proofs.ContainedParts.{pairs_append}

-- ---- a case

-- What holds of the entries of a case: it begins with a seizure, its numbers keep their limits, no arrears are registered twice, and
-- rights from which is seized are older than the first seizure.
pub record CaseHolds (journal : List Receipt) (xs : List Entry) : Type 0 where
  pub begins : IfSome (slice_get xs 0) (λ e. IsTrue (is_seizure e.what))
  pub seizures : count_by (λ e. is_seizure e.what) xs ≤ most_seizures
  pub registrations : count_by (λ e. is_registration e.what) xs ≤ most_registrations
  pub arrears : AllPairs (λ e later. register_same_arrears journal e later ≡ false) xs
  pub older : IfSome (slice_get xs 0) (λ first. All (SeizesFromOlder journal first.receipt) xs)

-- what makes an entry go with a case
pub record GoesWith (journal : List Receipt) (xs : List Entry) (e : Entry) : Type 0 where
  pub begins : IsSome (slice_get xs 0) ⊎ IsTrue (is_seizure e.what)
  pub seizures : IsTrue (is_seizure e.what) → count_by (λ d. is_seizure d.what) xs < most_seizures
  pub registrations : IsTrue (is_registration e.what) → count_by (λ d. is_registration d.what) xs < most_registrations
  pub arrears : AllByRecursion (λ d. register_same_arrears journal d e ≡ false) xs
  pub older : IfSome (slice_get (xs ++ e ∷ []) 0) (λ first. SeizesFromOlder journal first.receipt e)

-- one more that passes where there is room, or one that fails
within_limit : (b : _) (n most : ℕ) → (b ≡ true → n < most) → n ≤ most → n + cond b 1 0 ≤ most
within_limit true n most room now = let less = room refl in omega (arith, less)
within_limit false n most room now = omega (arith, now)

first_of : (journal : List Receipt) (xs : List Entry) (e : Entry) → IsSome (slice_get xs 0) ⊎ IsTrue (is_seizure e.what) → IfSome (slice_get xs 0) (λ d. IsTrue (is_seizure d.what))
    → IfSome (slice_get (xs ++ e ∷ []) 0) (λ d. IsTrue (is_seizure d.what))
first_of journal [] e goes was = ⊎_elim (λ some. absurd (false≢true some)) (λ seizes. seizes) goes
first_of journal (x ∷ xs) e goes was = was

older_of : (journal : List Receipt) (xs : List Entry) (e : Entry) → IfSome (slice_get xs 0) (λ first. All (SeizesFromOlder journal first.receipt) xs)
    → IfSome (slice_get (xs ++ e ∷ []) 0) (λ first. SeizesFromOlder journal first.receipt e) → IfSome (slice_get (xs ++ e ∷ []) 0) (λ first. All (SeizesFromOlder journal first.receipt) (xs ++ e ∷ []))
older_of journal [] e was goes = All-from_recursion (SeizesFromOlder journal e.receipt) (e ∷ []) (goes, tt)
older_of journal (x ∷ xs) e was goes = All-push (SeizesFromOlder journal x.receipt) (x ∷ xs) e was goes

single_pair : (R : Entry → Entry → Type 0) (e : Entry) → AllPairs R (e ∷ [])
single_pair R e i j d less within = absurd (omega (arith, less, within))

across_one : (R : Entry → Entry → Type 0) (xs : List Entry) (e : Entry) → AllByRecursion (λ d. R d e) xs → All (λ d. All (R d) (e ∷ [])) xs
across_one R xs e all = All-from_recursion (λ d. All (R d) (e ∷ [])) xs (each xs all)
  where
    each : (ys : List Entry) → AllByRecursion (λ d. R d e) ys → AllByRecursion (λ d. All (R d) (e ∷ [])) ys
    each [] all = tt
    each (y ∷ ys) all = (All-from_recursion (R y) (e ∷ []) (all.0, tt), each ys all.1)

pub case_with : (journal : List Receipt) (xs : List Entry) (e : Entry) → CaseHolds journal xs → GoesWith journal xs e → CaseHolds journal (xs ++ e ∷ [])
case_with journal xs e was goes = record {
  begins = first_of journal xs e goes.begins was.begins;
  seizures = subst (λ n. n ≤ most_seizures) (sym (count_push (λ d. is_seizure d.what) xs e)) (within_limit (is_seizure e.what) _ most_seizures goes.seizures was.seizures);
  registrations =
      subst (λ n. n ≤ most_registrations) (sym (count_push (λ d. is_registration d.what) xs e))
      (within_limit (is_registration e.what) _ most_registrations goes.registrations was.registrations);
  arrears =
      pairs_append (λ d later. register_same_arrears journal d later ≡ false) xs (e ∷ []) was.arrears (single_pair (λ d later. register_same_arrears journal d later ≡ false) e)
      (across_one (λ d later. register_same_arrears journal d later ≡ false) xs e goes.arrears);
  older = older_of journal xs e was.older goes.older;
}

-- with one more entry that goes with it the case still holds
pub goes_behind : (journal : List Receipt) (entries : List Entry) (e : Entry) → is_distribution e.what ≡ false → GoesWith journal (case entries) e → CaseHolds journal (case entries)
    → CaseHolds journal (case (entries ++ e ∷ []))
goes_behind journal entries e goes_on goes was =
    subst (CaseHolds journal) (sym (behind_more (λ d. is_distribution d.what) entries e goes_on)) (case_with journal (case entries) e was goes)

-- a case without an entry holds
none_hold : (journal : List Receipt) → CaseHolds journal []
none_hold journal = record { begins = tt; seizures = omega arith; registrations = omega arith; arrears = λ i j d less within. absurd (omega (arith, less, within)); older = tt }

-- the case after a distribution, which has no entry, holds
pub case_ends : (journal : List Receipt) (entries : List Entry) (e : Entry) → is_distribution e.what ≡ true → CaseHolds journal (case (entries ++ e ∷ []))
case_ends journal entries e ends = subst (CaseHolds journal) (sym (behind_another (λ d. is_distribution d.what) entries e ends)) (none_hold journal)

-- ---- the entries at a forced sale

-- What holds of the entries at the forced sale of a folio, where these stand at its title.
pub record SaleStands (journal : List Receipt) (folio : ℕ) (title entries : List Entry) : Type 0 where
  pub opened : All (λ e. IsTrue (is_seizure e.what) → IsOpenedBefore e.receipt title) entries
  pub items : All (λ e. StandsByItem journal folio e.receipt e.what) entries
  pub cases : (n : ℕ) → CaseHolds journal (case_below n entries)

-- where all are of receipts below a number, all stood below it
pub all_are_below : (n : ℕ) (xs : List Entry) → AllByRecursion (λ (e : Entry). e.receipt < n) xs → below n xs ≡ xs
all_are_below n [] all = refl
all_are_below n (x ∷ xs) all =
    let first : nat_lt x.receipt n ≡ true = grind (arith, nat_tests, all.0) in
    ap (λ b. cond b (x ∷ below n xs) (below n xs)) first ∙ ap (λ ys. x ∷ ys) (all_are_below n xs all.1)

-- of receipts below i, so below each later number
later_too : (i n : ℕ) (xs : List Entry) → i < n → AllByRecursion (λ (e : Entry). e.receipt < i) xs → AllByRecursion (λ (e : Entry). e.receipt < n) xs
later_too i n [] less all = tt
later_too i n (x ∷ xs) less all = (let first = all.0 in omega (arith, first, less), later_too i n xs less all.1)

pub sale_with : (journal : List Receipt) (folio i : ℕ) (title entries : List Entry) (e : Entry) → SaleStands journal folio title entries → AllByRecursion (λ (d : Entry). d.receipt < i) entries → e.receipt ≡ i
    → (IsTrue (is_seizure e.what) → IsOpenedBefore e.receipt title) → StandsByItem journal folio e.receipt e.what → (CaseHolds journal (case entries) → CaseHolds journal (case (entries ++ e ∷ [])))
    → SaleStands journal folio title (entries ++ e ∷ [])
sale_with journal folio i title entries e was earlier by_item opened item behind = record {
  opened = All-push (λ d. IsTrue (is_seizure d.what) → IsOpenedBefore d.receipt title) entries e was.opened opened;
  items = All-push (λ d. StandsByItem journal folio d.receipt d.what) entries e was.items item;
  cases = λ n.
      let both = filter-append (λ (d : Entry). nat_lt d.receipt n) entries (e ∷ []) in
      elim (nat_lt e.receipt n) as (λ b. nat_lt e.receipt n ≡ b → below n (entries ++ e ∷ []) ≡ below n entries ++ cond b (e ∷ []) [] → CaseHolds journal (case_below n (entries ++ e ∷ []))) [
        | true ↦ λ inside is.
            let less : i < n = grind (arith, nat_tests, inside, by_item) in
            let all : below n entries ≡ entries = all_are_below n entries (later_too i n entries less earlier) in
            let whole : below n (entries ++ e ∷ []) ≡ entries ++ e ∷ [] = is ∙ ap (λ xs. xs ++ e ∷ []) all in
            subst (λ xs. CaseHolds journal (case xs)) (sym whole) (behind (subst (λ xs. CaseHolds journal (case xs)) all (was.cases n)))
        | false ↦ λ outside is.
            let same : below n (entries ++ e ∷ []) ≡ below n entries = is ∙ append-nil (below n entries) in
            subst (λ xs. CaseHolds journal (case xs)) (sym same) (was.cases n)
      ] refl both;
}
