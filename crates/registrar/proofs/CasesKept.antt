-- What is brought for a filing leaves forced sales as they are.
use Rattle.std.proofs.Common.{◌≡◌, ⊎_elim, ℕ, ◌+◌, ◌<◌, ◌≤◌, true, false, cond, List, [], ◌∷◌, All, AllPairs, count_by, slice_get, IfSome, IsTrue, Option, Some, None, sym, subst}
use Rattle.std.specs.List.{AllByRecursion}
use Rattle.std.specs.Option.{option_map_or}
use Rattle.std.proofs.lemmas.Bool.{cases_Bool}
use Rattle.std.proofs.lemmas.List.Elements.{All-contains, All-from_recursion, All-weaker}
use Rattle.gb_base.specs.declared.keys.Key.{Key}
use Rattle.gb_base.specs.declared.keys.Key.TheVariants.{Title, Right, Case}
use Rattle.act_model.specs.declared.filing_acts.Act.{Act}
use Rattle.act_model.specs.declared.filing_acts.Act.TheVariants.{Open, Transfer, Create, NoticeFor, Convert, Assign, Cancel, Exchange, Exercise}
use Rattle.act_model.specs.declared.items.Filing.{Filing}
use Rattle.act_model.specs.declared.receipts.Receipt.{Receipt}
use Rattle.act_model.specs.Touches.{filing_at, keys_of_act, keys_of_acts, keys_of_filing, was_in_division_three}
use Rattle.act_model.proofs.KeyOrder.{has, has_decides}
use Rattle.folio_sections.specs.Cases.{case_below, is_registration, is_seizure}
use Rattle.folio_sections.specs.Entries.{at, with_entries}
use Rattle.kept_registers.specs.KeptCases.{CaseInOrder, IsOpenedBefore, LeavesCents, SeizesFromOlder, StandsByItem, register_same_arrears}
use Rattle.folio_sections.specs.Limits.{most_registrations, most_seizures}
use Rattle.folio_sections.specs.Titles.{is_opening}
use Rattle.folio_sections.specs.declared.entries.Entry.{Entry}
use Rattle.folio_sections.proofs.Unchanged.{all_both}
use Rattle.registrar.proofs.Added.{unchanged_elsewhere}
use Rattle.registrar.proofs.ContainedParts.{any_in_first}
use Rattle.registrar.proofs.Dealing.{Deals, IsBrought}
use Rattle.registrar.proofs.EntriesKept.{all_there, kept_here}

-- ---- no filing has a key of a forced sale

abbrev IsNoCase : Key → Type 0
IsNoCase (Title folio) = Unit {0}
IsNoCase (Right folio right) = Unit {0}
IsNoCase (Case folio) = ⊥

act_no_case : (journal : List Receipt) (m a : ℕ) (act : Act) → AllByRecursion IsNoCase (keys_of_act journal m a act)
act_no_case journal m a (Open folio inventory owners) = (tt, tt)
act_no_case journal m a (Transfer folio owners) = (tt, tt)
act_no_case journal m a (Create folio spec reserve) = (tt, (tt, tt))
act_no_case journal m a (NoticeFor folio spec) = (tt, (tt, tt))
act_no_case journal m a (Convert folio right) = (tt, (tt, tt))
act_no_case journal m a (Assign folio right holder) = (tt, tt)
act_no_case journal m a (Cancel folio right) = (tt, (tt, tt))
act_no_case journal m a (Exchange folio recede rise) = (
  tt,
  (
    tt,
    elim (was_in_division_three journal m folio recede) as (λ b. AllByRecursion IsNoCase (cond b (Title folio ∷ []) [])) [
      | true ↦ (tt, tt)
      | false ↦ tt
    ],
  ),
)
act_no_case journal m a (Exercise folio behind spec) = (tt, (tt, (tt, tt)))

acts_no_case : (journal : List Receipt) (m a : ℕ) (acts : List Act) → AllByRecursion IsNoCase (keys_of_acts journal m a acts)
acts_no_case journal m a [] = tt
acts_no_case journal m a (act ∷ acts) =
    all_both IsNoCase (keys_of_act journal m a act) (keys_of_acts journal m (a + 1) acts) (act_no_case journal m a act) (acts_no_case journal m (a + 1) acts)

filing_no_case : (journal : List Receipt) (m : ℕ) (found : Option Filing) → AllByRecursion IsNoCase (option_map_or (λ f. keys_of_acts journal m 1 f.acts) found [])
filing_no_case journal m (Some f) = acts_no_case journal m 1 f.acts
filing_no_case journal m None = tt

pub no_case_key : (journal : List Receipt) (m folio : ℕ) → has (Case folio) (keys_of_filing journal m) ≡ false
no_case_key journal m folio =
    ⊎_elim
    (λ there. absurd (All-contains IsNoCase (keys_of_filing journal m) (Case folio)
    (All-from_recursion IsNoCase (keys_of_filing journal m) (filing_no_case journal m (filing_at journal m)))
    ((has_decides (Case folio) (keys_of_filing journal m)).0 there)))
    (λ lacks. lacks)
    (cases_Bool (has (Case folio) (keys_of_filing journal m)))

-- a forced sale stands as before
pub case_stays : (journal : List Receipt) (m i : ℕ) (before : Key → List Entry) (es : List Entry) → AllByRecursion (IsBrought journal m i) es → (folio : ℕ) → with_entries before es (Case folio) ≡ before (Case folio)
case_stays journal m i before es all folio =
    unchanged_elsewhere before (keys_of_filing journal m) es (Case folio) (all_there journal m i es all) (no_case_key journal m folio)

-- ---- so what holds of forced sales stays

-- a case stands on an opening, which stays
pub opened_stays : (journal : List Receipt) (folio : ℕ) (before : Key → List Entry) (es case : List Entry)
    → All (λ e. IsTrue (is_seizure e.what) → IsOpenedBefore e.receipt (before (Title folio))) case
    → All (λ e. IsTrue (is_seizure e.what) → IsOpenedBefore e.receipt (with_entries before es (Title folio))) case
opened_stays journal folio before es case opened =
    All-weaker (λ e. IsTrue (is_seizure e.what) → IsOpenedBefore e.receipt (before (Title folio)))
    (λ e. IsTrue (is_seizure e.what) → IsOpenedBefore e.receipt (with_entries before es (Title folio)))
    (λ e was seizes. any_in_first (λ o. IsTrue (is_opening o.what) × (o.receipt < e.receipt)) (before (Title folio)) (at es (Title folio)) (was seizes)) case opened

pub case_in_order : (journal : List Receipt) (m : ℕ) (f : Filing) (i : ℕ) (at : Key → List Entry) (es : List Entry) → Deals journal m f i at → AllByRecursion (IsBrought journal m i) es → CaseInOrder journal (with_entries at es)
case_in_order journal m f i at es deals all =
    let was = deals.kept.case_in_order in
    let stays : (folio : ℕ) → at (Case folio) ≡ with_entries at es (Case folio) = λ folio. sym (case_stays journal m i at es all folio) in
    record {
      remains = λ folio right. kept_here (λ j e. LeavesCents e.what) journal m i at es (λ e brought. brought.cents) all (Right folio right) (was.remains folio right);
      opened = λ folio. subst (All (λ e. IsTrue (is_seizure e.what) → IsOpenedBefore e.receipt (with_entries at es (Title folio)))) (stays folio)
          (opened_stays journal folio at es (at (Case folio)) (was.opened folio));
      items = λ folio. subst (All (λ e. StandsByItem journal folio e.receipt e.what)) (stays folio) (was.items folio);
      begins = λ folio n. subst (λ case. IfSome (slice_get (case_below n case) 0) (λ e. IsTrue (is_seizure e.what))) (stays folio) (was.begins folio n);
      seizures = λ folio n. subst (λ case. count_by (λ e. is_seizure e.what) (case_below n case) ≤ most_seizures) (stays folio) (was.seizures folio n);
      registrations = λ folio n. subst (λ case. count_by (λ e. is_registration e.what) (case_below n case) ≤ most_registrations) (stays folio) (was.registrations folio n);
      arrears = λ folio n. subst (λ case. AllPairs (λ e later. register_same_arrears journal e later ≡ false) (case_below n case)) (stays folio) (was.arrears folio n);
      older = λ folio n. subst (λ case. IfSome (slice_get (case_below n case) 0) (λ first. All (SeizesFromOlder journal first.receipt) (case_below n case))) (stays folio) (was.older folio n);
    }
