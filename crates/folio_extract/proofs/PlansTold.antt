-- What the register of the one registrar tells of distributions.
use Rattle.std.proofs.Common.{◌≡◌, ℕ, ◌-◌, ◌^◌, ◌≤◌, ◌<◌, true, false, cond, eqb, List, [], ◌∷◌, length, map, slice_get, sum_by, Contains, IsTrue, Option, Some, None, option_and_then, option_map, refl, sym, ap, subst, ◌∙◌, arith}
use Rattle.std.specs.List.{range_with_len}
use Rattle.std.specs.Option.{option_map_or}
use Rattle.std.proofs.lemmas.List.Sums.{get_or-le-sum_by}
use Rattle.std.proofs.lemmas.Option.{get_or_from_slice_get, slice_get_within}
use Rattle.std.proofs.lemmas.Bool.Decides.{nat_tests}
use Rattle.gb_base.specs.declared.keys.Key.{Key}
use Rattle.gb_base.specs.declared.keys.Key.TheVariants.{Case, Right, Title}
use Rattle.gb_base.proofs.Members.{In, in_range}
use Rattle.act_model.proofs.KeyOrder.{has_decides}
use Rattle.act_model.specs.Receiving.{IsJournal, item_at, receipt_at}
use Rattle.act_model.specs.SaleKeys.{earlier_rights, keys_of_sale}
use Rattle.act_model.specs.declared.items.Item.{Item}
use Rattle.act_model.specs.declared.items.Item.TheVariants as item
use Rattle.act_model.specs.declared.receipts.Receipt.{Receipt}
use Rattle.conflict_queue.specs.ItemKeys.{keys_by_item, keys_of_item}
use Rattle.folio_sections.specs.Entries.{at as at_key}
use Rattle.folio_sections.specs.Held.{entries_at, is_given}
use Rattle.kept_registers.specs.Kept.{Kept}
use Rattle.registrar.proofs.ContainedParts.{contains_first, contains_part}
use Rattle.registrar.proofs.RisingNumbers.{contains_of_in}
use Rattle.registrar.specs.HasSettled.{IsRegisterOf, settled_first}
use Rattle.registrar.specs.HeldKeys.{keys_of_first}
use Rattle.registrar.specs.KeptDistributions.{DistributionsKept, IsDistributed}
use Rattle.registrar.specs.RegisterState.{RegisterState, verdict_among}
use Rattle.registrar.specs.Settling.{registrar}
use Rattle.registrar.specs.declared.verdicts.Verdict.{Verdict}
use Rattle.registrar.specs.declared.verdicts.Verdict.TheVariants as verdict
use Rattle.folio_extract.specs.Plans.{money_told}
use Rattle.folio_extract.specs.inner.TellsPlans.{TellsPlans}
use Rattle.proceeds_split.specs.Plan.{paid}
use Rattle.proceeds_split.specs.declared.plan_lines.PlanLine.{PlanLine}

-- ---- the keys that are held

-- there is a receipt of this number
pub record IsNumbered (n many : ℕ) : Type 0 where
  pub from_one : 1 ≤ n
  pub within : n ≤ many

numbered : (journal : List Receipt) (n : ℕ) (r : Receipt) → receipt_at journal n ≡ Some r → IsNumbered n (length journal)
numbered journal n r =
    elim (eqb n 0) as (λ b. eqb n 0 ≡ b → cond b None (slice_get journal (n - 1)) ≡ Some r → IsNumbered n (length journal)) [
      | true ↦ λ zero is. absurd (cc is)
      | false ↦ λ not_zero is.
          let some : 1 ≤ n = grind (arith, nat_tests, not_zero) in
          let less = slice_get_within journal (n - 1) r is in
          record { from_one = some; within = omega (arith, some, less) }
    ] refl

-- a key of an item stands among those of all items
pub among_keys : (journal : List Receipt) (n : ℕ) (k : Key) → Contains (keys_of_item journal n) k → IsTrue (is_given (keys_of_first journal (length journal)) k)
among_keys journal n k there =
    (has_decides k (keys_of_first journal (length journal))).1
    (contains_part (keys_of_item journal) (range_with_len 1 (length journal)) n k (contains_of_in (range_with_len 1 (length journal)) n (number_of_key (receipt_at journal n) refl there)) there)
  where
    number_of_key : (o : Option Receipt) → receipt_at journal n ≡ o → Contains (option_map_or (λ r. keys_by_item journal n r.item) o []) k → In n (range_with_len 1 (length journal))
    number_of_key (Some r) is there = (let there = numbered journal n r is in in_range 1 (length journal) n there.from_one (let within = there.within in omega (arith, within)))
    number_of_key None is there = (let less = there.1 in absurd (omega (arith, less)))

-- the keys of a distribution are those of the sale
pub keys_distributed : (journal : List Receipt) (n folio : ℕ) → item_at journal n ≡ Some (item.Distribute folio) → keys_of_item journal n ≡ keys_of_sale journal n folio
keys_distributed journal n folio =
    elim (receipt_at journal n) as (λ o. option_map (λ (r : Receipt). r.item) o ≡ Some (item.Distribute folio)
    → option_map_or (λ (r : Receipt). keys_by_item journal n r.item) o [] ≡ keys_of_sale journal n folio) [
      | Some r ↦ λ is. ap (λ o. option_map_or (keys_by_item journal n) o []) is
      | None ↦ λ is. absurd (cc is)
    ]

-- the folio's case is one of the keys of its distribution
pub case_is_touched : (journal : List Receipt) (n folio : ℕ) → item_at journal n ≡ Some (item.Distribute folio) → Contains (keys_of_item journal n) (Case folio)
case_is_touched journal n folio is =
    subst (λ ks. Contains ks (Case folio)) (sym (keys_distributed journal n folio is))
    (contains_first (Case folio) (Title folio ∷ map (Right folio) (earlier_rights journal n folio)))

-- an item of the journal is under a number up to the journal's length
pub received : (journal : List Receipt) (n : ℕ) (w : Item) → item_at journal n ≡ Some w → n ≤ length journal
received journal n w is = by (receipt_at journal n) refl is
  where
    by : (o : Option Receipt) → receipt_at journal n ≡ o → option_map (λ (r : Receipt). r.item) o ≡ Some w → n ≤ length journal
    by (Some r) there is = (numbered journal n r there).within
    by None there is = absurd (cc is)

-- ---- verdicts

told_by : (v : Verdict) (cents : ℕ) → money_told v ≡ Some cents → v ≡ verdict.Distributed cents
told_by (verdict.Distributed c) cents is = ap (λ o. verdict.Distributed (option_map_or (λ (x : ℕ). x) o c)) is
told_by other cents is = absurd (cc is)

told : (o : Option Verdict) (cents : ℕ) → option_and_then money_told o ≡ Some cents → o ≡ Some (verdict.Distributed cents)
told (Some v) cents is = ap Some (told_by v cents is)
told None cents is = absurd (cc is)

-- ---- together

-- each distribution of the register after the first items, however many, is covered by its money
abbrev pub AllCovered : Type 0
AllCovered = (journal : List Receipt) (n : ℕ) → IsJournal journal → DistributionsKept journal (at_key (settled_first journal n).entries)

-- each distribution that a verdict tells stands in that register
abbrev pub AllTold : Type 0
AllTold = (journal : List Receipt) (n m cents : ℕ) → IsJournal journal → verdict_among (settled_first journal n).verdicts m ≡ Some (verdict.Distributed cents)
    → (folio : ℕ) × IsDistributed journal (at_key (settled_first journal n).entries) folio m cents

pub tells_plans : (journal : List Receipt) (register : RegisterState) → IsJournal journal → Kept journal (at_key (registrar journal).entries) → AllCovered → AllTold
    → IsRegisterOf journal register → TellsPlans journal register
tells_plans journal register stands kept covered verdicts of_journal =
    let entries : entries_at register.parts ≡ at_key (settled_first journal (length register.verdicts)).entries = of_journal.settled.entries in
    let whole : entries_at register.parts ≡ at_key (registrar journal).entries = entries ∙ ap (λ n. at_key (settled_first journal n).entries) of_journal.whole in
    record {
      kept = subst (Kept journal) (sym whole) kept;
      held = λ n k there. of_journal.settled.held k ∙ ap (λ m. is_given (keys_of_first journal m) k) of_journal.whole ∙ among_keys journal n k there;
      distributions = subst (DistributionsKept journal) (sym entries) (covered journal (length register.verdicts) stands);
      verdicts = λ n cents is.
          let found = verdicts journal (length register.verdicts) n cents stands
          (ap (λ vs. verdict_among vs n) (sym of_journal.settled.verdicts) ∙ told (verdict_among register.verdicts n) cents is) in
          (found.0, subst (λ at. IsDistributed journal at found.0 n cents) (sym entries) found.1);
    }

-- ---- lines

-- what a line pays is no more than what all lines pay
pub line_within : (lines : List PlanLine) (i : ℕ) (line : PlanLine) → slice_get lines i ≡ Some line → sum_by paid lines < 2 ^ 64 → paid line < 2 ^ 64
line_within lines i line is bound =
    let most = get_or-le-sum_by paid lines i line (slice_get_within lines i line is) in
    let same = ap paid (get_or_from_slice_get lines i line line is) in
    omega (arith, most, same, bound)
