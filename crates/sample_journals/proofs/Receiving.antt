-- Receipts of the generated journal are accepted one after the other.
use Rattle.std.proofs.Common.{◌≡◌, ℕ, ◌+◌, ◌-◌, ◌<◌, ◌≤◌, false, eqb, leb, List, [], ◌∷◌, ◌++◌, length, get_or, Some, None, refl, sym, subst, ap, ◌∙◌, arith}
use Rattle.std.specs.List.{All}
use Rattle.std.proofs.lemmas.Bool.{cond-false, ne_eqb}
use Rattle.std.proofs.lemmas.Bool.Decides.{nat_tests}
use Rattle.std.proofs.lemmas.Grind.{common_steps}
use Rattle.std.proofs.lemmas.List.Elements.{All-push, All-tail}
use Rattle.std.proofs.lemmas.Option.{slice_get-get_or}
use Rattle.act_model.specs.declared.added.Added.{Added}
use Rattle.act_model.specs.declared.added.Added.TheVariants as added
use Rattle.act_model.specs.declared.items.Item.{Item}
use Rattle.act_model.specs.declared.receipts.Receipt.{Receipt}
use Rattle.act_model.specs.Limits.{most_receipts}
use Rattle.act_model.specs.Receiving.{answer_by, answer_to, is_before, is_sent_as, journal_with, number_from, receipt_at, stamp_after, stamp_behind}
use Rattle.gb_base.specs.DayMinute.{DayMinute}
use Rattle.sample_journals.specs.Sample.{receipt_of, stamp_of_receipt}
use Rattle.sample_journals.specs.inner.FirstReceipts.{AreFirst, IsCalledBefore}

-- the next receipt is not stamped before an earlier one
stamps_rise : (j k : ℕ) → j < k → is_before (stamp_of_receipt k) (stamp_of_receipt j) ≡ false
stamps_rise j k h = grind (arith, nat_tests)

-- no receipt before receipt k is called k
uncalled : (n k : ℕ) (rs : List Receipt) → All (IsCalledBefore k) rs → number_from n 1 k rs ≡ None
uncalled n k [] called = refl
uncalled n k (r ∷ rs) called =
    let first = called 0 r (omega arith) in
    let other : is_sent_as 1 k r ≡ false = grind (arith, nat_tests, first.0) in
    cond-false (is_sent_as 1 k r) (Some n) (number_from (n + 1) 1 k rs) other ∙ uncalled (n + 1) k rs (All-tail (IsCalledBefore k) r rs called)

-- so receipt k is accepted under its number
pub accepted : (k : ℕ) (item : Item) (rs : List Receipt) → k ≤ most_receipts → AreFirst k rs → answer_to rs 1 k item ≡ added.Accepted k
accepted k item rs few first =
    ap (answer_by rs item) (uncalled 1 k rs first.called)
    ∙ cond-false (leb most_receipts (length rs)) _ _ (grind (arith, nat_tests, first.count)) ∙ ap (λ n. added.Accepted n) first.count

not_before_it : (k : ℕ) (r : Receipt) → IsCalledBefore k r → stamp_behind (Some r) (stamp_of_receipt k) ≡ stamp_of_receipt k
not_before_it k r called =
    cond-false (is_before (stamp_of_receipt k) r.stamp) _ _
    (ap (is_before (stamp_of_receipt k)) called.1 ∙ stamps_rise r.reference k called.0)

-- receipt k keeps its own stamp
own_stamp : (k : ℕ) (rs : List Receipt) → All (IsCalledBefore k) rs → stamp_after rs (stamp_of_receipt k) ≡ stamp_of_receipt k
own_stamp k [] called = refl
own_stamp k (r ∷ rs) called =
    let all = r ∷ rs in
    let last = get_or all (length all - 1) r in
    let is_last : receipt_at all (length all) ≡ Some last =
    cond-false (eqb (length all) 0) None _ (ne_eqb _ _ (λ e. omega arith)) ∙ slice_get-get_or all (length all - 1) r (omega arith) in
    ap (λ o. stamp_behind o (stamp_of_receipt k)) is_last ∙ not_before_it k last (called (length all - 1) r (omega arith))

called_later : (k : ℕ) (rs : List Receipt) → All (IsCalledBefore k) rs → All (IsCalledBefore (k + 1)) rs
called_later k rs called j d h = let this = called j d h in (omega (arith, this.0), this.1)

-- the receipts up to receipt k are those before the next receipt
pub one_more : (k : ℕ) (item : Item) (rs : List Receipt) → AreFirst k rs → AreFirst (k + 1) (rs ++ receipt_of k item ∷ [])
one_more k item rs first = record {
  count = grind (arith, common_steps, first.count);
  called = All-push (IsCalledBefore (k + 1)) rs (receipt_of k item) (called_later k rs first.called) (omega arith, refl);
}

-- what the journal answers to the item of receipt k, and what it has after it
pub record IsReceived (k : ℕ) (item : Item) (before after : List Receipt) (answer : Added) : Type 0 where
  pub accepts : answer ≡ added.Accepted k
  pub receipts : after ≡ before ++ receipt_of k item ∷ []
  pub first : AreFirst (k + 1) after

pub received :
    (k n : ℕ) (stamp : DayMinute) (item : Item) (before held after : List Receipt) (answer : Added)
    → k ≤ most_receipts → AreFirst k before → held ≡ before → n ≡ k → stamp ≡ stamp_of_receipt k
    → answer ≡ answer_to held 1 n item → after ≡ journal_with held stamp 1 n item answer
    → IsReceived k item before after answer
received k n stamp item before held after answer few first held_is number stamped answers becomes =
    let accepts : answer ≡ added.Accepted k = answers ∙ (λ i. answer_to (held_is i) 1 (number i) item) ∙ accepted k item before few first in
    let behind : after ≡ before ++ receipt_of k item ∷ [] =
    becomes ∙ (λ i. journal_with (held_is i) (stamped i) 1 (number i) item (accepts i))
    ∙ ap (λ t. before ++ (record { stamp = t; sender = 1; reference = k; item = item }) ∷ []) (own_stamp k before first.called) in
    record { accepts = accepts; receipts = behind; first = subst (AreFirst (k + 1)) (sym behind) (one_more k item before first) }
