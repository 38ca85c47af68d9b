-- What stands at a key stays until the next item that touches it is settled.
use Rattle.std.proofs.Common.{◌≡◌, ℕ, zero, suc, ◌+◌, ◌-◌, ◌<◌, ◌≤◌, false, List, [], ◌++◌, ap, subst, ◌∙◌, arith}
use Rattle.std.proofs.lemmas.List.{append-nil}
use Rattle.gb_base.specs.declared.keys.Key.{Key}
use Rattle.act_model.specs.Receiving.{IsJournal}
use Rattle.act_model.specs.declared.receipts.Receipt.{Receipt}
use Rattle.folio_sections.proofs.Additions.{at-append}
use Rattle.folio_sections.specs.Entries.{at}
use Rattle.kept_registers.specs.Kept.{Kept}
use Rattle.registrar.proofs.OwnKeys.{brings_nothing_elsewhere}
use Rattle.registrar.proofs.PermittedOrders.{touches}
use Rattle.registrar.proofs.PermittedRuns.{firsts}
use Rattle.registrar.proofs.Registering.{settled_more}
use Rattle.registrar.specs.Brings.{brings}
use Rattle.registrar.specs.HasSettled.{settled_first}
use Rattle.registrar.specs.Settling.{Settlement}

-- after item n + 1, what stands at a key is what stood there before, and then what the item brings
pub at_next : (journal : List Receipt) (n : ℕ) (k : Key)
    → at (settled_first journal (n + 1)).entries k ≡ at (settled_first journal n).entries k ++ at (brings journal (n + 1) (at (settled_first journal n).entries)).entries k
at_next journal n k =
    ap (λ (s : Settlement). at s.entries k) (settled_more journal n)
    ∙ at-append (settled_first journal n).entries (brings journal (n + 1) (at (settled_first journal n).entries)).entries k

module _ (journal : List Receipt) (k : Key) (stands : IsJournal journal) (empty : Kept journal (λ j. [])) where
  -- an item that does not touch the key leaves it as it was
  pub one_leaves : (n : ℕ) → touches journal k (n + 1) ≡ false → at (settled_first journal (n + 1)).entries k ≡ at (settled_first journal n).entries k
  one_leaves n lacks =
      let before = at (settled_first journal n).entries in
      at_next journal n k
      ∙ ap (λ es. before k ++ es) (brings_nothing_elsewhere journal (n + 1) before k stands (firsts journal n stands empty).kept lacks)
      ∙ append-nil (before k)

  all_leave : (n d : ℕ) → ((i : ℕ) → n < i → i ≤ n + d → touches journal k i ≡ false) → at (settled_first journal (n + d)).entries k ≡ at (settled_first journal n).entries k
  all_leave n zero lacks = let same : n + zero ≡ n = omega arith in ap (λ m. at (settled_first journal m).entries k) same
  all_leave n (suc d) lacks =
      let last : n + suc d ≡ (n + d) + 1 = omega arith in
      ap (λ m. at (settled_first journal m).entries k) last
      ∙ one_leaves (n + d) (lacks ((n + d) + 1) (omega arith) (omega arith))
      ∙ all_leave n d (λ i above within. lacks i above (omega arith))

  pub nothing_between : (n m : ℕ) → n ≤ m → ((i : ℕ) → n < i → i ≤ m → touches journal k i ≡ false) → at (settled_first journal m).entries k ≡ at (settled_first journal n).entries k
  nothing_between n m within lacks =
      let number : n + (m - n) ≡ m = omega arith in
      subst (λ j. at (settled_first journal j).entries k ≡ at (settled_first journal n).entries k) number
      (all_leave n (m - n) (λ i above most. lacks i above (omega (arith, number, most))))
