-- The one registrar goes on by one item.
use Rattle.std.proofs.Common.{◌≡◌, ℕ, zero, suc, ◌+◌, ◌<◌, List, [], ◌∷◌, ◌++◌, length, All, refl, sym, ap, subst, ◌∙◌, length-append, arith}
use Rattle.std.specs.List.{AllByRecursion, enumerate_from, range_with_len}
use Rattle.std.proofs.lemmas.List.Elements.{All-append, All-from_recursion, All-nil}
use Rattle.std.proofs.lemmas.List.Sums.{fold-append}
use Rattle.gb_base.specs.declared.keys.Key.{Key}
use Rattle.act_model.specs.Receiving.{IsJournal}
use Rattle.act_model.specs.declared.receipts.Receipt.{Receipt}
use Rattle.folio_sections.specs.Adding.{AddsAll}
use Rattle.folio_sections.specs.Entries.{at, with_entries}
use Rattle.folio_sections.specs.Held.{entries_at}
use Rattle.kept_registers.specs.Kept.{Kept}
use Rattle.folio_sections.specs.PartState.{PartState}
use Rattle.folio_sections.specs.declared.entries.Entry.{Entry}
use Rattle.folio_sections.proofs.Additions.{at-append}
use Rattle.folio_sections.proofs.HeldParts.{nothing_at}
use Rattle.folio_sections.proofs.Unchanged.{all_at, all_weaker}
use Rattle.registrar.proofs.AwardsKeep.{brings_keep, none_kept}
use Rattle.registrar.proofs.DistributionsKeep.{Distributes, brings_distribute, none_distributed}
use Rattle.registrar.proofs.StepLemmas.{brings_leaves}
use Rattle.registrar.specs.Brings.{Brought, brings}
use Rattle.registrar.specs.HasSettled.{settled_first}
use Rattle.registrar.specs.KeptAwards.{AwardsKept}
use Rattle.registrar.specs.KeptDistributions.{DistributionsKept}
use Rattle.registrar.specs.Settling.{Settlement, nothing_settled, registrar, settled_in_order, settled_next}
use Rattle.registrar.specs.declared.verdicts.Verdict.{Verdict}
use Rattle.registrar.specs.inner.SettledTo.{SettledTo}

-- ---- one step

-- a step on parts that say what they said before adds what the item brings to these
pub added_to : (journal : List Receipt) (i : ℕ) (at0 at1 at2 : Key → List Entry) → at1 ≡ at0 → AddsAll at1 at2 (brings journal i at1).entries → at2 ≡ with_entries at0 (brings journal i at0).entries
added_to journal i at0 at1 at2 same added =
    let there : at2 ≡ with_entries at1 (brings journal i at1).entries = λ j k. added k j in
    there ∙ ap (λ stands. with_entries stands (brings journal i stands).entries) same

-- ---- the fold

pub range_more : (a n : ℕ) → range_with_len a (n + 1) ≡ range_with_len a n ++ (a + n) ∷ []
range_more a zero = ap (λ m. m ∷ []) (omega arith)
range_more a (suc n) =
    let longer : suc n + 1 ≡ suc (n + 1) = omega arith in
    let last : (a + 1) + n ≡ a + suc n = omega arith in
    ap (range_with_len a) longer ∙ ap (λ ms. a ∷ ms) (range_more (a + 1) n ∙ ap (λ m. range_with_len (a + 1) n ++ m ∷ []) last)

pub settled_more : (journal : List Receipt) (n : ℕ) → settled_in_order journal (range_with_len 1 (n + 1)) ≡ settled_next journal (settled_in_order journal (range_with_len 1 n)) (n + 1)
settled_more journal n =
    ap (settled_in_order journal) (range_more 1 n)
    ∙ fold-append (settled_next journal) nothing_settled (range_with_len 1 n) ((1 + n) ∷ [])
    ∙ ap (settled_next journal (settled_in_order journal (range_with_len 1 n))) (omega arith)

pub numbered_more : (a : ℕ) (vs : List Verdict) (v : Verdict) → enumerate_from a (vs ++ v ∷ []) ≡ enumerate_from a vs ++ (a + length vs, v) ∷ []
numbered_more a [] v = ap (λ m. (m, v) ∷ []) (omega arith)
numbered_more a (w ∷ ws) v =
    ap (λ ps. (a, w) ∷ ps) (numbered_more (a + 1) ws v ∙ ap (λ m. enumerate_from (a + 1) ws ++ (m, v) ∷ []) (omega arith))

-- ---- the first so many items are settled

pub none_settled : (journal : List Receipt) (parts : List PartState) → All (λ p. p.entries ≡ []) parts → Kept journal (λ k. []) → SettledTo journal 0 (entries_at parts) []
none_settled journal parts none kept =
    let empty : entries_at parts ≡ λ k. [] = λ j k. nothing_at parts k none j in
    let distributes = subst (Distributes journal) (sym empty) (none_distributed journal) in
    record {
      entries = empty;
      verdicts = refl;
      count = refl;
      kept = subst (Kept journal) (sym empty) kept;
      awards = subst (AwardsKept journal) (sym empty) (none_kept journal);
      distributed = distributes.distributed;
      rise = distributes.rise;
      earlier = λ k. subst (All (λ e. e.receipt < 0 + 1)) (sym (nothing_at parts k none)) (λ n e within. absurd (omega arith));
    }

all_before : (n : ℕ) (before more : List Entry) → All (λ e. e.receipt < n + 1) before → AllByRecursion (λ e. e.receipt ≡ n + 1) more → All (λ e. e.receipt < (n + 1) + 1) (before ++ more)
all_before n before more earlier now =
    All-append (λ e. e.receipt < (n + 1) + 1) before more
    (λ j e within. let less = earlier j e within in omega arith)
    (All-from_recursion (λ e. e.receipt < (n + 1) + 1) more (all_weaker (λ e. e.receipt ≡ n + 1) (λ e. e.receipt < (n + 1) + 1) more (λ e is. omega arith) now))

-- one item more is settled
pub one_settled : (journal : List Receipt) (n : ℕ) (at0 at1 : Key → List Entry) (vs : List Verdict) (v : Verdict) → IsJournal journal → SettledTo journal n at0 vs
    → at1 ≡ with_entries at0 (brings journal (n + 1) at0).entries → v ≡ (brings journal (n + 1) at0).verdict → Kept journal at1 → AwardsKept journal at1 → Distributes journal at1
    → SettledTo journal (n + 1) at1 (vs ++ v ∷ [])
one_settled journal n at0 at1 vs v stands so_far added is kept awards distributes =
    let before = settled_in_order journal (range_with_len 1 n) in
    let brought = brings journal (n + 1) at0 in
    let again : brought ≡ brings journal (n + 1) (at before.entries) = ap (brings journal (n + 1)) so_far.entries in
    let leaves = brings_leaves journal (n + 1) at0 stands so_far.kept (λ k there. so_far.earlier k) in
    let both : at (before.entries ++ brought.entries) ≡ with_entries (at before.entries) brought.entries = λ j k. at-append before.entries brought.entries k j in
    let number : 1 + length vs ≡ n + 1 = let count = so_far.count in omega arith in
    record {
      entries = added ∙ ap (λ b. with_entries b brought.entries) so_far.entries ∙ sym both
          ∙ ap (λ (b : Brought). at (before.entries ++ b.entries)) again ∙ ap (λ (s : Settlement). at s.entries) (sym (settled_more journal n));
      verdicts = numbered_more 1 vs v ∙ ap (λ m. enumerate_from 1 vs ++ (m, v) ∷ []) number ∙ ap (λ ps. ps ++ (n + 1, v) ∷ []) so_far.verdicts
          ∙ ap (λ w. before.verdicts ++ (n + 1, w) ∷ []) is ∙ ap (λ (b : Brought). before.verdicts ++ (n + 1, b.verdict) ∷ []) again
          ∙ ap (λ (s : Settlement). s.verdicts) (sym (settled_more journal n));
      count = length-append vs (v ∷ []) ∙ ap (λ m. m + 1) so_far.count;
      kept = kept;
      awards = awards;
      distributed = distributes.distributed;
      rise = distributes.rise;
      earlier = λ k. subst (λ es. All (λ e. e.receipt < (n + 1) + 1) es) (sym (λ j. added j k))
          (all_before n (at0 k) (at brought.entries k) (so_far.earlier k) (all_at (λ e. e.receipt ≡ n + 1) brought.entries k leaves.by_item));
    }

-- One item more is settled. Its number, and the list of verdicts with its own, are known by equations.
pub next_settled : (journal : List Receipt) (n i : ℕ) (at0 at1 : Key → List Entry) (vs all : List Verdict) (v : Verdict) → i ≡ n + 1 → IsJournal journal → SettledTo journal n at0 vs
    → at1 ≡ with_entries at0 (brings journal i at0).entries → v ≡ (brings journal i at0).verdict → Kept journal at1 → AwardsKept journal at1 → Distributes journal at1 → all ≡ vs ++ v ∷ [] → SettledTo journal (n + 1) at1 all
next_settled journal n i at0 at1 vs all v next stands so_far added is kept awards distributes whole =
    subst (SettledTo journal (n + 1) at1) (sym whole)
    (one_settled journal n at0 at1 vs v stands so_far (added ∙ ap (λ x. with_entries at0 (brings journal x at0).entries) next) (is ∙ ap (λ x. (brings journal x at0).verdict) next) kept awards distributes)

-- the first n items leave a register whose distributions are covered
pub distributes_so_far : (journal : List Receipt) (n : ℕ) (at0 : Key → List Entry) (vs : List Verdict) → SettledTo journal n at0 vs → Distributes journal at0
distributes_so_far journal n at0 vs so_far = record { distributed = so_far.distributed; rise = so_far.rise }

-- the one registrar settles as many items as the journal has
pub registrar_is : (journal : List Receipt) → settled_in_order journal (range_with_len 1 (length journal)) ≡ registrar journal
registrar_is journal = refl

-- Settling the first n items always leaves a kept register.
pub record Leaving (journal : List Receipt) (n : ℕ) : Type 0 where
  pub verdicts : List Verdict
  pub settled : SettledTo journal n (at (settled_in_order journal (range_with_len 1 n)).entries) verdicts

pub left_by : (journal : List Receipt) (n : ℕ) → IsJournal journal → Kept journal (λ k. []) → Leaving journal n
left_by journal zero stands empty = record { verdicts = []; settled = none_settled journal [] (All-nil (λ p. p.entries ≡ [])) empty }
left_by journal (suc n) stands empty =
    let before = left_by journal n stands empty in
    let at0 = at (settled_in_order journal (range_with_len 1 n)).entries in
    let brought = brings journal (n + 1) at0 in
    let leaves = brings_leaves journal (n + 1) at0 stands before.settled.kept (λ k there. before.settled.earlier k) in
    let awards = brings_keep journal (n + 1) at0 stands before.settled.kept before.settled.awards (λ k there. before.settled.earlier k) in
    let distributes = brings_distribute journal (n + 1) at0 stands before.settled.kept before.settled.awards (distributes_so_far journal n at0 before.verdicts before.settled) before.settled.earlier in
    let more = one_settled journal n at0 (with_entries at0 brought.entries) before.verdicts brought.verdict stands before.settled refl refl leaves.kept awards distributes in
    let end : n + 1 ≡ suc n = omega arith in
    record {
      verdicts = before.verdicts ++ brought.verdict ∷ [];
      settled = subst (λ m. SettledTo journal m (at (settled_in_order journal (range_with_len 1 m)).entries) (before.verdicts ++ brought.verdict ∷ [])) end
          (subst (λ stands_now. SettledTo journal (n + 1) stands_now (before.verdicts ++ brought.verdict ∷ [])) more.entries more);
    }

-- the register of each journal is kept
pub registrar_kept : (journal : List Receipt) → IsJournal journal → Kept journal (λ k. []) → Kept journal (at (registrar journal).entries)
registrar_kept journal stands empty =
    subst (λ (s : Settlement). Kept journal (at s.entries)) (registrar_is journal) (left_by journal (length journal) stands empty).settled.kept

-- the register of a journal's first items keeps its awards
pub first_keep_awards : (journal : List Receipt) (n : ℕ) → IsJournal journal → Kept journal (λ k. []) → AwardsKept journal (at (settled_first journal n).entries)
first_keep_awards journal n stands empty = (left_by journal n stands empty).settled.awards

-- the register of a journal's first items has its distributions covered
pub first_are_covered : (journal : List Receipt) (n : ℕ) → IsJournal journal → Kept journal (λ k. []) → DistributionsKept journal (at (settled_first journal n).entries)
first_are_covered journal n stands empty = (left_by journal n stands empty).settled.distributed
