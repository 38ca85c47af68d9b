-- Each permitted order leaves what the one registrar leaves.
use Rattle.std.proofs.Common.{◌≡◌, ⊎_elim, inl, inr, ℕ, ◌+◌, eqb, true, false, cond, ◌==◌, List, [], ◌∷◌, length, map, find, None, Some, option_map, refl, sym, ap, subst, ◌∙◌, arith}
use Rattle.std.specs.List.{range_with_len}
use Rattle.std.proofs.lemmas.Bool.{cases_lt, eqb-false, eqb-true}
use Rattle.std.proofs.lemmas.List.{append-nil}
use Rattle.gb_base.proofs.Members.{In, in_range, of_range}
use Rattle.gb_base.specs.declared.keys.Key.{Key}
use Rattle.act_model.specs.Receiving.{IsJournal}
use Rattle.act_model.specs.declared.receipts.Receipt.{Receipt}
use Rattle.conflict_queue.specs.Schedules.{IsPermitted}
use Rattle.folio_sections.specs.Entries.{at}
use Rattle.kept_registers.specs.Kept.{Kept}
use Rattle.registrar.proofs.PermittedOrders.{all_ahead, given_same, in_order, of_order, touches}
use Rattle.registrar.proofs.PermittedRuns.{AsFirst, as_first, at_front, firsts, nothing_first}
use Rattle.registrar.proofs.Registering.{registrar_is}
use Rattle.registrar.specs.RegisterState.{verdict_among}
use Rattle.registrar.specs.Settling.{registrar, settled_in_order}
use Rattle.registrar.specs.declared.verdicts.Verdict.{Verdict}

-- the whole order is a front of itself
whole : (journal : List Receipt) (order : List ℕ) → IsJournal journal → Kept journal (λ k. []) → IsPermitted journal order → AsFirst journal order (settled_in_order journal order)
whole journal order stands empty permitted = at_front journal order [] stands empty (subst (IsPermitted journal) (sym (append-nil order)) permitted)

all_first : (journal : List Receipt) → IsJournal journal → Kept journal (λ k. []) → AsFirst journal (range_with_len 1 (length journal)) (registrar journal)
all_first journal stands empty = subst (AsFirst journal (range_with_len 1 (length journal))) (registrar_is journal) (firsts journal (length journal) stands empty)

pub same_entries : (journal : List Receipt) (order : List ℕ) (k : Key) → IsJournal journal → Kept journal (λ k. []) → IsPermitted journal order
    → at (settled_in_order journal order).entries k ≡ at (registrar journal).entries k
same_entries journal order k stands empty permitted =
    (whole journal order stands empty permitted).entries k
    ∙ given_same (touches journal k) (λ j. at (as_first journal j).entries k) order (range_with_len 1 (length journal)) (λ j lacks. nothing_first journal k j stands empty lacks) (all_ahead journal order k permitted)
    ∙ sym ((all_first journal stands empty).entries k)

-- ---- verdicts

-- a number that is among these has its verdict found
found_among : (g : ℕ → Verdict) (ns : List ℕ) (n : ℕ) → In n ns → verdict_among (map (λ j. (j, g j)) ns) n ≡ Some (g n)
found_among g [] n there = absurd there
found_among g (m ∷ ns) n there =
    elim (eqb m n) as (λ b. eqb m n ≡ b → option_map (λ (v : ℕ × Verdict). v.1) (cond b (Some (m, g m)) (find (λ v. v.0 == n) (map (λ j. (j, g j)) ns))) ≡ Some (g n)) [
      | true ↦ λ is. ap (λ j. Some (g j)) (eqb-true m n is)
      | false ↦ λ other. found_among g ns n (⊎_elim (λ same. absurd (eqb-false m n other same)) (λ later. later) there)
    ] refl

-- a number that is not among these has none
none_among : (g : ℕ → Verdict) (ns : List ℕ) (n : ℕ) → (In n ns → ⊥) → verdict_among (map (λ j. (j, g j)) ns) n ≡ None
none_among g [] n off = refl
none_among g (m ∷ ns) n off =
    elim (eqb m n) as (λ b. eqb m n ≡ b → option_map (λ (v : ℕ × Verdict). v.1) (cond b (Some (m, g m)) (find (λ v. v.0 == n) (map (λ j. (j, g j)) ns))) ≡ None) [
      | true ↦ λ is. absurd (off (inl (eqb-true m n is)))
      | false ↦ λ other. none_among g ns n (λ later. off (inr later))
    ] refl

said_same : (journal : List Receipt) (order : List ℕ) (g : ℕ → Verdict) (n : ℕ) → IsPermitted journal order
    → verdict_among (map (λ j. (j, g j)) order) n ≡ verdict_among (map (λ j. (j, g j)) (range_with_len 1 (length journal))) n
said_same journal order g n permitted =
    let row = range_with_len 1 (length journal) in
    ⊎_elim
    (λ low. ⊎_elim
    (λ within. found_among g order n (in_order journal order n permitted (omega (arith, low)) (omega (arith, within)))
    ∙ sym (found_among g row n (in_range 1 (length journal) n (omega (arith, low)) (omega (arith, within)))))
    (λ beyond. none_among g order n (λ there. let is = of_order journal order n permitted there in omega (arith, beyond, is.1))
    ∙ sym (none_among g row n (λ there. let is = of_range 1 (length journal) n there in omega (arith, beyond, is.1))))
    (cases_lt n (length journal + 1)))
    (λ none. none_among g order n (λ there. let is = of_order journal order n permitted there in omega (arith, none, is.0))
    ∙ sym (none_among g row n (λ there. let is = of_range 1 (length journal) n there in omega (arith, none, is.0))))
    (cases_lt 0 n)

pub same_verdicts : (journal : List Receipt) (order : List ℕ) (n : ℕ) → IsJournal journal → Kept journal (λ k. []) → IsPermitted journal order
    → verdict_among (settled_in_order journal order).verdicts n ≡ verdict_among (registrar journal).verdicts n
same_verdicts journal order n stands empty permitted =
    ap (λ vs. verdict_among vs n) (whole journal order stands empty permitted).verdicts
    ∙ said_same journal order (λ j. (as_first journal j).verdict) n permitted
    ∙ ap (λ vs. verdict_among vs n) (sym (all_first journal stands empty).verdicts)
