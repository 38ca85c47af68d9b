-- The summary, in four pieces one after the other, and of a register that tells what is settled.
use Rattle.std.proofs.Common.{◌≡◌, ℕ, ◌+◌, List, [], ◌∷◌, ◌++◌, append_assoc, codes, map, sum_by, refl, ap, ◌∙◌}
use Rattle.std.specs.List.{enumerate_from}
use Rattle.gb_base.specs.declared.keys.Key.{Key}
use Rattle.folio_sections.specs.Held.{entries_at}
use Rattle.folio_sections.specs.declared.entries.Entry.{Entry}
use Rattle.registrar.specs.RegisterState.{RegisterState}
use Rattle.registrar.specs.Settling.{Settlement}
use Rattle.registrar.specs.declared.verdicts.Verdict.{Verdict}
use Rattle.folio_extract.specs.Reports.{Tells}
use Rattle.folio_extract.specs.Summaries.{amount_line, decided_lines, money_of, other_lines, standing_lines, summary, summary_text}

-- a list that is numbered, without its numbers, is the list
pub without_numbers : {X : Type 0} (n : ℕ) (xs : List X) → map (λ v. v.1) (enumerate_from n xs) ≡ xs
without_numbers n [] = refl
without_numbers n (x ∷ xs) = λ i. x ∷ without_numbers (n + 1) xs i

pub summary_told : (register : RegisterState) (settled : Settlement) → Tells register settled
    → summary_text (map (λ v. v.1) register.verdicts) (entries_at register.parts) register.folios ≡ summary settled
summary_told register settled tells = λ i. summary_text (map (λ v. v.1) (tells.verdicts i)) (tells.entries i) (tells.folios i)

four_in_a_row : (a b c d t0 t1 t2 t3 t4 : List ℕ) → t0 ≡ [] → t1 ≡ t0 ++ a → t2 ≡ t1 ++ b → t3 ≡ t2 ++ c → t4 ≡ t3 ++ d → t4 ≡ a ++ (b ++ (c ++ d))
four_in_a_row a b c d t0 t1 t2 t3 t4 empty first second third fourth =
    fourth
    ∙ ap (λ xs. xs ++ d) (third ∙ ap (λ xs. xs ++ c) (second ∙ ap (λ xs. xs ++ b) (first ∙ ap (λ xs. xs ++ a) empty)))
    ∙ append_assoc (a ++ b) c d ∙ append_assoc a b (c ++ d)

pub summary_is : (verdicts : List Verdict) (at : Key → List Entry) (folios : List ℕ) (t0 t1 t2 t3 t4 : List ℕ) → t0 ≡ []
    → t1 ≡ t0 ++ decided_lines verdicts → t2 ≡ t1 ++ other_lines verdicts → t3 ≡ t2 ++ standing_lines at folios
    → t4 ≡ t3 ++ amount_line (codes "paid ") (sum_by money_of verdicts) → t4 ≡ summary_text verdicts at folios
unfolding summary_text
summary_is verdicts at folios t0 t1 t2 t3 t4 empty first second third fourth =
    four_in_a_row (decided_lines verdicts) (other_lines verdicts) (standing_lines at folios) (amount_line (codes "paid ") (sum_by money_of verdicts))
    t0 t1 t2 t3 t4 empty first second third fourth
