-- Two neighbours of a permitted order that have no key in common change places.
use Rattle.std.proofs.Common.{◌≡◌, ℕ, ◌<◌, List, [], ◌∷◌, ◌++◌, AllPairs, suc, inl, inr, refl, sym, subst, ⊎_elim, arith}
use Rattle.std.proofs.lemmas.List.Elements.{All-from_recursion}
use Rattle.std.proofs.lemmas.List.Kept.{AllPairs-cons}
use Rattle.gb_base.proofs.Members.{In}
use Rattle.act_model.specs.declared.receipts.Receipt.{Receipt}
use Rattle.conflict_queue.specs.Schedules.{Conflicts, IsPermitted}
use Rattle.folio_sections.proofs.FilteredLists.{all_in}
use Rattle.registrar.proofs.RisingNumbers.{contains_of_in, in_of_contains}

-- R holds of each number and each further one
abbrev Pairs : (ℕ → ℕ → Type 0) → List ℕ → Type 0
Pairs R [] = ℕ
Pairs R (x ∷ xs) = ((y : ℕ) → In y xs → R x y) × Pairs R xs

to_pairs : (R : ℕ → ℕ → Type 0) (xs : List ℕ) → AllPairs R xs → Pairs R xs
to_pairs R [] all = 0
to_pairs R (x ∷ xs) all = (
  (λ y there. let found = contains_of_in xs y there in subst (R x) found.2 (all 0 (suc found.0) y (omega arith) (omega (arith, found.1)))),
  to_pairs R xs (λ i j d less within. all (suc i) (suc j) d (omega (arith, less)) (omega (arith, within))),
)

of_pairs : (R : ℕ → ℕ → Type 0) (xs : List ℕ) → Pairs R xs → AllPairs R xs
of_pairs R [] pairs = λ i j d less within. absurd (omega arith)
of_pairs R (x ∷ xs) pairs = AllPairs-cons R x xs (All-from_recursion (R x) xs (all_in (R x) xs pairs.0)) (of_pairs R xs pairs.1)

-- two neighbours that change places leave the same numbers in the list
in_turned : (before after : List ℕ) (i j y : ℕ) → In y (before ++ j ∷ i ∷ after) → In y (before ++ i ∷ j ∷ after)
in_turned [] after i j y there = ⊎_elim (λ same. inr (inl same)) (λ later. ⊎_elim (λ same. inl same) (λ behind. inr (inr behind)) later) there
in_turned (x ∷ before) after i j y there = ⊎_elim (λ same. inl same) (λ later. inr (in_turned before after i j y later)) there

turned : (R : ℕ → ℕ → Type 0) (before after : List ℕ) (i j : ℕ) → (R i j → R j i) → Pairs R (before ++ i ∷ j ∷ after) → Pairs R (before ++ j ∷ i ∷ after)
turned R [] after i j turn pairs =
    ((λ y there. ⊎_elim (λ same. subst (R j) same (turn (pairs.0 j (inl refl)))) (λ later. pairs.1.0 y later) there), ((λ y there. pairs.0 y (inr there)), pairs.1.1))
turned R (x ∷ before) after i j turn pairs =
    ((λ y there. pairs.0 y (in_turned before after i j y there)), turned R before after i j turn pairs.1)

conflict_back : (journal : List Receipt) (i j : ℕ) → Conflicts journal i j → Conflicts journal j i
conflict_back journal i j c = (c.4.0, c.1, c.4.1, c.4.2, (c.0, c.2, c.3))

pub neighbours_turned : (journal : List Receipt) (before after : List ℕ) (i j : ℕ) → IsPermitted journal (before ++ i ∷ j ∷ after) → (Conflicts journal i j → ⊥) → IsPermitted journal (before ++ j ∷ i ∷ after)
neighbours_turned journal before after i j permitted apart = record {
  all = λ n. (
    (λ there. (permitted.all n).0 (contains_of_in (before ++ i ∷ j ∷ after) n (in_turned before after i j n (in_of_contains (before ++ j ∷ i ∷ after) n there)))),
    (λ range. contains_of_in (before ++ j ∷ i ∷ after) n (in_turned before after j i n (in_of_contains (before ++ i ∷ j ∷ after) n ((permitted.all n).1 range)))),
  );
  once = of_pairs (λ x later. x ≡ later → ⊥) (before ++ j ∷ i ∷ after)
      (turned (λ x later. x ≡ later → ⊥) before after i j (λ unlike same. unlike (sym same)) (to_pairs (λ x later. x ≡ later → ⊥) (before ++ i ∷ j ∷ after) permitted.once));
  in_turn = of_pairs (λ x later. Conflicts journal x later → x < later) (before ++ j ∷ i ∷ after)
      (turned (λ x later. Conflicts journal x later → x < later) before after i j (λ less conflict. absurd (apart (conflict_back journal j i conflict)))
      (to_pairs (λ x later. Conflicts journal x later → x < later) (before ++ i ∷ j ∷ after) permitted.in_turn));
}
