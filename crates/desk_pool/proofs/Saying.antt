-- One verdict more is said of the items of a journal.
use Rattle.std.proofs.Common.{◌≡◌, ⊎_elim, ℕ, zero, suc, ◌+◌, ◌-◌, ◌<◌, ◌≤◌, Bool, false, true, get_or, List, [], ◌∷◌, length, set, Some, slice_get, refl, sym, ap, ◌∙◌, arith}
use Rattle.std.specs.List.{list_all}
use Rattle.std.specs.Option.{option_map_or}
use Rattle.std.proofs.lemmas.Bool.{cases_eq, false≢true}
use Rattle.std.proofs.lemmas.Option.{slice_get-get_or}
use Rattle.act_model.specs.declared.receipts.Receipt.{Receipt}
use Rattle.registrar.specs.RegisterState.{verdict_among}
use Rattle.registrar.specs.Settling.{registrar}
use Rattle.registrar.specs.declared.verdicts.Verdict.{Verdict}
use Rattle.registrar.specs.declared.verdicts.Verdict.TheVariants.{NotPending}
use Rattle.desk_pool.specs.inner.Boards.{AreSaid}

-- an element that is written at a place is found there
pub written_there : {X : Type 0} (xs : List X) (i : ℕ) (y : X) → i < length xs → slice_get (set xs i y) i ≡ Some y
written_there [] i y within = absurd (omega arith)
written_there (x ∷ xs) zero y within = refl
written_there (x ∷ xs) (suc i) y within = written_there xs i y (omega arith)

pub written_apart : {X : Type 0} (xs : List X) (i n : ℕ) (y : X) → (n ≡ i → ⊥) → slice_get (set xs i y) n ≡ slice_get xs n
written_apart [] i n y apart = refl
written_apart (x ∷ xs) zero zero y apart = absurd (apart refl)
written_apart (x ∷ xs) zero (suc n) y apart = refl
written_apart (x ∷ xs) (suc i) zero y apart = refl
written_apart (x ∷ xs) (suc i) (suc n) y apart = written_apart xs i n y (λ same. apart (ap suc same))

pub same_inside : {X : Type 0} (x y : X) → Some x ≡ Some y → x ≡ y
same_inside {X} x y same = ap (λ o. option_map_or (λ (z : X). z) o x) same

pub said_set : (journal : List Receipt) (verdicts : List Verdict) (said : List Bool) (item i : ℕ) (v : Verdict) → item ≡ i + 1 → i < length verdicts
    → verdict_among (registrar journal).verdicts item ≡ Some v → AreSaid journal verdicts said → AreSaid journal (set verdicts i v) (set said i true)
said_set journal verdicts said item i v number within is before = λ n verdict told there.
    ⊎_elim
    (λ here.
    let own : v ≡ verdict = same_inside v verdict (sym (written_there verdicts i v within) ∙ ap (slice_get (set verdicts i v)) (sym here) ∙ there) in
    ap (λ m. verdict_among (registrar journal).verdicts (m + 1)) here ∙ ap (verdict_among (registrar journal).verdicts) (sym number) ∙ is ∙ ap Some own)
    (λ apart. before n verdict (sym (written_apart said i n true apart) ∙ told) (sym (written_apart verdicts i n v apart) ∙ there))
    (cases_eq n i)

-- where all verdicts are said, the one at any place is
all_told : (said : List Bool) (n : ℕ) → list_all (λ b. b) said ≡ true → n < length said → slice_get said n ≡ Some true
all_told [] n all within = absurd (omega arith)
all_told (true ∷ bs) zero all within = refl
all_told (false ∷ bs) zero all within = absurd (false≢true all)
all_told (true ∷ bs) (suc n) all within = all_told bs n all (omega arith)
all_told (false ∷ bs) (suc n) all within = absurd (false≢true all)

pub said_whole : (journal : List Receipt) (verdicts : List Verdict) (said : List Bool) → AreSaid journal verdicts said → length said ≡ length verdicts → list_all (λ b. b) said ≡ true
    → (n : ℕ) → 1 ≤ n → n ≤ length verdicts → slice_get verdicts (n - 1) ≡ verdict_among (registrar journal).verdicts n
said_whole journal verdicts said are same all n low high =
    let there : slice_get verdicts (n - 1) ≡ Some (get_or verdicts (n - 1) NotPending) = slice_get-get_or verdicts (n - 1) NotPending (omega (arith, low, high)) in
    let number : (n - 1) + 1 ≡ n = omega (arith, low) in
    there ∙ sym (sym (ap (verdict_among (registrar journal).verdicts) number) ∙ are (n - 1) (get_or verdicts (n - 1) NotPending) (all_told said (n - 1) all (omega (arith, low, high, same))) there)
