-- How many numbers pass a test.
use Rattle.std.proofs.Common.{◌≡◌, ⊎_elim, ◌⊎◌, ℕ, suc, ◌+◌, ◌≤◌, Bool, true, false, eqb, List, [], ◌∷◌, filter, length, inl, inr, refl, ap, ◌∙◌, arith}
use Rattle.std.specs.List.{range_with_len}
use Rattle.std.proofs.lemmas.Bool.{cases_Bool, eqb-true}
use Rattle.gb_base.specs.Ascending.{AscendsBy}
use Rattle.gb_base.proofs.Members.{In}
use Rattle.conflict_queue.proofs.Fronts.{passing_ascend}
use Rattle.folio_sections.proofs.FilteredLists.{filter_skips, filter_takes, of_filter}

-- with one number more, no fewer pass
no_fewer : (p : ℕ → Bool) (n : ℕ) (ns : List ℕ) → length (filter p ns) ≤ length (filter p (n ∷ ns))
no_fewer p n ns =
    ⊎_elim
    (λ passes. let here = ap length (filter_takes p n ns passes) in omega arith)
    (λ fails. let here = ap length (filter_skips p n ns fails) in omega arith)
    (cases_Bool (p n))

one_more : (p : ℕ → Bool) (n : ℕ) (ns : List ℕ) → length (filter p (n ∷ ns)) ≤ suc (length (filter p ns))
one_more p n ns =
    ⊎_elim
    (λ passes. let here = ap length (filter_takes p n ns passes) in omega arith)
    (λ fails. let here = ap length (filter_skips p n ns fails) in omega arith)
    (cases_Bool (p n))

pub no_more : (p : ℕ → Bool) (ns : List ℕ) → length (filter p ns) ≤ length ns
no_more p [] = omega arith
no_more p (n ∷ ns) = let rest = no_more p ns in let most = one_more p n ns in omega arith

-- where each number that passes q passes r or p, those that pass q are no more than those of r and those of p
pub one_of_two : (p q r : ℕ → Bool) → ((n : ℕ) → q n ≡ true → (r n ≡ true) ⊎ (p n ≡ true)) → (ns : List ℕ) → length (filter q ns) ≤ length (filter r ns) + length (filter p ns)
one_of_two p q r either [] = omega arith
one_of_two p q r either (n ∷ ns) =
    let rest = one_of_two p q r either ns in
    let first = no_fewer r n ns in
    let second = no_fewer p n ns in
    ⊎_elim
    (λ passes.
    let here = ap length (filter_takes q n ns passes) in
    ⊎_elim
    (λ one. let there = ap length (filter_takes r n ns one) in omega arith)
    (λ two. let there = ap length (filter_takes p n ns two) in omega arith)
    (either n passes))
    (λ fails. let here = ap length (filter_skips q n ns fails) in omega arith)
    (cases_Bool (q n))

-- where what passes q passes p but not b, those that pass q and those of p that pass b are no more than those of p
pub others : (p q b : ℕ → Bool) (ns : List ℕ) → ((n : ℕ) → In n ns → q n ≡ true → (p n ≡ true) × (b n ≡ false)) → length (filter q ns) + length (filter b (filter p ns)) ≤ length (filter p ns)
others p q b [] apart = omega arith
others p q b (n ∷ ns) apart =
    let rest = others p q b ns (λ m there. apart m (inr there)) in
    ⊎_elim
    (λ passes.
    let so = apart n (inl refl) passes in
    let here = ap length (filter_takes q n ns passes) in
    let wide = filter_takes p n ns so.0 in
    let all = ap length wide in
    let those = ap (λ ms. length (filter b ms)) wide ∙ ap length (filter_skips b n (filter p ns) so.1) in
    omega arith)
    (λ fails.
    let here = ap length (filter_skips q n ns fails) in
    ⊎_elim
    (λ other.
    let wide = filter_takes p n ns other in
    let all = ap length wide in
    let those = ap (λ ms. length (filter b ms)) wide in
    let most = one_more b n (filter p ns) in
    omega arith)
    (λ none.
    let wide = filter_skips p n ns none in
    let all = ap length wide in
    let those = ap (λ ms. length (filter b ms)) wide in
    omega arith)
    (cases_Bool (p n)))
    (cases_Bool (q n))

-- there is at most one number where they ascend and are all the same
same_alone : (f a : ℕ) (ns : List ℕ) → AscendsBy (λ n. n) a ns → ((n : ℕ) → In n ns → eqb f n ≡ true) → length ns ≤ 1
same_alone f a [] up same = omega arith
same_alone f a (n ∷ []) up same = omega arith
same_alone f a (n ∷ m ∷ ns) up same =
    let first = eqb-true f n (same n (inl refl)) in
    let second = eqb-true f m (same m (inr (inl refl))) in
    absurd (omega (arith, up.1.0, first, second))

pub one_alone : (f a n : ℕ) → length (filter (eqb f) (range_with_len a n)) ≤ 1
one_alone f a n =
    same_alone f a (filter (eqb f) (range_with_len a n)) (passing_ascend (eqb f) a n) (λ m there. (of_filter (eqb f) (range_with_len a n) m there).1)

pub none_pass : (ns : List ℕ) → length (filter (λ _. false) ns) ≡ 0
none_pass [] = refl
none_pass (n ∷ ns) = none_pass ns
