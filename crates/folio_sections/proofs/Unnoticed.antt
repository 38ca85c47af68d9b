-- The filings that wait without a notice are those that pass one test.
use Rattle.std.proofs.Common.{◌≡◌, ℕ, Bool, true, false, cond, ◌&&◌, List, [], ◌∷◌, filter, is_none, refl, ap}
use Rattle.folio_sections.specs.Waiting.{waiting_unnoticed, receipts_before, is_pending, notice}
use Rattle.folio_sections.specs.declared.entries.Entry.{Entry}
use Rattle.folio_sections.specs.inner.Unnoticed.{is_unnoticed}

-- those that wait without a notice, by one test
filtered_twice : (p q : ℕ → Bool) (xs : List ℕ) → filter q (filter p xs) ≡ filter (λ x. p x && q x) xs
filtered_twice p q [] = refl
filtered_twice p q (x ∷ xs) =
    elim (p x) as (λ b. filter q (cond b (x ∷ filter p xs) (filter p xs)) ≡ cond (b && q x) (x ∷ filter (λ y. p y && q y) xs) (filter (λ y. p y && q y) xs)) [
      | true ↦ ap (λ ys. cond (q x) (x ∷ ys) ys) (filtered_twice p q xs)
      | false ↦ filtered_twice p q xs
    ]

pub unnoticed_is : (m : ℕ) (entries : List Entry) → waiting_unnoticed m entries ≡ filter (λ n. is_unnoticed n entries) (receipts_before m)
unnoticed_is m entries = filtered_twice (λ n. is_pending n entries) (λ n. is_none (notice n entries)) (receipts_before m)
