-- The first numbers of the entries that pass, with one entry more, and those of a case.
use Rattle.std.proofs.Common.{◌≡◌, ℕ, zero, suc, Bool, true, false, cond, ◌+◌, List, [], ◌∷◌, ◌++◌, filter, map, take, refl, sym, ap, ◌∙◌}
use Rattle.std.proofs.lemmas.List.{append-nil}
use Rattle.folio_sections.specs.Cases.{case, is_distribution}
use Rattle.folio_sections.specs.declared.entries.Entry.{Entry}
use Rattle.folio_sections.specs.declared.entries.What.{What}
use Rattle.folio_sections.specs.inner.States.{numbers_behind, numbers_that}
use Rattle.folio_sections.proofs.Cases.{behind_another, behind_more}

-- the first n of a list and one more are those of its first n and that one
take_again : (n : ℕ) (xs : List ℕ) (x : ℕ) → take n (take n xs ++ x ∷ []) ≡ take n (xs ++ x ∷ [])
take_again zero xs x = refl
take_again (suc n) [] x = refl
take_again (suc n) (y ∷ ys) x = ap (λ rest. y ∷ rest) (take_again n ys x)

numbers_push : (t : What → Bool) (xs : List Entry) (e : Entry) → numbers_that t (xs ++ e ∷ []) ≡ numbers_that t xs ++ cond (t e.what) (e.receipt ∷ []) []
numbers_push t [] e = elim (t e.what) as (λ b. map (λ d. d.receipt) (cond b (e ∷ []) []) ≡ cond b (e.receipt ∷ []) []) [ true ↦ refl | false ↦ refl ]
numbers_push t (x ∷ xs) e =
    elim (t x.what) as (λ b. map (λ d. d.receipt) (cond b (x ∷ filter (λ d. t d.what) (xs ++ e ∷ [])) (filter (λ d. t d.what) (xs ++ e ∷ [])))
    ≡ map (λ d. d.receipt) (cond b (x ∷ filter (λ d. t d.what) xs) (filter (λ d. t d.what) xs)) ++ cond (t e.what) (e.receipt ∷ []) []) [
      | true ↦ ap (λ rest. x.receipt ∷ rest) (numbers_push t xs e)
      | false ↦ numbers_push t xs e
    ]

-- an entry that passes puts its number at the end, while there is room
pub wanted_push : (n : ℕ) (t : What → Bool) (xs : List Entry) (e : Entry) → t e.what ≡ true → take n (take n (numbers_that t xs) ++ e.receipt ∷ []) ≡ take n (numbers_that t (xs ++ e ∷ []))
wanted_push n t xs e passes =
    take_again n (numbers_that t xs) e.receipt
    ∙ ap (take n) (sym (numbers_push t xs e ∙ ap (λ b. numbers_that t xs ++ cond b (e.receipt ∷ []) []) passes))

-- any other entry leaves the numbers as they are
pub unwanted_push : (n : ℕ) (t : What → Bool) (xs : List Entry) (e : Entry) → t e.what ≡ false → take n (numbers_that t xs) ≡ take n (numbers_that t (xs ++ e ∷ []))
unwanted_push n t xs e fails_it =
    ap (take n) (sym (numbers_push t xs e ∙ ap (λ b. numbers_that t xs ++ cond b (e.receipt ∷ []) []) fails_it ∙ append-nil (numbers_that t xs)))

-- the step of a walk over entries, where the next one passes
pub next_wanted : (n : ℕ) (t : What → Bool) (i : ℕ) (xs : List Entry) (e : Entry) (before after : List ℕ) → take (i + 1) xs ≡ take i xs ++ e ∷ []
    → before ≡ take n (numbers_that t (take i xs)) → t e.what ≡ true → after ≡ take n (before ++ e.receipt ∷ []) → after ≡ take n (numbers_that t (take (i + 1) xs))
next_wanted n t i xs e before after more is passes put =
    put ∙ ap (λ ns. take n (ns ++ e.receipt ∷ [])) is ∙ wanted_push n t (take i xs) e passes ∙ ap (λ ys. take n (numbers_that t ys)) (sym more)

-- the step of a walk over entries, where the next one does not pass
pub next_unwanted : (n : ℕ) (t : What → Bool) (i : ℕ) (xs : List Entry) (e : Entry) (before after : List ℕ) → take (i + 1) xs ≡ take i xs ++ e ∷ []
    → before ≡ take n (numbers_that t (take i xs)) → t e.what ≡ false → after ≡ before → after ≡ take n (numbers_that t (take (i + 1) xs))
next_unwanted n t i xs e before after more is fails_it stays =
    stays ∙ is ∙ unwanted_push n t (take i xs) e fails_it ∙ ap (λ ys. take n (numbers_that t ys)) (sym more)

-- ---- of a case

-- after an entry
pub numbers_on : (n : ℕ) (t : What → Bool) (xs : List Entry) (e : Entry) (before : List ℕ) → before ≡ take n (numbers_that t (case xs))
    → numbers_behind n t before e.receipt e.what ≡ take n (numbers_that t (case (xs ++ e ∷ [])))
numbers_on n t xs e before is =
    elim (is_distribution e.what) as (λ b. is_distribution e.what ≡ b → (cond b [] (cond (t e.what) (take n (before ++ e.receipt ∷ [])) before)) ≡ take n (numbers_that t (case (xs ++ e ∷ [])))) [
      | true ↦ λ ends. none n ∙ ap (λ ys. take n (numbers_that t ys)) (sym (behind_another (λ d. is_distribution d.what) xs e ends))
      | false ↦ λ stays. went_on ∙ ap (λ ys. take n (numbers_that t ys)) (sym (behind_more (λ d. is_distribution d.what) xs e stays))
    ] refl
  where
    none : (k : ℕ) → [] ≡ take {A = ℕ} k []
    none zero = refl
    none (suc k) = refl

    went_on : cond (t e.what) (take n (before ++ e.receipt ∷ [])) before ≡ take n (numbers_that t (case xs ++ e ∷ []))
    went_on =
        elim (t e.what) as (λ b. t e.what ≡ b → cond b (take n (before ++ e.receipt ∷ [])) before ≡ take n (numbers_that t (case xs ++ e ∷ []))) [
          | true ↦ λ passes. ap (λ ns. take n (ns ++ e.receipt ∷ [])) is ∙ wanted_push n t (case xs) e passes
          | false ↦ λ fails_it. is ∙ unwanted_push n t (case xs) e fails_it
        ] refl
