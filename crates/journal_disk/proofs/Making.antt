-- What a stop leaves of a file that is being made.
use Rattle.std.proofs.Common.{◌≡◌, inl, inr, ℕ, ◌+◌, List, [], ◌∷◌, ◌++◌, length, take, drop, refl, sym, ◌∙◌, ap, subst, arith}
use Rattle.std.proofs.lemmas.Bool.{cases_eq}
use Rattle.std.proofs.lemmas.List.Elements.{All-nil}
use Rattle.gb_outside.specs.Images.{Holds, Torn, Only}
use Rattle.journal_disk.specs.Layout.{the_heading, IsBody, StandsFor}
use Rattle.journal_disk.specs.inner.Writing.{TornFrom}

-- a byte 0 of value 0 stays while the bytes after it are written, so the file stays unmade
name_torn : (rest c : List ℕ) (n : ℕ) → Torn 1 n (0 ∷ rest) c → StandsFor the_heading c []
name_torn rest [] n torn = absurd (omega (arith, torn.no_shorter))
name_torn rest (mark ∷ []) n torn = inl (tt, refl)
name_torn rest (mark ∷ next ∷ more) n torn = let front : mark ∷ [] ≡ 0 ∷ [] = torn.before in inl (cc, refl)

pub name_written : (file rest piece new : List ℕ) → file ≡ 0 ∷ rest → piece ≡ the_heading ++ 0 ∷ [] → Holds file 1 piece new → new ≡ 0 ∷ (the_heading ++ 0 ∷ drop 9 rest)
name_written file rest piece new begun is holds =
    holds ∙ ap (λ (l : List ℕ). take 1 file ++ l ++ drop (1 + length l) file) is ∙ ap (λ (l : List ℕ). take 1 l ++ (the_heading ++ 0 ∷ []) ++ drop 10 l) begun

-- whatever the mark becomes, the file has no frames
mark_torn : (rest c : List ℕ) → Torn 0 1 (0 ∷ (the_heading ++ 0 ∷ rest)) c → StandsFor the_heading c []
mark_torn rest [] torn = absurd (omega (arith, torn.no_shorter))
mark_torn rest (mark ∷ more) torn =
    let behind : more ≡ the_heading ++ 0 ∷ rest = torn.after in
    let whole : StandsFor the_heading (mark ∷ (the_heading ++ 0 ∷ rest)) [] = elim (cases_eq mark 0) [
      | inl zero ↦ inl (zero, refl)
      | inr made ↦ inr (record { mark = mark; gate = 0; rest = rest; made = made; closed = omega arith; sizes = All-nil IsBody; whole = refl })
    ] in
    subst (λ (l : List ℕ). StandsFor the_heading (mark ∷ l) []) (sym behind) whole

pub name_put : (file : List ℕ) (images : List ℕ → Type 0) (rest : List ℕ) (n : ℕ) → file ≡ 0 ∷ rest → Only file images → (c : List ℕ) → TornFrom images 1 n c → StandsFor the_heading c []
name_put file images rest n is only c from = name_torn rest c n (subst (λ (l : List ℕ). Torn 1 n l c) (only from.0 from.1 ∙ is) from.2)

pub mark_put : (file : List ℕ) (images : List ℕ → Type 0) (rest : List ℕ) → file ≡ 0 ∷ (the_heading ++ 0 ∷ rest) → Only file images → (c : List ℕ) → TornFrom images 0 1 c → StandsFor the_heading c []
mark_put file images rest is only c from = mark_torn rest c (subst (λ (l : List ℕ). Torn 0 1 l c) (only from.0 from.1 ∙ is) from.2)
