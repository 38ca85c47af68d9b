-- A file that is opened keeps its frames.
use Rattle.std.proofs.Common.{◌≡◌, ⊎_elim, ℕ, List, [], ◌∷◌, sym, ◌∙◌, subst}
use Rattle.gb_outside.specs.Images.{Only, LeavesOnly}
use Rattle.gb_outside.proofs.Moments.{followed, weakened}
use Rattle.journal_disk.specs.Layout.{the_heading, IsUnmade, IsJournal, StandsFor}
use Rattle.journal_disk.specs.inner.Reading.{OnlyReads}
use Rattle.journal_disk.specs.Opening.{IsKept}

-- a made file is not unmade
pub journal_not_unmade : (file : List ℕ) (bodies : List (List ℕ)) → IsJournal the_heading file bodies → IsUnmade file → ⊥
journal_not_unmade [] bodies is unmade = let whole = is.whole in absurd cc
journal_not_unmade (mark ∷ []) bodies is unmade = let whole = is.whole in absurd cc
journal_not_unmade (mark ∷ next ∷ rest) bodies is unmade = let whole = is.whole in let same : mark ≡ is.mark = cc in is.made (sym same ∙ unmade)

pub kept_same : (file c : List ℕ) → c ≡ file → IsKept file c
kept_same file c is = record { same = λ made. is; frames = λ bodies stands. subst (λ (l : List ℕ). StandsFor the_heading l bodies) (sym is) stands }

pub kept_unmade : (file c : List ℕ) → IsUnmade file → StandsFor the_heading c [] → IsKept file c
kept_unmade file c unmade none = record {
  same = λ made. absurd (made unmade);
  frames = λ bodies stands. subst (StandsFor the_heading c) (sym (⊎_elim (λ is. is.1) (λ is. absurd (journal_not_unmade file bodies is unmade)) stands)) none;
}

module _ {D : Type 0} (reads : D → List ℕ) (images : D → List ℕ → Type 0) (moment : D → ℕ) (since : D → ℕ → List ℕ → Type 0) where
  -- reading keeps a file, where a stop leaves what a read gives
  pub reading_keeps : (old new : D) → Only (reads old) (images old) → OnlyReads reads images moment since old new → LeavesOnly moment since old new (IsKept (reads old))
  reading_keeps old new only read = weakened moment since old new (images old) (IsKept (reads old)) (λ c image. kept_same (reads old) c (only c image)) read.any_moment

  -- reading it and then making it keeps an unmade file
  pub making_keeps : (old mid new : D) → Only (reads old) (images old) → OnlyReads reads images moment since old mid → IsUnmade (reads old)
      → LeavesOnly moment since mid new (λ c. StandsFor the_heading c []) → LeavesOnly moment since old new (IsKept (reads old))
  making_keeps old mid new only read unmade making =
      followed moment since old mid new (IsKept (reads old)) (reading_keeps old mid only read)
      (weakened moment since mid new (λ c. StandsFor the_heading c []) (IsKept (reads old)) (λ c none. kept_unmade (reads old) c unmade none) making)
