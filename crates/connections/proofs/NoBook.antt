-- What is done where no book is open and the file stands for no journal: none is opened, and the file stays.
use Rattle.std.proofs.Common.{◌≡◌, inl, ⊎_elim, ◌≤◌, ℕ, Bool, true, false, List, [], Option, Some, None, refl, sym, ◌∙◌, ap, subst}
use Rattle.gb_outside.specs.Images.{LeavesOnly}
use Rattle.gb_outside.proofs.Moments.{followed, started, weakened}
use Rattle.journal_disk.specs.Layout.{IsUnmade}
use Rattle.journal_disk.specs.Opening.{AnswersSynced, IsKept, SyncsFirst}
use Rattle.settled_book.specs.SettledBookState.{SettledBookState}
use Rattle.connections.specs.Answering as answering
use Rattle.connections.specs.Holding.{StandsForNone, working}

-- a book is open, so it is not so that none is
pub one_open : (at_hand : Option SettledBookState) (settled : SettledBookState) (P : Type 0) → working at_hand ≡ Some settled → working at_hand ≡ None → P
one_open at_hand settled P is none = let never : Some settled ≡ None = sym is ∙ none in absurd cc

-- an unmade file stands for the empty journal
not_unmade : (file : List ℕ) → StandsForNone file → IsUnmade file → ⊥
not_unmade file none unmade = none [] (inl (unmade, refl))

module _ {D : Type 0} (reads : D → List ℕ) (images : D → List ℕ → Type 0) (moment : D → ℕ) (since : D → ℕ → List ℕ → Type 0) where
  abbrev OpensNone : D → D → Option SettledBookState → Type 0
  OpensNone old new at_hand = answering.OpensNone reads images moment since old new at_hand

  -- no call of the disk was made
  pub none_still : (disk : D) (at_hand : Option SettledBookState) → ((file : List ℕ) → since disk (moment disk) file → images disk file) → working at_hand ≡ None → OpensNone disk disk at_hand
  none_still disk at_hand only_now none = record { none = none; same = refl; left = started moment since disk (images disk) only_now }

  synced_none : (old new : D) → images old (reads old) → StandsForNone (reads old) → SyncsFirst reads images moment since old new → LeavesOnly moment since old new (images old)
  synced_none old new image none first = followed moment since old first.synced new (images old) first.until
      (weakened moment since first.synced new (IsKept (reads old)) (images old) (λ c kept. subst (images old) (sym (kept.same (not_unmade (reads old) none))) image) first.then)

  none_left : (old new : D) (failed : Bool) → images old (reads old) → StandsForNone (reads old) → AnswersSynced reads images moment since old new failed → LeavesOnly moment since old new (images old)
  none_left old new true image none answers = ⊎_elim (λ before. before) (λ first. synced_none old new image none first) answers
  none_left old new false image none answers = synced_none old new image none answers

  -- an opening was tried
  pub none_opened : (old new : D) (at_hand : Option SettledBookState) (failed : Bool) → images old (reads old) → at_hand ≡ None → IsKept (reads old) (reads new) → AnswersSynced reads images moment since old new failed
      → StandsForNone (reads old) → OpensNone old new at_hand
  none_opened old new at_hand failed image empty kept answers none = record {
    none = ap working empty;
    same = kept.same (not_unmade (reads old) none);
    left = none_left old new failed image none answers;
  }

  -- one call after another
  pub none_then : (old mid new : D) (book_mid book_new : Option SettledBookState) → ((t : ℕ) (c : List ℕ) → t ≤ moment mid → images mid c → since mid t c) → StandsForNone (reads old) → OpensNone old mid book_mid
      → (working book_mid ≡ None → StandsForNone (reads mid) → OpensNone mid new book_new) → OpensNone old new book_new
  none_then old mid new book_mid book_new counts none first later =
      let second = later first.none (subst StandsForNone (sym first.same) none) in record {
        none = second.none;
        same = second.same ∙ first.same;
        left = followed moment since old mid new (images old) first.left
            (weakened moment since mid new (images mid) (images old) (λ file image. first.left.each file (counts (moment old) file first.left.later image)) second.left);
      }
