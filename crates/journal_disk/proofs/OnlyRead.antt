-- Calls that only read a disk, one after another.
use Rattle.std.proofs.Common.{◌≡◌, ℕ, List, refl, ◌∙◌}
use Rattle.gb_outside.specs.Images.{NoneNew, Elapses}
use Rattle.gb_outside.proofs.Moments.{started, goes_on, followed, weakened}
use Rattle.journal_disk.specs.inner.Reading.{OnlyReads}

module _ {D : Type 0} (reads : D → List ℕ) (images : D → List ℕ → Type 0) (moment : D → ℕ) (since : D → ℕ → List ℕ → Type 0) where
  pub nothing_read : (disk : D) → ((c : List ℕ) → since disk (moment disk) c → images disk c) → OnlyReads reads images moment since disk disk
  nothing_read disk only_now = record { same = refl; none_new = λ c image. image; any_moment = started moment since disk (images disk) only_now }

  pub read_more : (old mid new : D) → OnlyReads reads images moment since old mid → reads new ≡ reads mid → NoneNew (images mid) (images new)
      → Elapses (moment mid) (moment new) (since mid) (since new) (images new) → OnlyReads reads images moment since old new
  read_more old mid new so_far same none_new time = record {
    same = same ∙ so_far.same;
    none_new = λ c image. so_far.none_new c (none_new c image);
    any_moment = goes_on moment since old mid new (images old) (images new) so_far.any_moment time (λ c image. so_far.none_new c (none_new c image));
  }

  pub read_then : (old mid new : D) → OnlyReads reads images moment since old mid → OnlyReads reads images moment since mid new → OnlyReads reads images moment since old new
  read_then old mid new first second = record {
    same = second.same ∙ first.same;
    none_new = λ c image. first.none_new c (second.none_new c image);
    any_moment = followed moment since old mid new (images old) first.any_moment (weakened moment since mid new (images mid) (images old) first.none_new second.any_moment);
  }
