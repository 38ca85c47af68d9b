-- What a stop leaves, from one call of a disk to the next.
use Rattle.std.proofs.Common.{inl, inr, ⊎_elim, ℕ, List, arith}
use Rattle.gb_outside.specs.Images.{Elapses, LeavesOnly}

module _ {D : Type 0} (moment : D → ℕ) (since : D → ℕ → List ℕ → Type 0) where
  -- before the first call
  pub started : (old : D) (P : List ℕ → Type 0) → ((c : List ℕ) → since old (moment old) c → P c) → LeavesOnly moment since old old P
  started old P here = record { later = omega arith; each = here; before = λ t c le left. inl left }

  -- after one more call, after which each image has P
  pub goes_on : (old mid new : D) (P images : List ℕ → Type 0) → LeavesOnly moment since old mid P → Elapses (moment mid) (moment new) (since mid) (since new) images
      → ((c : List ℕ) → images c → P c) → LeavesOnly moment since old new P
  goes_on old mid new P images so_far time here = record {
    later = omega (arith, so_far.later, time.later);
    each = λ c left. ⊎_elim (so_far.each c) (here c) (time.nothing_else (moment old) c so_far.later left);
    before = λ t c le left. ⊎_elim (so_far.before t c le) (λ now. inr (here c now)) (time.nothing_else t c (omega (arith, le, so_far.later)) left);
  }

  -- one run after another
  pub followed : (old mid new : D) (P : List ℕ → Type 0) → LeavesOnly moment since old mid P → LeavesOnly moment since mid new P → LeavesOnly moment since old new P
  followed old mid new P first second = record {
    later = omega (arith, first.later, second.later);
    each = λ c left. ⊎_elim (first.each c) (λ has. has) (second.before (moment old) c first.later left);
    before = λ t c le left. ⊎_elim (first.before t c le) (λ has. inr has) (second.before t c (omega (arith, le, first.later)) left);
  }

  -- where all files that have P have Q
  pub weakened : (old new : D) (P Q : List ℕ → Type 0) → ((c : List ℕ) → P c → Q c) → LeavesOnly moment since old new P → LeavesOnly moment since old new Q
  weakened old new P Q weaker run = record {
    later = run.later;
    each = λ c left. weaker c (run.each c left);
    before = λ t c le left. ⊎_elim inl (λ has. inr (weaker c has)) (run.before t c le left);
  }
