-- What a stop leaves, call by call: what it might have left before, and from some moment on files of one kind.
use Rattle.std.proofs.Common.{◌⊎◌, inl, inr, ℕ, ◌≤◌, List}
use Rattle.gb_outside.specs.Images.{LeavesOnly}
use Rattle.gb_outside.proofs.Moments.{followed, started, weakened}
use Rattle.connections.specs.Answering as answering

module _ {D : Type 0} (images : D → List ℕ → Type 0) (moment : D → ℕ) (since : D → ℕ → List ℕ → Type 0) where
  abbrev pub Leaves : D → D → (List ℕ → Type 0) → Type 0
  Leaves old new P = answering.LeavesOldThen images moment since old new P

  -- no call of the disk was made
  pub then_still : (disk : D) (P : List ℕ → Type 0) → ((file : List ℕ) → since disk (moment disk) file → images disk file) → Leaves disk disk P
  then_still disk P only_now = inl (started moment since disk (images disk) only_now)

  -- what has P has Q
  pub then_weakened : (old new : D) (P Q : List ℕ → Type 0) → ((file : List ℕ) → P file → Q file) → Leaves old new P → Leaves old new Q
  then_weakened old new P Q weaker (inl before) = inl before
  then_weakened old new P Q weaker (inr run) = inr (record { from = run.from; until = run.until; then = weakened moment since run.from new P Q weaker run.then })

  -- what stands now
  pub then_each : (old new : D) (P : List ℕ → Type 0) → ((t : ℕ) (c : List ℕ) → t ≤ moment new → images new c → since new t c) → Leaves old new P
      → (file : List ℕ) → images new file → images old file ⊎ P file
  then_each old new P counts (inl before) file now = inl (before.each file (counts (moment old) file before.later now))
  then_each old new P counts (inr run) file now = inr (run.then.each file (counts (moment run.from) file run.then.later now))

  -- a run after which only such files are left
  pub then_only : (old mid new : D) (P : List ℕ → Type 0) → Leaves old mid P → LeavesOnly moment since mid new P → Leaves old new P
  then_only old mid new P (inl before) second = inr (record { from = mid; until = before; then = second })
  then_only old mid new P (inr run) second = inr (record { from = run.from; until = run.until; then = followed moment since run.from mid new P run.then second })

  -- one run after another
  pub then_more : (old mid new : D) (P : List ℕ → Type 0) → ((t : ℕ) (c : List ℕ) → t ≤ moment mid → images mid c → since mid t c) → Leaves old mid P → Leaves mid new P → Leaves old new P
  then_more old mid new P counts (inl before) (inl more) =
      inl (followed moment since old mid new (images old) before
      (weakened moment since mid new (images mid) (images old) (λ file now. before.each file (counts (moment old) file before.later now)) more))
  then_more old mid new P counts (inl before) (inr run) = inr (record {
    from = run.from;
    until = followed moment since old mid run.from (images old) before
        (weakened moment since mid run.from (images mid) (images old) (λ file now. before.each file (counts (moment old) file before.later now)) run.until);
    then = run.then;
  })
  then_more old mid new P counts (inr first) (inl more) = inr (record {
    from = first.from;
    until = first.until;
    then = followed moment since first.from mid new P first.then
        (weakened moment since mid new (images mid) P (λ file now. first.then.each file (counts (moment first.from) file first.then.later now)) more);
  })
  then_more old mid new P counts (inr first) (inr run) = inr (record {
    from = first.from;
    until = first.until;
    then = followed moment since first.from mid new P first.then (followed moment since mid run.from new P
        (weakened moment since mid run.from (images mid) P (λ file now. first.then.each file (counts (moment first.from) file first.then.later now)) run.until) run.then);
  })
