-- What a synced write may leave on the way.
use Rattle.std.proofs.Common.{◌≡◌, ℕ, ◌+◌, List, [], ◌∷◌, ◌++◌, length, take, drop, sym, ◌∙◌, ap, arith, ◌<◌, append_assoc, length-take-le}
use Rattle.std.proofs.lemmas.List.{take-append-le, take-take, drop_at}
use Rattle.gb_outside.specs.Images.{Holds, Torn, Follows, NoneNew, Elapses, LeavesOnly}
use Rattle.gb_outside.proofs.Moments.{started, goes_on}
use Rattle.journal_disk.specs.inner.Writing.{TornFrom}
use Rattle.journal_disk.proofs.Torn.{torn_nothing}

module _ {D : Type 0} (images : D → List ℕ → Type 0) (moment : D → ℕ) (since : D → ℕ → List ℕ → Type 0) where
  -- what a stop may leave from before the write until after it
  pub put_written : (old new : D) (at n : ℕ) → ((c : List ℕ) → since old (moment old) c → images old c) → Elapses (moment old) (moment new) (since old) (since new) (images new)
      → Follows (Torn at n) (images old) (images new) → LeavesOnly moment since old new (TornFrom (images old) at n)
  put_written old new at n only_now time torn =
      goes_on moment since old old new (TornFrom (images old) at n) (images new)
      (started moment since old (TornFrom (images old) at n) (λ c left. (c, only_now c left, torn_nothing at n c))) time torn

  -- what a stop may leave from before the write until after the sync
  pub put_synced : (old mid new : D) (at n : ℕ) → ((c : List ℕ) → since old (moment old) c → images old c) → Elapses (moment old) (moment mid) (since old) (since mid) (images mid)
      → Follows (Torn at n) (images old) (images mid) → Elapses (moment mid) (moment new) (since mid) (since new) (images new) → NoneNew (images mid) (images new)
      → LeavesOnly moment since old new (TornFrom (images old) at n)
  put_synced old mid new at n only_now time torn later none_new =
      goes_on moment since old mid new (TornFrom (images old) at n) (images new) (put_written old mid at n only_now time torn) later (λ c image. torn c (none_new c image))

-- a piece that is written after a byte, and then the byte, are as one piece
pub put_twice : (old mid new piece : List ℕ) (gate x : ℕ) → gate < length old → Holds old (gate + 1) piece mid → Holds mid gate (x ∷ []) new → Holds old gate (x ∷ piece) new
put_twice old mid new piece gate x within first second =
    let rest = drop (gate + 1 + length piece) old in
    let ahead : length (take (gate + 1) old) ≡ gate + 1 = length-take-le (gate + 1) old (omega arith) in
    let whole : mid ≡ take (gate + 1) old ++ (piece ++ rest) = first ∙ append_assoc (take (gate + 1) old) piece rest in
    let front : take gate mid ≡ take gate old =
    ap (λ (l : List ℕ). take gate l) whole ∙ take-append-le gate (take (gate + 1) old) (piece ++ rest) (omega (arith, ahead)) ∙ take-take gate (gate + 1) old (omega arith) in
    let back : drop (gate + 1) mid ≡ piece ++ rest = ap (λ (l : List ℕ). drop (gate + 1) l) whole ∙ drop_at (take (gate + 1) old) (piece ++ rest) (gate + 1) ahead in
    let same : gate + 1 + length piece ≡ gate + length (x ∷ piece) = omega arith in
    second
    ∙ ap (λ (l : List ℕ). l ++ (x ∷ []) ++ drop (gate + 1) mid) front
    ∙ ap (λ (l : List ℕ). take gate old ++ (x ∷ []) ++ l) back
    ∙ append_assoc (take gate old) (x ∷ []) (piece ++ rest)
    ∙ ap (λ n. take gate old ++ (x ∷ (piece ++ drop n old))) same
    ∙ sym (append_assoc (take gate old) (x ∷ piece) (drop (gate + length (x ∷ piece)) old))
