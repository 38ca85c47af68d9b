-- What is counted so far, and what is left to count, are the whole.
use Rattle.std.proofs.Common.{◌≡◌, ◌+◌, ◌≤◌, count_by, drop, sum_by, take}
use Rattle.rank_slots.specs.Payments.{is_of_group}
use Rattle.rank_slots.specs.inner.Pieces.{line_of}
use Rattle.rank_slots.proofs.pieces.cents_within.Given as goal

abbrev pub invariant-loop-piece : goal.invariant-loop-piece
invariant-loop-piece l = record {
  counted : l.cents + count_by (is_of_group l.group) (take l.left (line_of (drop l.piece-index l.pieces))) ≡ count_by (is_of_group l.group) (take l.t (line_of l.pieces));
  few : l.cents ≤ sum_by (λ p. p.cents) (take l.piece-index l.pieces);
}
