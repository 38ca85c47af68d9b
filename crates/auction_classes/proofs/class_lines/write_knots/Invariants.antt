-- The exercised reservations so far.
use Rattle.std.proofs.Common.{◌≡◌, ◌≤◌, ◌++◌, drop, length, vec_capacity}
use Rattle.auction_classes.specs.inner.LinesRead.{exercises_within}
use Rattle.auction_classes.proofs.class_lines.write_knots.Given as goal

abbrev pub invariant-loop-exercise : goal.invariant-loop-exercise
invariant-loop-exercise l = record {
  items : l.knots.items ++ exercises_within l.class (drop l.exercise-index l.exercises) ≡ exercises_within l.class l.exercises;
  few : length l.knots.items ≤ l.exercise-index;
  capacity : vec_capacity l.knots ≡ vec_capacity l.fn.knots;
}
