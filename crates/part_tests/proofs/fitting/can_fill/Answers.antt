-- All that makes a line is at hand.
use Rattle.std.proofs.Common.{◌∙◌, sym}
use Rattle.std.proofs.lemmas.Bool.{both_ways}
use Rattle.part_tests.proofs.fitting.can_fill.Goals.{then-are_places, else-are_places, then-can_swap_all, else-can_swap_all}
use Rattle.part_tests.proofs.fitting.can_fill.Goals as goal

pub returns-then-can_knot_all : goal.returns-then-can_knot_all
returns-then-can_knot_all c once = elim c.if-can_swap_all.branch [
  | then-can_swap_all w ↦ elim c.if-are_places.branch [
    | then-are_places v ↦ record {
      places = c.are_places.ensures v.if-are_places.true;
      swaps = v.can_swap_all.ensures (sym v.value-is ∙ w.if-can_swap_all.true);
      knots = w.can_knot_all.ensures (sym w.value-is ∙ c.if-can_knot_all.true);
      once = c.are_tied_once.ensures once;
    }
    | else-are_places v ↦ absurd (both_ways _ v.if-are_places.false (sym v.value-is ∙ w.if-can_swap_all.true))
  ]
  | else-can_swap_all w ↦ absurd (both_ways _ w.if-can_swap_all.false (sym w.value-is ∙ c.if-can_knot_all.true))
]
