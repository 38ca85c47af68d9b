use Rattle.std.proofs.Common.{length}
use Rattle.part_tests.proofs.fitting.+are_tied_once.Given as goal

abbrev pub decreases-are_tied_once : goal.decreases-are_tied_once
decreases-are_tied_once l = length l.knots.now
