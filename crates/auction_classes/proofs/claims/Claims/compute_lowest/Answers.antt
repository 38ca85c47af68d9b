-- The lowest bid is computed with the exchanges or without them.
use Rattle.std.proofs.Common.{sym, ◌∙◌}
use Rattle.auction_classes.proofs.claims.Claims.compute_lowest.Goals as goal

pub compute_whole-requires-clause-personal : goal.compute_whole-requires-clause-personal
compute_whole-requires-clause-personal g c register stands kept = sym (c.is_of_persons.ensures register stands kept) ∙ c.if-is_of_persons.true
