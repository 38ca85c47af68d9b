use Rattle.std.proofs.Common.{length}
use Rattle.act_model.proofs.filing_rules.+are_different.Given as goal

abbrev pub decreases-are_different : goal.decreases-are_different
decreases-are_different l = length l.rights.now
