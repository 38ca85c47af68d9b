use Rattle.std.proofs.Common.{length}
use Rattle.act_model.proofs.filing_rules.+different_folios.Given as goal

abbrev pub decreases-different_folios : goal.decreases-different_folios
decreases-different_folios l = length l.acts.now
