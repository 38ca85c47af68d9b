use Rattle.std.proofs.Common.{length}
use Rattle.act_model.proofs.filing_rules.+gives_owners_once.Given as goal

abbrev pub decreases-gives_owners_once : goal.decreases-gives_owners_once
decreases-gives_owners_once l = length l.acts.now
