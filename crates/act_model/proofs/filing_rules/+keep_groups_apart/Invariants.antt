use Rattle.std.proofs.Common.{length}
use Rattle.act_model.proofs.filing_rules.+keep_groups_apart.Given as goal

abbrev pub decreases-keep_groups_apart : goal.decreases-keep_groups_apart
decreases-keep_groups_apart l = length l.acts.now
