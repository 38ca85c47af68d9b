use Rattle.std.proofs.Common.{length}
use Rattle.act_model.proofs.touched_keys.+index_for.Given as goal

abbrev pub decreases-index_for : goal.decreases-index_for
decreases-index_for l = length l.keys.now
