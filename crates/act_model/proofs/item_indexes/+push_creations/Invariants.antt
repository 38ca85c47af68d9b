use Rattle.std.proofs.Common.{length}
use Rattle.act_model.proofs.item_indexes.+push_creations.Given as goal

abbrev pub decreases-push_creations : goal.decreases-push_creations
decreases-push_creations l = length l.acts.now
