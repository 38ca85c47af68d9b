use Rattle.std.proofs.Common.{length}
use Rattle.act_model.proofs.item_indexes.+reserve_creations.Given as goal

abbrev pub decreases-reserve_creations : goal.decreases-reserve_creations
decreases-reserve_creations l = length l.acts.now
