use Rattle.std.proofs.Common.{length}
use Rattle.act_model.proofs.people.+distinct.Given as goal

abbrev pub decreases-distinct : goal.decreases-distinct
decreases-distinct l = length l.list.now
