-- Each creating act has a rank.
use Rattle.act_model.proofs.CreationRanks.{has_rank}
use Rattle.act_model.proofs.laws.creating_acts_have_ranks.Goals as goal

pub returns : goal.returns
returns c = λ journal right. has_rank journal right
