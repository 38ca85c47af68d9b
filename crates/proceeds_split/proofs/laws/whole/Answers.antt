-- A plan's payments come to the money.
use Rattle.proceeds_split.proofs.PlanPaid.{plan_sum}
use Rattle.proceeds_split.proofs.laws.whole.Goals as goal

pub returns : goal.returns
returns c = plan_sum
