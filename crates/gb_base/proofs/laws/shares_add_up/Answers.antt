use Rattle.gb_base.proofs.Sharing.{sum_of_shares}
use Rattle.gb_base.proofs.laws.shares_add_up.Goals as goal

pub returns : goal.returns
returns c = sum_of_shares
