-- Two lists in ascending order begin with the same key.
use Rattle.act_model.proofs.KeyOrder.{one_list}
use Rattle.act_model.proofs.laws.one_key_order.Goals as goal

pub returns : goal.returns
returns c = one_list
