-- The keys of a map stand in ascending order.
use Rattle.act_model.proofs.KeyOrder.{in_key_order_members, in_key_order_sorted}
use Rattle.act_model.proofs.laws.key_order.Goals as goal

pub returns-clause-ascending : goal.returns-clause-ascending
returns-clause-ascending c = in_key_order_sorted

pub returns-clause-members : goal.returns-clause-members
returns-clause-members c = in_key_order_members
