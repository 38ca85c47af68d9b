-- `==` of items decides whether they are equal.
use Rattle.act_model.proofs.DerivedEquality.{exact_decides}
use Rattle.act_model.proofs.ItemEquality.{items_exact}
use Rattle.act_model.proofs.laws.equal_items.Goals as goal

pub returns : goal.returns
returns c = λ a b. exact_decides items_exact a b
