use Rattle.rank_slots.proofs.ExchangedCents.{in_order, stay, thirds}
use Rattle.rank_slots.proofs.laws.exchange.Goals as goal

pub returns-clause-stay : goal.returns-clause-stay
returns-clause-stay c = stay

pub returns-clause-thirds : goal.returns-clause-thirds
returns-clause-thirds c = thirds

pub returns-clause-in_order : goal.returns-clause-in_order
returns-clause-in_order c = in_order
