use Rattle.rank_slots.proofs.KnotPay.{two_get, uncut}
use Rattle.rank_slots.proofs.laws.pay_exercised.Goals as goal

pub returns-clause-uncut : goal.returns-clause-uncut
returns-clause-uncut c = uncut

pub returns-clause-together : goal.returns-clause-together
returns-clause-together c = two_get
