use Rattle.rank_slots.proofs.HandedOut.{all_handed_out}
use Rattle.rank_slots.proofs.KnotPay.{knot_within}
use Rattle.rank_slots.proofs.laws.knots.Goals as goal

pub returns-clause-within : goal.returns-clause-within
returns-clause-within c = knot_within

pub returns-clause-handed_out : goal.returns-clause-handed_out
returns-clause-handed_out c = all_handed_out
