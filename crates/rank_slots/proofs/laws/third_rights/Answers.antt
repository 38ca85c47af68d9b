use Rattle.rank_slots.proofs.ThirdRights.{third_right}
use Rattle.rank_slots.proofs.laws.third_rights.Goals as goal

pub returns : goal.returns
returns c = record { kept = third_right }
