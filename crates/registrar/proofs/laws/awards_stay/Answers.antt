use Rattle.registrar.proofs.AwardsKeep.{brings_keep}
use Rattle.registrar.proofs.laws.awards_stay.Goals as goal

pub returns : goal.returns
returns c = record { awards = brings_keep }
