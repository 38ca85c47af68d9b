use Rattle.registrar.proofs.Locality.{locality}
use Rattle.registrar.proofs.laws.locality.Goals as goal

pub returns : goal.returns
returns c = record { same = locality }
