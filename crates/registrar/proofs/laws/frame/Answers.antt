use Rattle.registrar.proofs.OwnKeys.{own_keys}
use Rattle.registrar.proofs.laws.frame.Goals as goal

pub returns : goal.returns
returns c = record { own = own_keys }
