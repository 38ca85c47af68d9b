use Rattle.registrar.proofs.Registering.{registrar_kept}
use Rattle.registrar.proofs.laws.registers_are_kept.Goals as goal

pub returns : goal.returns
returns c = record { kept = λ journal stands. registrar_kept journal stands (c.empty_register_is_kept.ensures.kept journal) }
