use Rattle.registrar.proofs.Registering.{first_keep_awards}
use Rattle.registrar.proofs.laws.registers_keep_awards.Goals as goal

pub returns : goal.returns
returns c = record { awards = λ journal n stands. first_keep_awards journal n stands (c.empty_register_is_kept.ensures.kept journal) }
