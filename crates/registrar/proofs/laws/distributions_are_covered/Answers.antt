use Rattle.registrar.proofs.DistributionsSaid.{said_by_first}
use Rattle.registrar.proofs.Registering.{first_are_covered}
use Rattle.registrar.proofs.laws.distributions_are_covered.Goals as goal

pub returns : goal.returns
returns c = record {
  kept = λ journal n stands. first_are_covered journal n stands (c.empty_register_is_kept.ensures.kept journal);
  verdicts = λ journal n m cents stands is. said_by_first journal n m cents stands (c.empty_register_is_kept.ensures.kept journal) is;
}
