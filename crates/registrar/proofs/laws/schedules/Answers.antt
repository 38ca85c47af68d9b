use Rattle.registrar.proofs.PermittedRuns.{brought_as_first}
use Rattle.registrar.proofs.SameSchedules.{same_entries, same_verdicts}
use Rattle.registrar.proofs.laws.schedules.Goals as goal

pub returns-clause-brought : goal.returns-clause-brought
returns-clause-brought c = λ journal before after i stands permitted. brought_as_first journal before after i stands (c.empty_register_is_kept.ensures.kept journal) permitted

pub returns-clause-entries : goal.returns-clause-entries
returns-clause-entries c = λ journal order k stands permitted. same_entries journal order k stands (c.empty_register_is_kept.ensures.kept journal) permitted

pub returns-clause-verdicts : goal.returns-clause-verdicts
returns-clause-verdicts c = λ journal order n stands permitted. same_verdicts journal order n stands (c.empty_register_is_kept.ensures.kept journal) permitted
