use Rattle.registrar.proofs.AnsweredOnce.{as_many, just_the_numbers}
use Rattle.registrar.proofs.laws.verdicts_are_numbered.Goals as goal

pub returns-clause-count : goal.returns-clause-count
returns-clause-count c = as_many

pub returns-clause-numbered : goal.returns-clause-numbered
returns-clause-numbered c = just_the_numbers
