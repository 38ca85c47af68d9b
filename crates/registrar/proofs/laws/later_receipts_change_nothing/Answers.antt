use Rattle.registrar.proofs.BringsAsBefore.{brings_as_before}
use Rattle.registrar.proofs.SettledAsBefore.{has_settled_as_before, settled_named}
use Rattle.registrar.proofs.laws.later_receipts_change_nothing.Goals as goal

pub returns-clause-named : goal.returns-clause-named
returns-clause-named c = settled_named

pub returns-clause-brings : goal.returns-clause-brings
returns-clause-brings c = brings_as_before

pub returns-clause-settled : goal.returns-clause-settled
returns-clause-settled c = has_settled_as_before
