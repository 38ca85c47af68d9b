use Rattle.registrar.proofs.GoingOn.{none_behind}
use Rattle.registrar.proofs.settled.Settled.new.Goals as goal

pub returns-clause-behind : goal.returns-clause-behind
returns-clause-behind c = λ journal.
    none_behind journal _ c.in_ok-new.ensures.held c.in_ok-new.ensures.empty c.new-2.ensures.items c.new-3.ensures.items (c.empty_register_is_kept.ensures.kept journal)
