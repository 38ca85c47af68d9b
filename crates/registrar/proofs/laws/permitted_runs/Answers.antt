use Rattle.registrar.proofs.PermittedRuns.{at_front, found_at}
use Rattle.registrar.proofs.laws.permitted_runs.Goals as goal

pub returns-clause-kept : goal.returns-clause-kept
returns-clause-kept c = λ journal before after stands permitted. (at_front journal before after stands (c.empty_register_is_kept.ensures.kept journal) permitted).kept

pub returns-clause-awards : goal.returns-clause-awards
returns-clause-awards c = λ journal before after stands permitted. (at_front journal before after stands (c.empty_register_is_kept.ensures.kept journal) permitted).awards

pub returns-clause-earlier : goal.returns-clause-earlier
returns-clause-earlier c = λ journal before after i k stands permitted there. (found_at journal before after i stands (c.empty_register_is_kept.ensures.kept journal) permitted).earlier k there
