use Rattle.registrar.proofs.FitFilings.{fit_is_cured, fit_is_entered}
use Rattle.registrar.proofs.laws.fit_filings_are_entered.Goals as goal

pub returns-clause-at_once : goal.returns-clause-at_once
returns-clause-at_once c = fit_is_entered

pub returns-clause-by_cure : goal.returns-clause-by_cure
returns-clause-by_cure c = fit_is_cured
