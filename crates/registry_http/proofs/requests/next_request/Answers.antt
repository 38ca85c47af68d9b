use Rattle.registry_http.proofs.FewKept.{few_kept}
use Rattle.registry_http.proofs.requests.next_request.Goals as goal

pub returns-in-Ok-clause-few : goal.returns-in-Ok-clause-few
returns-in-Ok-clause-few g c = few_kept _ _ _ _ _ c.in-Ok.ensures.request

pub returns-in-Err-clause-few : goal.returns-in-Err-clause-few
returns-in-Err-clause-few g c = few_kept _ _ _ _ _ c.in-Err.ensures.answer
