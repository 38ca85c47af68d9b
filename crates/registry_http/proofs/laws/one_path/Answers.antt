use Rattle.registry_http.proofs.OneRoute.{one_route}
use Rattle.registry_http.proofs.laws.one_path.Goals as goal

pub returns : goal.returns
returns c = one_route
