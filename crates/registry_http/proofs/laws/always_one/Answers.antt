use Rattle.registry_http.proofs.AlwaysOne.{never_nothing}
use Rattle.registry_http.proofs.laws.always_one.Goals as goal

pub returns : goal.returns
returns c = never_nothing
