use Rattle.registry_http.proofs.OneFound.{one_found}
use Rattle.registry_http.proofs.OneRequest.{whole_stays, refused_stays, too_long_stays}
use Rattle.registry_http.proofs.laws.one_request.Goals as goal

pub returns-clause-only_one : goal.returns-clause-only_one
returns-clause-only_one c = one_found

pub returns-clause-whole : goal.returns-clause-whole
returns-clause-whole c = whole_stays

pub returns-clause-refused : goal.returns-clause-refused
returns-clause-refused c = refused_stays

pub returns-clause-too_long : goal.returns-clause-too_long
returns-clause-too_long c = too_long_stays
