use Rattle.registry_http.proofs.Wanted.{lacking_wants, whole_wants_none, refused_wants_none, none_wants_none, long_wants_none, front_wants}
use Rattle.registry_http.proofs.laws.wanted_bytes.Goals as goal

pub returns-clause-lacking : goal.returns-clause-lacking
returns-clause-lacking c = lacking_wants

pub returns-clause-whole : goal.returns-clause-whole
returns-clause-whole c = whole_wants_none

pub returns-clause-refused : goal.returns-clause-refused
returns-clause-refused c = refused_wants_none

pub returns-clause-no_head : goal.returns-clause-no_head
returns-clause-no_head c = none_wants_none

pub returns-clause-too_long : goal.returns-clause-too_long
returns-clause-too_long c = long_wants_none

pub returns-clause-front : goal.returns-clause-front
returns-clause-front c = front_wants
