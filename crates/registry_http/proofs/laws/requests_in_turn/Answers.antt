use Rattle.registry_http.proofs.AlwaysOne.{never_no_list}
use Rattle.registry_http.proofs.InTurn.{one_list, in_turn}
use Rattle.registry_http.proofs.laws.requests_in_turn.Goals as goal

pub returns-clause-some_list : goal.returns-clause-some_list
returns-clause-some_list c = never_no_list

pub returns-clause-one_list : goal.returns-clause-one_list
returns-clause-one_list c = one_list

pub returns-clause-in_turn : goal.returns-clause-in_turn
returns-clause-in_turn c = in_turn
