-- A peer goes on once it has had its reply.
use Rattle.std.proofs.Common.{refl}
use Rattle.grundbuch.proofs.connection.Connection.go_on.Goals as goal

pub returns-then-not-has_replied-clause-goes_on : goal.returns-then-not-has_replied-clause-goes_on
returns-then-not-has_replied-clause-goes_on g c = record { goes = λ goes. absurd cc; stays = λ _. refl }

pub returns-clause-goes_on : goal.returns-clause-goes_on
returns-clause-goes_on g c = record { goes = λ _. (c.go_on.result, c.go_on.ensures); stays = λ stays. absurd cc }
