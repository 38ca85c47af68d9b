use Rattle.desk_pool.proofs.TurnedNeighbours.{neighbours_turned}
use Rattle.desk_pool.proofs.laws.neighbours_may_change_places.Goals as goal

pub returns : goal.returns
returns c = record { turned = neighbours_turned }
