use Rattle.kept_registers.proofs.RightPlaces.{right_in_place}
use Rattle.kept_registers.proofs.laws.rights_stand_at_their_places.Goals as goal

pub returns : goal.returns
returns c = record { in_place = right_in_place }
