use Rattle.desk_pool.proofs.PreparedParts.{AreHeldSoFar}
use Rattle.desk_pool.proofs.folio_parts.parts_without_room.Given as goal

abbrev pub invariant-loop-wanted : goal.invariant-loop-wanted
invariant-loop-wanted l = AreHeldSoFar l.parts l.keys l.wanted-index
