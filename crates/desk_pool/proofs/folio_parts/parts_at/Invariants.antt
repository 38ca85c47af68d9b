use Rattle.desk_pool.proofs.PreparedParts.{HeldSoFar}
use Rattle.desk_pool.proofs.folio_parts.parts_at.Given as goal

abbrev pub invariant-loop-wanted : goal.invariant-loop-wanted
invariant-loop-wanted l = HeldSoFar l.parts l.keys l.wanted-index
