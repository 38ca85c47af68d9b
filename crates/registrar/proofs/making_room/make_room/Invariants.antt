use Rattle.registrar.proofs.RoomSoFar.{RoomSoFar}
use Rattle.registrar.proofs.making_room.make_room.Given as goal

abbrev pub invariant-loop-key : goal.invariant-loop-key
invariant-loop-key l = RoomSoFar l.fn.parts l.parts l.keys l.key-index
