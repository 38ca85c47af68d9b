use Rattle.std.proofs.Common.{arith}
use Rattle.registrar.proofs.RoomSoFar.{room_at_all, room_at_next, widens_all, widens_next}
use Rattle.registrar.proofs.making_room.make_room.Goals as goal

pub loop-key-preserved : goal.loop-key-preserved
loop-key-preserved c =
    room_at_next c.args.parts.now c.loop-key.parts c.hold_with_room.new.self c.args.keys.now c.loop-key.key-index c.key-item.result
    c.loop-key.invariant (omega arith) c.key-item.is c.in_ok-hold_with_room.ensures.held c.hold_with_room.ensures.entries
    c.in_ok-hold_with_room.ensures.room c.hold_with_room.ensures.kept

pub returns-clause-room : goal.returns-clause-room
returns-clause-room c = λ k there. room_at_all c.args.parts.now c.loop-key.parts c.args.keys.now c.loop-key.key-index k c.loop-key.invariant c.loop-key-test.false there

pub returns-clause-widens : goal.returns-clause-widens
returns-clause-widens c = widens_all c.args.parts.now c.loop-key.parts c.args.keys.now c.loop-key.key-index c.loop-key.invariant c.loop-key-test.false

pub returns-in_err-hold_with_room-clause-widens : goal.returns-in_err-hold_with_room-clause-widens
returns-in_err-hold_with_room-clause-widens c =
    widens_next c.args.parts.now c.loop-key.parts c.hold_with_room.new.self c.args.keys.now c.loop-key.key-index c.key-item.result
    c.loop-key.invariant (omega arith) c.key-item.is c.hold_with_room.ensures.widens
