-- Keys are held, one after the other, with their room.
use Rattle.desk_pool.proofs.PreparedParts.{held_next, held_none}
use Rattle.desk_pool.proofs.folio_parts.parts_at.Goals as goal

pub loop-wanted-init : goal.loop-wanted-init
loop-wanted-init c = held_none c.in_ok-parts.parts c.args.keys.now c.in_ok-parts.ensures.held c.in_ok-parts.ensures.empty

pub loop-wanted-preserved : goal.loop-wanted-preserved
loop-wanted-preserved c =
    held_next c.loop-wanted.parts c.hold.new.self c.reserve.new.self c.args.keys.now c.loop-wanted.wanted-index c.wanted-item.result
    c.loop-wanted.invariant c.loop-wanted-test.true c.wanted-item.is c.in_ok-hold.ensures.held c.hold.ensures.entries c.hold.ensures.kept
    c.reserve.ensures.held c.reserve.ensures.entries c.in_ok-reserve.ensures.room c.reserve.ensures.kept
