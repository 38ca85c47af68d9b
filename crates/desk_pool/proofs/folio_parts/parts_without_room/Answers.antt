-- Keys are held, one after the other.
use Rattle.desk_pool.proofs.PreparedParts.{none_held, one_more_held}
use Rattle.desk_pool.proofs.folio_parts.parts_without_room.Goals as goal

pub loop-wanted-init : goal.loop-wanted-init
loop-wanted-init c = none_held c.in_ok-parts.parts c.args.keys.now c.in_ok-parts.ensures.held c.in_ok-parts.ensures.empty

pub loop-wanted-preserved : goal.loop-wanted-preserved
loop-wanted-preserved c =
    one_more_held c.loop-wanted.parts c.hold.new.self c.args.keys.now c.loop-wanted.wanted-index c.wanted-item.result
    c.loop-wanted.invariant c.loop-wanted-test.true c.wanted-item.is c.in_ok-hold.ensures.held c.hold.ensures.entries
