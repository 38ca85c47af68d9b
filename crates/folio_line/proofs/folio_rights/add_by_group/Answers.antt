use Rattle.std.proofs.Common.{◌<◌, ◌∙◌, filter, vec_capacity, arith}
use Rattle.folio_line.specs.FolioRights.{has_group}
use Rattle.folio_line.proofs.GroupWrites.{group_fits, next_group}
use Rattle.folio_line.proofs.folio_rights.add_by_group.Goals as goal

pub add_group-requires : goal.add_group-requires
add_group-requires c =
    let last = c.loop-group-test.true in
    let room = c.requires in
    let same = c.loop-group.invariant.capacity in
    let below : c.loop-group.group < 9 = omega (arith, last) in
    group_fits (λ group. filter (has_group group) c.args.of_filing.now) c.loop-group.group (vec_capacity c.loop-group.list) c.loop-group.list.items c.args.list.now.items c.args.of_filing.now below
    c.loop-group.invariant.items (omega (arith, room, same))

pub loop-group-preserved : goal.loop-group-preserved
loop-group-preserved c =
    let last = c.loop-group-test.true in
    let below : c.loop-group.group < 9 = omega (arith, last) in
    record {
      items = next_group (λ group. filter (has_group group) c.args.of_filing.now) c.loop-group.group c.loop-group.list.items c.add_group.new.list.items _ below c.add_group.ensures.items c.loop-group.invariant.items;
      capacity = c.add_group.ensures.capacity ∙ c.loop-group.invariant.capacity;
    }
