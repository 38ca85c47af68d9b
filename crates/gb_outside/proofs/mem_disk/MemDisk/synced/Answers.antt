-- Answers on a disk in memory.
use Rattle.std.proofs.Common.{false, ap, ◌∙◌, arith}
use Rattle.gb_outside.specs.Recorded.{synced}
use Rattle.gb_outside.specs.MemDisks.{is_full, disk_after}
use Rattle.gb_outside.proofs.Record.{sync_more}
use Rattle.gb_outside.proofs.MemDisks.{has_place, replayed_sync, recorded}
use Rattle.gb_outside.proofs.mem_disk.MemDisk.synced.Goals as goal

pub push_reserved-requires : goal.push_reserved-requires
push_reserved-requires c =
    let place = has_place c.self.inside.calls.items c.self.inside.written.items c.self.inside.most_calls _ (ap is_full c.self.view_is ∙ c.requires) c.self.invariant.1 in
    omega (arith, place)

pub invariant_of-self : goal.invariant_of-self
invariant_of-self c =
    let h = c.self.invariant in
    (h.0, rw c.push_reserved.ensures.capacity h.1, h.2, replayed_sync _ _ _ _ _ h.3 c.push_reserved.ensures.items)

pub returns : goal.returns
returns c =
    recorded synced _ _ (ap is_full c.self.view_is ∙ c.requires) (sync_more _ _ _ c.push_reserved.ensures.items)
    ∙ ap (disk_after false synced) c.self.view_is
