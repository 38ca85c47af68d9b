-- Answers on a disk in memory.
use Rattle.std.proofs.Common.{false, ap, sym, ◌∙◌, arith}
use Rattle.gb_outside.specs.Recorded.{idle}
use Rattle.gb_outside.specs.MemDisks.{is_full, disk_after}
use Rattle.gb_outside.proofs.Record.{idle_more}
use Rattle.gb_outside.proofs.MemDisks.{has_place, replayed_idle, recorded}
use Rattle.gb_outside.proofs.mem_disk.MemDisk.idle.Goals as goal

pub push_reserved-requires : goal.push_reserved-requires
push_reserved-requires c =
    let place = has_place c.self.inside.calls.items c.self.inside.written.items c.self.inside.most_calls _ (ap is_full c.self.view_is ∙ sym c.is_full.ensures ∙ c.if-not-is_full.true) c.self.invariant.1 in
    omega (arith, place)

pub invariant_of-self : goal.invariant_of-self
invariant_of-self c =
    let h = c.self.invariant in
    (h.0, rw c.push_reserved.ensures.capacity h.1, h.2, replayed_idle _ _ _ _ _ h.3 c.push_reserved.ensures.items)

pub returns-then-not-is_full : goal.returns-then-not-is_full
returns-then-not-is_full c =
    recorded idle _ _ (ap is_full c.self.view_is ∙ sym c.is_full.ensures ∙ c.if-not-is_full.true) (idle_more _ _ _ c.push_reserved.ensures.items)
    ∙ ap (disk_after false idle) c.self.view_is
