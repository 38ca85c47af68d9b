-- Answers on a disk in memory.
use Rattle.std.proofs.Common.{◌≡◌, length, ap, arith}
use Rattle.gb_outside.specs.MemDisks.{is_full}
use Rattle.gb_outside.specs.inner.Calls.{events}
use Rattle.gb_outside.proofs.Record.{length_events}
use Rattle.gb_outside.proofs.mem_disk.MemDisk.is_full.Goals as goal

pub returns : goal.returns
returns c =
    let inside = c.self.inside in
    let count : c.len.result ≡ length (events inside.calls.items inside.written.items) = omega (arith, length_events inside.calls.items inside.written.items) in
    rw count (ap is_full c.self.view_is)
