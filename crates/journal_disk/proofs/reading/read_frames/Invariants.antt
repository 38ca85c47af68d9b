use Rattle.std.proofs.Common.{◌≡◌, ◌<◌, ◌≤◌, ◌-◌, min, IsTrue, drop, vec_len}
use Rattle.journal_disk.specs.Layout.{the_heading}
use Rattle.journal_disk.specs.Opening.{AreFramesTo}
use Rattle.journal_disk.specs.inner.Reading.{OnlyReads}
use Rattle.journal_disk.proofs.Blocks.{ReadTo}
use Rattle.journal_disk.proofs.reading.read_frames.Given as goal

abbrev pub invariant-loop-frames : goal.invariant-loop-frames
invariant-loop-frames g l = record {
  block : min 65536 (l.len - l.at) ≤ vec_len l.block;
  left : l.at < l.len;
  frames : AreFramesTo the_heading l.frames.items l.at;
  read : IsTrue g.D.Disk.tells → ReadTo (g.D.Disk.reads l.fn.disk) l.at l.frames.items (drop l.at (g.D.Disk.reads l.fn.disk));
  only_reads : IsTrue g.D.Disk.tells → OnlyReads g.D.Disk.reads g.D.Disk.images g.D.Disk.moment g.D.Disk.since l.fn.disk l.disk;
  quiet : g.D.Disk.faults l.disk ≡ g.D.Disk.faults l.fn.disk;
}

abbrev pub decreases-loop-frames : goal.decreases-loop-frames
decreases-loop-frames g l = l.len - l.at
