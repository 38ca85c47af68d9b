use Rattle.std.proofs.Common.{◌≡◌, ◌+◌, ◌≤◌, length, take, ◌∙◌, arith, rules, refl, ◌⊎◌, length-take}
use Rattle.journal_disk.specs.declared.scan.Ending.TheVariants.{Short, Wrong}
use Rattle.journal_disk.proofs.OnlyRead.{read_then}
use Rattle.journal_disk.proofs.Blocks.{frames_more, block_read, read_on, ends_closed, ends_open}
use Rattle.journal_disk.proofs.reading.read_frames.Goals as goal

pub returns-in-Closed-clause-answer : goal.returns-in-Closed-clause-answer
returns-in-Closed-clause-answer g c = λ yes.
    let size = length (take c.min-size.result c.deref_mut.result.now) in
    let read = c.loop-frames.invariant in
    ends_closed _ c.loop-frames.at size _ _ _ (block_read _ _ _ c.loop-frames.at size _ _ _ _ (read.only_reads yes).same (read.read yes) (c.in_ok-end.ensures.read yes) c.in_ok-end.ensures.scanned) c.in-Closed.is

pub loop-frames-preserved : goal.loop-frames-preserved
loop-frames-preserved g c =
    let size = length (take c.min-size.result c.deref_mut.result.now) in
    let read = c.loop-frames.invariant in
    let sized : size ≡ c.min-size.result = omega (arith, length-take c.min-size.result c.deref_mut.result.now, c.deref_mut.ensures.len, read.block, c.min-size.ensures) in
    record {
      block = omega (arith, read.block, c.in_ok-end.ensures.moves (omega (arith, sized, c.min-size.ensures, c.if-size-len.true)) c.in-Short.is);
      left = omega (arith, c.in_ok-end.ensures.ahead, sized, c.if-size-len.true);
      frames = frames_more _ c.loop-frames.at _ _ _ _ read.frames c.in_ok-end.ensures.scanned;
      read = λ yes. read_on _ _ _ _ (block_read _ _ _ c.loop-frames.at size _ _ _ _ (read.only_reads yes).same (read.read yes) (c.in_ok-end.ensures.read yes) c.in_ok-end.ensures.scanned).read;
      only_reads = λ yes. read_then _ _ _ _ _ _ _ (read.only_reads yes) (c.scan_block.ensures.reads yes);
      quiet = c.in_ok-end.ensures.cause.else_same refl ∙ read.quiet;
    }

pub returns-in-Short-2-clause-answer : goal.returns-in-Short-2-clause-answer
returns-in-Short-2-clause-answer g c = λ yes.
    let size = length (take c.min-size.result c.deref_mut.result.now) in
    let read = c.loop-frames.invariant in
    let sized : size ≡ c.min-size.result = omega (arith, length-take c.min-size.result c.deref_mut.result.now, c.deref_mut.ensures.len, read.block, c.min-size.ensures) in
    let block = block_read _ _ _ c.loop-frames.at size _ _ _ _ (read.only_reads yes).same (read.read yes) (c.in_ok-end.ensures.read yes) c.in_ok-end.ensures.scanned in
    let last : c.in_ok-end.end.ending ≡ Short → length (g.D.Disk.reads c.args.disk.now) ≤ c.loop-frames.at + size = grind (arith, sized, c.requires.length yes) in
    let open_gate : (c.in_ok-end.end.ending ≡ Short) ⊎ (c.in_ok-end.end.ending ≡ Wrong) = search rules in
    let ends = ends_open _ c.loop-frames.at size _ _ _ block last open_gate in
    ((ends.0, ends.1, ends.2), ends.3)

pub returns-in-Closed-clause-frames : goal.returns-in-Closed-clause-frames
returns-in-Closed-clause-frames g c = frames_more _ c.loop-frames.at _ _ _ _ c.loop-frames.invariant.frames c.in_ok-end.ensures.scanned

pub returns-in-Short-2-clause-ahead : goal.returns-in-Short-2-clause-ahead
returns-in-Short-2-clause-ahead g c = frames_more _ c.loop-frames.at _ _ _ _ c.loop-frames.invariant.frames c.in_ok-end.ensures.scanned
