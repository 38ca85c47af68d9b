-- Answers on a disk in memory.
use Rattle.std.proofs.Common.{◌≡◌, ◌+◌, ◌≤◌, ◌++◌, false, length, vec_capacity, ap, ◌∙◌, arith, rules}
use Rattle.gb_outside.specs.Recorded.{wrote}
use Rattle.gb_outside.specs.MemDisks.{file_of, is_full, disk_after, bytes_written}
use Rattle.gb_outside.proofs.Record.{write_more, bytes_written_all}
use Rattle.gb_outside.proofs.MemDisks.{has_place, replayed_write, recorded}
use Rattle.gb_outside.proofs.mem_disk.MemDisk.store.Goals as goal

pub unwrap-requires : goal.unwrap-requires
unwrap-requires c =
    let inside = c.self.inside in
    let room : length inside.written.items + length c.args.piece.now ≤ vec_capacity inside.written
    = omega (arith, ap (λ d. bytes_written d.done) c.self.view_is, ap (λ d. d.most_written) c.self.view_is, bytes_written_all inside.calls.items inside.written.items c.self.invariant.3.all_written, c.requires.written, c.self.invariant.2) in
    search (rules, room)

pub push_reserved-requires : goal.push_reserved-requires
push_reserved-requires c =
    let place = has_place c.self.inside.calls.items c.self.inside.written.items c.self.inside.most_calls _ (ap is_full c.self.view_is ∙ c.requires.calls) c.self.invariant.1 in
    omega (arith, place)

pub invariant_of-self : goal.invariant_of-self
invariant_of-self c =
    let h = c.self.invariant in
    let place : c.args.at ≤ length c.self.inside.bytes.items = omega (arith, c.requires.offset, ap length h.3.replayed, ap (λ d. length (file_of d)) c.self.view_is) in
    let longer : c.extend_from_slice.new.self.items ≡ c.self.inside.written.items ++ c.args.piece.now = search rules in (
      omega (arith, h.0, c.overwrite.ensures.room),
      rw c.push_reserved.ensures.capacity h.1,
      omega (arith, h.2, c.extend_from_slice.ensures.capacity),
      rw c.overwrite.ensures.file (replayed_write _ _ _ _ _ h.3 _ c.args.piece.now c.args.at c.args.size place c.requires.whole c.push_reserved.ensures.items longer),
    )

pub returns : goal.returns
returns c =
    let longer : c.extend_from_slice.new.self.items ≡ c.self.inside.written.items ++ c.args.piece.now = search rules in
    recorded (wrote c.args.at c.args.size c.args.piece.now) _ _ (ap is_full c.self.view_is ∙ c.requires.calls)
    (write_more _ _ _ _ c.args.piece.now c.args.at c.args.size c.push_reserved.ensures.items longer c.self.invariant.3.all_written)
    ∙ ap (disk_after false (wrote c.args.at c.args.size c.args.piece.now)) c.self.view_is
